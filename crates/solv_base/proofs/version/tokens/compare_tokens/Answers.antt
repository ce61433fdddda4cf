use Rattle.std.proofs.Common.{rules}
use Rattle.solv_base.proofs.TokenOrder.{version_same}
use Rattle.solv_base.proofs.version.tokens.compare_tokens.Goals as goal

pub returns-then-eq : goal.returns-then-eq
returns-then-eq c = version_same c.args.a.now c.args.b.now (search rules)
