use Rattle.std.proofs.Common.{◌≡◌, drop}
use Rattle.solv_base.specs.Tokens.{tokens}
use Rattle.solv_base.proofs.version.tokens.skip_separators.Given as goal

abbrev pub invariant-loop-i : goal.invariant-loop-i
invariant-loop-i l = tokens (drop l.i l.text) ≡ tokens l.text
