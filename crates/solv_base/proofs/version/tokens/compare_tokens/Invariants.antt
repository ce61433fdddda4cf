use Rattle.std.proofs.Common.{◌≡◌, length}
use Rattle.solv_base.specs.Tokens.{tokens, tokens_cmp}
use Rattle.solv_base.proofs.version.tokens.compare_tokens.Given as goal

abbrev pub invariant-loop-a : goal.invariant-loop-a
invariant-loop-a l = tokens_cmp (tokens l.a) (tokens l.b) ≡ tokens_cmp (tokens l.fn.a) (tokens l.fn.b)

abbrev pub decreases-loop-a : goal.decreases-loop-a
decreases-loop-a l = length l.a
