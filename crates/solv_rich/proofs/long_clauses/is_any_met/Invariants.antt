use Rattle.std.proofs.Common.{◌≡◌, ◌||◌, drop, map}
use Rattle.std.specs.List.{list_any}
use Rattle.solv_pool.specs.Prelude.{is_in, same_literal, negation}
use Rattle.solv_rich.specs.Inner.Expansions.{literal_of}
use Rattle.solv_rich.specs.Inner.LongClauses.{has_literal}
use Rattle.solv_rich.proofs.long_clauses.is_any_met.Given as goal

abbrev pub invariant-loop-each : goal.invariant-loop-each
invariant-loop-each l = list_any (λ m. same_literal (is_in 0) m || has_literal l.set (negation m)) (map literal_of (drop l.each-index l.said)) ≡ list_any (λ m. same_literal (is_in 0) m || has_literal l.set (negation m)) (map literal_of l.said)
