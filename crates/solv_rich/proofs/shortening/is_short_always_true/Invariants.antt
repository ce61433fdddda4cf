use Rattle.std.proofs.Common.{◌≡◌, ◌||◌, drop, map}
use Rattle.std.specs.List.{list_any}
use Rattle.solv_pool.specs.Prelude.{is_in, same_literal, negation, contains_literal, is_always_true}
use Rattle.solv_rich.specs.Inner.Expansions.{literal_of}
use Rattle.solv_rich.proofs.shortening.is_short_always_true.Given as goal

abbrev pub invariant-loop-each : goal.invariant-loop-each
invariant-loop-each l = list_any (λ m. same_literal (is_in 0) m || contains_literal (map literal_of l.said) (negation m)) (map literal_of (drop l.each-index l.said)) ≡ is_always_true (map literal_of l.said)
