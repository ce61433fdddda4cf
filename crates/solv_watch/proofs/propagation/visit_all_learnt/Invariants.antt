use Rattle.std.proofs.Common.{◌≡◌, ℕ, Bool, true, List, ◌<◌, length}
use Rattle.std.specs.Prelude.{ℤ}
use Rattle.solv_derive.specs.Inner.Forced.{is_satisfied}
use Rattle.solv_trail.specs.Inner.Propagated.{IsUsed, IsGrown}
use Rattle.solv_watch.specs.Inner.Watching.{IsPart, always}
use Rattle.solv_watch.proofs.propagation.visit_all_learnt.Given as goal

abbrev pub invariant-loop-rule : goal.invariant-loop-rule
invariant-loop-rule l = record {
  count : l.known.count ≡ l.fn.known.count;
  grown : (all : List (List ℤ)) (used : ℕ → Bool) → IsPart all used l.base l.rules.rules always → IsGrown all used l.fn.known l.known;
  satisfied : (r : ℕ) (c : List ℤ) → r < l.rule → IsUsed l.rules.rules always r c → length c < 2 → is_satisfied l.known.lits c ≡ true;
}
