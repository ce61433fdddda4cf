use Rattle.std.proofs.Common.{◌≡◌, ℕ, Bool, true, List, ◌<◌, get_or}
use Rattle.std.specs.Prelude.{ℤ}
use Rattle.solv_derive.specs.Inner.Forced.{is_satisfied}
use Rattle.solv_trail.specs.Propagated.{in_use}
use Rattle.solv_trail.specs.Inner.Propagated.{IsUsed, IsGrown}
use Rattle.solv_watch.specs.Inner.Watching.{IsPart}
use Rattle.solv_watch.proofs.propagation.visit_all_narrow.Given as goal

abbrev pub invariant-loop-rule : goal.invariant-loop-rule
invariant-loop-rule l = record {
  count : l.known.count ≡ l.fn.known.count;
  grown : (all : List (List ℤ)) (used : ℕ → Bool) → IsPart all used 0 l.rules.rules (in_use l.owners l.enabled) → IsGrown all used l.fn.known l.known;
  satisfied : (k : ℕ) → k < l.rule-index → (c : List ℤ) → IsUsed l.rules.rules (in_use l.owners l.enabled) (get_or l.narrow k 0) c → is_satisfied l.known.lits c ≡ true;
}
