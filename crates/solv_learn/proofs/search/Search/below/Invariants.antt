use Rattle.std.proofs.Common.{◌≡◌, ℕ, ◌<◌, ◌≤◌, ◌++◌, Bool, true, false, List, length, get_or}
use Rattle.std.specs.Prelude.{ℤ, pos, Option, reverse}
use Rattle.std.specs.List.{list_all}
use Rattle.solv_derive.specs.declared.logs.Hint.{Hint}
use Rattle.solv_trail.specs.Inner.Propagated.{IsReasoned}
use Rattle.solv_learn.specs.Inner.Collecting.{HavePlaces}
use Rattle.solv_learn.specs.Inner.Marks.{has, has_place}
use Rattle.solv_learn.specs.Inner.Refuting.{Refutes, Finds, is_in_use}
use Rattle.solv_learn.proofs.search.Search.below.Given as goal

abbrev pub invariant-loop-place : goal.invariant-loop-place
invariant-loop-place l =
    let rules = l.book.rules ++ l.learnt.rules in
    record {
      count : l.self.marked.count ≡ l.initial.self.marked.count;
      within : l.ahead ≤ l.end;
      places : HavePlaces l.known.lits (has l.self.marked) (has_place l.self.marked);
      refutes : (look : Hint → Option (List ℤ)) (kept : ℤ → Bool) → Finds look rules (length l.book.rules) l.base → ((k : ℕ) → k < l.end → kept (get_or l.known.lits k (pos 0)) ≡ false)
          → Refutes look kept l.known.lits l.end (has l.initial.self.marked) (reverse l.initial.self.hints.items) → Refutes look kept l.known.lits l.ahead (has l.self.marked) (reverse l.self.hints.items);
      in_use : (used : ℕ → Bool) → IsReasoned rules used l.known → list_all (is_in_use used (length l.book.rules) l.base (length rules)) l.initial.self.hints.items ≡ true → list_all (is_in_use used (length l.book.rules) l.base (length rules)) l.self.hints.items ≡ true;
      nothing_kept : l.self.clause.items ≡ l.initial.self.clause.items;
    }

abbrev pub decreases-loop-place : goal.decreases-loop-place
decreases-loop-place l = l.ahead
