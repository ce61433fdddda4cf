use Rattle.std.proofs.Common.{◌≡◌, ℕ, ◌<◌, ◌≤◌, ◌++◌, Bool, true, false, List, length}
use Rattle.std.specs.Prelude.{ℤ, Option, reverse}
use Rattle.std.specs.List.{list_all}
use Rattle.solv_derive.specs.declared.logs.Hint.{Hint}
use Rattle.solv_trail.specs.Inner.Propagated.{IsReasoned}
use Rattle.solv_learn.specs.Inner.Collecting.{IsCollected, HavePlaces}
use Rattle.solv_learn.specs.Inner.Marks.{has, has_place}
use Rattle.solv_learn.specs.Inner.Refuting.{Refutes, Finds, is_in_use}
use Rattle.solv_learn.proofs.search.Search.to_unique.Given as goal

abbrev pub invariant-loop-self : goal.invariant-loop-self
invariant-loop-self l =
    let rules = l.book.rules ++ l.learnt.rules in
    record {
      count : l.self.marked.count ≡ l.initial.self.marked.count;
      ahead : l.self.lowest < l.place;
      within : l.place ≤ length l.known.lits;
      collected : IsCollected l.known.lits l.choices.first l.choices.last (has l.self.marked) l.self.clause.items l.self.lowest;
      places : HavePlaces l.known.lits (has l.initial.self.marked) (has_place l.initial.self.marked) → HavePlaces l.known.lits (has l.self.marked) (has_place l.self.marked);
      refutes : (look : Hint → Option (List ℤ)) → Finds look rules (length l.book.rules) l.base → Refutes look (λ x. false) l.known.lits (length l.known.lits) (has l.initial.self.marked) (reverse l.initial.self.hints.items) → Refutes look (λ x. false) l.known.lits l.place (has l.self.marked) (reverse l.self.hints.items);
      in_use : (used : ℕ → Bool) → IsReasoned rules used l.known → list_all (is_in_use used (length l.book.rules) l.base (length rules)) l.initial.self.hints.items ≡ true → list_all (is_in_use used (length l.book.rules) l.base (length rules)) l.self.hints.items ≡ true;
    }

abbrev pub decreases-loop-self : goal.decreases-loop-self
decreases-loop-self l = l.place
