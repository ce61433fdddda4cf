use Rattle.std.proofs.Common.{◌≡◌, ◌≤◌, take, length}
use Rattle.solv_learn.specs.Inner.Collecting.{IsCollected, HasMarked, HavePlaces}
use Rattle.solv_learn.specs.Inner.Marks.{has, has_place}
use Rattle.solv_learn.proofs.search.Search.mark_all.Given as goal

abbrev pub invariant-loop-lit : goal.invariant-loop-lit
invariant-loop-lit l = record {
  count : l.self.marked.count ≡ l.initial.self.marked.count;
  hints : l.self.hints.items ≡ l.initial.self.hints.items;
  marks : HasMarked l.known.lits (take l.lit-index l.clause) (has l.initial.self.marked) (has l.self.marked);
  collected : IsCollected l.known.lits l.choices.first l.choices.last (has l.initial.self.marked) l.initial.self.clause.items l.initial.self.lowest → IsCollected l.known.lits l.choices.first l.choices.last (has l.self.marked) l.self.clause.items l.self.lowest;
  places : HavePlaces l.known.lits (has l.initial.self.marked) (has_place l.initial.self.marked) → HavePlaces l.known.lits (has l.self.marked) (has_place l.self.marked);
  lowest : l.self.lowest ≤ l.initial.self.lowest;
  nothing_kept : length l.known.lits ≤ l.choices.first → l.self.clause.items ≡ l.initial.self.clause.items;
}
