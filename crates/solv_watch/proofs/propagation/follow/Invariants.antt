use Rattle.std.proofs.Common.{◌≡◌, ◌≤◌, ◌-◌, ◌++◌, length}
use Rattle.solv_trail.specs.Propagated.{in_use}
use Rattle.solv_trail.specs.Inner.Propagated.{IsGrown}
use Rattle.solv_watch.specs.Inner.Watching.{AreChained, IsHeadOf, IsKeptAtChoices, IsKeptUpto, always}
use Rattle.solv_watch.proofs.propagation.follow.Given as goal

abbrev pub invariant-loop-at : goal.invariant-loop-at
invariant-loop-at l = record {
  narrow : l.watches.narrow ≡ l.fn.watches.narrow;
  count : l.known.count ≡ l.fn.known.count;
  grown : IsGrown (l.book.rules ++ l.learnt.rules) (in_use l.owners l.enabled) l.fn.known l.known;
  at : l.at ≤ length l.known.lits;
  book : AreChained l.fn.known.count l.book.rules l.watches.book.heads.items l.watches.book.links.items l.watches.book.watched.items;
  learnt : AreChained l.fn.known.count l.learnt.rules l.watches.learnt.heads.items l.watches.learnt.links.items l.watches.learnt.watched.items;
  book_choices : IsKeptAtChoices l.book.rules (in_use l.owners l.enabled) l.watches.book.watched.items l.known.lits l.known.marks;
  learnt_choices : IsKeptAtChoices l.learnt.rules always l.watches.learnt.watched.items l.known.lits l.known.marks;
  book_kept : IsKeptUpto l.book.rules (in_use l.owners l.enabled) l.watches.book.watched.items l.known.lits l.at;
  learnt_kept : IsKeptUpto l.learnt.rules always l.watches.learnt.watched.items l.known.lits l.at;
  first : IsHeadOf l.known.lits l.at l.watches.book.heads.items l.first;
}

abbrev pub decreases-loop-at : goal.decreases-loop-at
decreases-loop-at l = l.known.count - l.at
