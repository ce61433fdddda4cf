-- What propagation needs of the watches, and keeps.
use Rattle.std.specs.Prelude.{ℕ, ℤ, ◌<◌, ◌-◌, Bool, List, length, take}
use Rattle.solv_trail.specs.Inner.Held.{Held}
use Rattle.solv_watch.specs.Inner.Watching.{AreChained, AreNarrow, AreNarrowTrue, AreGuards, Each, IsKeptAtChoices, IsKeptUpto, always}
use Rattle.solv_watch.specs.declared.chains.Watches.{Watches}

-- all rules hang at the literals that they watch, whatever is known
pub record AreWatched (count : ℕ) (book learnt : List (List ℤ)) (watches : Watches) : Type 0 where
  pub book_chained : AreChained count book watches.book.heads.items watches.book.links.items watches.book.watched.items
  pub learnt_chained : AreChained count learnt watches.learnt.heads.items watches.learnt.links.items watches.learnt.watched.items
  pub narrow : AreNarrow book watches.narrow.items

-- what holds at each choice; learnt rules are always in use
pub record AreKeptAtChoices (book learnt : List (List ℤ)) (used : ℕ → Bool) (watches : Watches) (held : Held) : Type 0 where
  pub book_choices : IsKeptAtChoices book used watches.book.watched.items held.lits held.marks
  pub learnt_choices : IsKeptAtChoices learnt always watches.learnt.watched.items held.lits held.marks

-- all literals but the last were looked at, and where there is none, not even the rules with fewer than two literals
pub record AreReady (book learnt : List (List ℤ)) (used : ℕ → Bool) (watches : Watches) (held : Held) : Type 0 where
  pub guards : AreGuards book used watches.book.watched.items Each (take (length held.lits - 1) held.lits) held.lits
  pub narrow : 0 < length held.lits → AreNarrowTrue book used held.lits
  pub learnt_guards : AreGuards learnt always watches.learnt.watched.items Each (take (length held.lits - 1) held.lits) held.lits
  pub learnt_narrow : 0 < length held.lits → AreNarrowTrue learnt always held.lits

-- all literals were looked at
pub record AreSeen (book learnt : List (List ℤ)) (used : ℕ → Bool) (watches : Watches) (held : Held) : Type 0 where
  pub book_kept : IsKeptUpto book used watches.book.watched.items held.lits (length held.lits)
  pub learnt_kept : IsKeptUpto learnt always watches.learnt.watched.items held.lits (length held.lits)
