-- What is copied into a caller's room.
use Rattle.std.specs.Prelude.{ℕ, List, ◌++◌, take, drop, length, Option, Some, None}
use Rattle.solv_trans.specs.declared.kinds.Change.{Change}
use Rattle.solv_trans.specs.declared.kinds.Change.TheVariants.{Install, Erase, Upgrade, Downgrade, Alter, Reinstall, Obsolete}
use Rattle.solv_solved.specs.declared.pack_change.PackChange.{PackChange}

-- the room after the first items of a list were copied there, as many as it holds
abbrev pub filled : {A : Type 0} → List A → List A → List A
filled items room = take (length room) items ++ drop (length items) room

-- the room where there may be no list, and then it is as it was
abbrev pub filled_where : {A : Type 0} → Option (List A) → List A → List A
filled_where None room = room
filled_where (Some items) room = filled items room

-- how long the list is, or else what was reported before
abbrev pub length_where : {A : Type 0} → Option (List A) → ℕ → ℕ
length_where None before = before
length_where (Some items) before = length items

-- a number, or else what was reported before
abbrev pub number_where : Option ℕ → ℕ → ℕ
number_where None before = before
number_where (Some number) before = number

-- a change by its kind, the package that comes or goes, and the package that comes for it or obsoletes it, or 0
abbrev pub row : ℕ → ℕ → ℕ → PackChange
row kind pack by = record { kind = kind; pack = pack; by = by }

abbrev pub change_row : Change → PackChange
change_row (Install p) = row 0 p 0
change_row (Erase p) = row 1 p 0
change_row (Upgrade p q) = row 2 p q
change_row (Downgrade p q) = row 3 p q
change_row (Alter p q) = row 4 p q
change_row (Reinstall p q) = row 5 p q
change_row (Obsolete p q) = row 6 p q
