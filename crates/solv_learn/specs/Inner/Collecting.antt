-- What a search through the literals that are known collects.
use Rattle.std.specs.Prelude.{◌≡◌, ℕ, ℤ, neg_ℤ, ◌<◌, ◌≤◌, nat_lt, Bool, true, false, List, map, take, length}
use Rattle.solv_pool.specs.Prelude.{is_fact, is_refuted}
use Rattle.solv_learn.specs.Collecting.{is_plain}

-- T: the literals in their order, of which those before `first` were known without a choice, and those before `last` before the last one.
-- L has the negations of the marked ones between the two, and `lowest` is the least place of one from the last choice on
pub record IsCollected (T : List ℤ) (first last : ℕ) (Q : ℤ → Bool) (L : List ℤ) (lowest : ℕ) : Type 0 where
  pub inside : (l : ℤ) → Q l ≡ true → is_fact T l ≡ true
  pub least : (l : ℤ) → Q l ≡ true → is_fact (take last T) l ≡ false → is_fact (take lowest T) l ≡ false
  pub short : lowest ≤ length T
  pub found : lowest < length T → last ≤ lowest
  pub kept : (l : ℤ) → Q l ≡ true → is_fact (take last T) l ≡ true → is_fact (take first T) l ≡ false → is_fact (map neg_ℤ L) l ≡ true
  pub only : (l : ℤ) → is_fact (map neg_ℤ L) l ≡ true → (Q l ≡ true) × (is_fact (take last T) l ≡ true) × (is_fact (take first T) l ≡ false)
  pub plain : is_plain L ≡ true

-- what was marked stays so, and the negations of a clause's refuted literals are marked; nothing else is
pub record HasMarked (T c : List ℤ) (old new : ℤ → Bool) : Type 0 where
  pub grows : (l : ℤ) → old l ≡ true → new l ≡ true
  pub marks : (m : ℤ) → is_fact c m ≡ true → is_refuted T m ≡ true → new (neg_ℤ m) ≡ true
  pub nothing_else : (l : ℤ) → new l ≡ true → old l ≡ false → (is_fact c (neg_ℤ l) ≡ true) × (is_fact T l ≡ true)

-- the first place of each marked literal is among these
abbrev pub HavePlaces : List ℤ → (ℤ → Bool) → (ℕ → Bool) → Type 0
HavePlaces T Q at = (l : ℤ) (p : ℕ) → Q l ≡ true → ((e : ℕ) → is_fact (take e T) l ≡ nat_lt p e) → at p ≡ true
