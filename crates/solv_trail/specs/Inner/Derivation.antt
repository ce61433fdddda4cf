-- Literals derived from choices and clauses, one after another. Unit propagation stands in no invariant: what is derived and at rest is what it gives.
use Rattle.std.specs.Prelude.{ℕ, ℤ, pos, nat_abs, ◌≡◌, ◌<◌, Bool, true, false, List, [], ◌∷◌, take, length, slice_index, slice_index_or, Option, Some, None}
use Rattle.solv_pool.specs.Prelude.{is_fact, is_refuted}
use Rattle.solv_derive.specs.Forced.{is_falsified, forced}

-- a clause of a list of clauses
pub data Among (c : List ℤ) : List (List ℤ) → Type 0 where
  here : {F : List (List ℤ)} → Among c (c ∷ F)
  there : {d : List ℤ} {F : List (List ℤ)} → Among c F → Among c (d ∷ F)

-- each fact of the first is one of the second
pub record Within (A K : List ℤ) : Type 0 where
  pub sub : (l : ℤ) → is_fact A l ≡ true → is_fact K l ≡ true

-- no literal and its negation
pub record IsConsistent (facts : List ℤ) : Type 0 where
  pub apart : (l : ℤ) → is_fact facts l ≡ true → is_refuted facts l ≡ true → ⊥

-- a clause that is not falsified and forces nothing
pub record IsQuiet (facts c : List ℤ) : Type 0 where
  pub forces_none : forced facts c ≡ None
  pub not_false : is_falsified facts c ≡ false

pub data AllQuiet (facts : List ℤ) : List (List ℤ) → Type 0 where
  none : AllQuiet facts []
  more : {c : List ℤ} {F : List (List ℤ)} → IsQuiet facts c → AllQuiet facts F → AllQuiet facts (c ∷ F)

-- how a literal came to the trail: chosen at a mark, or forced by a clause and the literals before it
pub data Entered (F : List (List ℤ)) (T : List ℤ) (M : List ℕ) (j : ℕ) : Type 0 where
  chosen : (k : ℕ) → k < length M → slice_index M k ≡ j → Entered F T M j
  forced_by : (c : List ℤ) → Among c F → forced (take j T) c ≡ Some (slice_index_or T j (pos 0)) → Entered F T M j

-- the trail before a choice is at rest, and the package is what is asked for there
pub record IsChoice (F : List (List ℤ)) (asks : (ℤ → Bool) → Option ℕ) (T : List ℤ) (m : ℕ) : Type 0 where
  pub positive : slice_index_or T m (pos 0) ≡ pos (nat_abs (slice_index_or T m (pos 0)))
  pub quiet : AllQuiet (take m T) F
  pub asked : asks (is_fact (take m T)) ≡ Some (nat_abs (slice_index_or T m (pos 0)))

-- a trail: T has the literals in their order, M the places of the choices
pub record IsTrail (F : List (List ℤ)) (asks : (ℤ → Bool) → Option ℕ) (T : List ℤ) (M : List ℕ) : Type 0 where
  pub apart : IsConsistent T
  pub within : (k : ℕ) → k < length M → slice_index M k < length T
  pub rising : (i k : ℕ) → i < k → k < length M → slice_index M i < slice_index M k
  pub entered : (j : ℕ) → j < length T → Entered F T M j
  pub choices : (k : ℕ) → k < length M → IsChoice F asks T (slice_index M k)
