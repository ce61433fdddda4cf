-- What propagation does to a trail.
use Rattle.std.specs.Prelude.{◌≡◌, ℕ, ℤ, pos, ◌<◌, ◌≤◌, Bool, true, false, List, length, take, slice_get, slice_index, slice_index_or, Option, Some, None}
use Rattle.solv_derive.specs.Forced.{is_falsified, forced}
use Rattle.solv_trail.specs.Inner.Held.{Held}

-- a rule in use with this clause
pub record IsUsed (rules : List (List ℤ)) (used : ℕ → Bool) (rule : ℕ) (c : List ℤ) : Type 0 where
  pub found : slice_get rules rule ≡ Some c
  pub on : used rule ≡ true

-- how a literal came to the trail: at a mark, or forced by its rule and what stands before it
pub data Reason (rules : List (List ℤ)) (used : ℕ → Bool) (held : Held) (j : ℕ) : Type 0 where
  choice : (k : ℕ) → k < length held.marks → slice_index held.marks k ≡ j → Reason rules used held j
  by_rule : (c : List ℤ) → IsUsed rules used (slice_index held.reasons j) c → forced (take j held.lits) c ≡ Some (slice_index_or held.lits j (pos 0)) → Reason rules used held j

-- each literal came so
pub record IsReasoned (rules : List (List ℤ)) (used : ℕ → Bool) (held : Held) : Type 0 where
  pub sizes : length held.reasons ≡ length held.lits
  pub each : (j : ℕ) → j < length held.lits → Reason rules used held j

-- a rule in use that is neither false nor forces a literal
pub record IsAtRest (rules : List (List ℤ)) (used : ℕ → Bool) (lits : List ℤ) (rule : ℕ) : Type 0 where
  pub forces_none : (c : List ℤ) → IsUsed rules used rule c → forced lits c ≡ None
  pub not_false : (c : List ℤ) → IsUsed rules used rule c → is_falsified lits c ≡ false

-- the trail grew at its end by what rules in use force
pub record IsGrown (rules : List (List ℤ)) (used : ℕ → Bool) (old new : Held) : Type 0 where
  pub count : new.count ≡ old.count
  pub marks : new.marks ≡ old.marks
  pub questions : new.questions ≡ old.questions
  pub longer : length old.lits ≤ length new.lits
  pub front : take (length old.lits) new.lits ≡ old.lits
  pub reasoned : IsReasoned rules used old → IsReasoned rules used new

-- a rule in use is falsified, or none of them forces more
pub data Propagated (rules : List (List ℤ)) (used : ℕ → Bool) (lits : List ℤ) : Option ℕ → Type 0 where
  clash : (rule : ℕ) (c : List ℤ) → IsUsed rules used rule c → is_falsified lits c ≡ true → Propagated rules used lits (Some rule)
  rest : ((rule : ℕ) → rule < length rules → IsAtRest rules used lits rule) → Propagated rules used lits None
