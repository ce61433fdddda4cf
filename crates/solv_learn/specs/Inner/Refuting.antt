-- Going back over the literals that are known, from a falsified clause: what the hints so far show.
use Rattle.std.specs.Prelude.{◌≡◌, ℕ, ℤ, ◌+◌, ◌-◌, ◌<◌, nat_lt, nat_le, Bool, true, ◌&&◌, List, take, length, slice_get, ◌⊎◌, Option, if◌then◌else◌}
use Rattle.solv_pool.specs.Prelude.{is_fact}
use Rattle.solv_derive.specs.Logs.{ends_in_conflict}
use Rattle.solv_derive.specs.declared.logs.Hint.{Hint}
use Rattle.solv_derive.specs.declared.logs.Hint.TheVariants as hint
use Rattle.solv_trail.specs.Inner.Derivation.{Within}

-- the hint at a rule: those of the book come first, and the learnt ones after them are steps from this number on
abbrev pub hint_for : ℕ → ℕ → ℕ → Hint
hint_for count first rule = if nat_lt rule count then hint.Book rule else hint.Step (first + (rule - count))

-- the look-up gives the clause of each rule at its hint
abbrev pub Finds : (Hint → Option (List ℤ)) → List (List ℤ) → ℕ → ℕ → Type 0
Finds look rules count first = (r : ℕ) → r < length rules → look (hint_for count first r) ≡ slice_get rules r

-- the hint is at a rule that is in use
abbrev pub is_in_use : (ℕ → Bool) → ℕ → ℕ → ℕ → Hint → Bool
is_in_use used count first all (hint.Book rule) = nat_lt rule count && used rule
is_in_use used count first all (hint.Step step) = nat_le first step && nat_lt (count + (step - first)) all

-- T: the literals in their order; j: the place that the search has come to; Q: the true literals that it has marked; H: the hints so far, the last first found.
-- From any facts that hold what is marked and still ahead or kept, and nothing that was resolved, the hints end in a conflict
pub record Refutes (look : Hint → Option (List ℤ)) (kept : ℤ → Bool) (T : List ℤ) (j : ℕ) (Q : ℤ → Bool) (H : List Hint) : Type 0 where
  pub inside : (l : ℤ) → Q l ≡ true → is_fact T l ≡ true
  pub runs : (A : List ℤ) → Within A T
      → ((l : ℤ) → Q l ≡ true → (is_fact (take j T) l ≡ true) ⊎ (kept l ≡ true) → is_fact A l ≡ true)
      → ((l : ℤ) → is_fact A l ≡ true → (is_fact (take j T) l ≡ true) ⊎ (kept l ≡ true))
      → ends_in_conflict look A H ≡ true
