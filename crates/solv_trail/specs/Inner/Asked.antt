-- What a guide owes.
use Rattle.std.specs.Prelude.{◌≡◌, ℕ, ℤ, pos, neg_ℤ, ◌<◌, ◌≤◌, Bool, true, false, not, ◌&&◌, List, is_none, Option, Some, None}
use Rattle.std.specs.List.{list_all}
use Rattle.solv_pool.specs.Prelude.{clause_true}
use Rattle.solv_pool.specs.Inner.Propagation.{forced_by}
use Rattle.solv_trail.specs.declared.questions.Ask.{Ask}
use Rattle.solv_trail.specs.Asked.{set_of}

-- a clause that is not false and forces nothing
abbrev pub is_quiet : (ℤ → Bool) → List ℤ → Bool
is_quiet known c = is_none (forced_by known c) && not (list_all (λ l. known (neg_ℤ l)) c)

abbrev pub AreApart : (ℤ → Bool) → Type 0
AreApart known = (l : ℤ) → known l ≡ true → known (neg_ℤ l) ≡ true → ⊥

-- at rest: no answer only where counting all unknown packages out makes each clause true; an answer is an unknown package
abbrev pub KeepsLaw : ℕ → List (List ℤ) → ((ℤ → Bool) → Option Ask) → Type 0
KeepsLaw count clauses asks = (known : ℤ → Bool) → AreApart known → list_all (is_quiet known) clauses ≡ true
    → (asks known ≡ None → list_all (clause_true (set_of known)) clauses ≡ true)
    × ((a : Ask) → asks known ≡ Some a → (0 < a.pack) × (a.pack ≤ count) × (known (pos a.pack) ≡ false) × (known (neg_ℤ (pos a.pack)) ≡ false))
