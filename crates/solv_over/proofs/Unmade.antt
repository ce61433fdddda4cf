-- Rules of all that are not made.
use Rattle.std.proofs.Common.{◌≡◌, ◌⊎◌, ℕ, Bool, true, false, not, List, inl, inr, sym, ◌∙◌, ap, subst}
use Rattle.std.proofs.lemmas.Bool.{cases_Bool, false≢true, or_left}
use Rattle.solv_pool.specs.Prelude.{Catalog, HardRule, is_fixed, marked, meets_rule}
use Rattle.solv_pool.proofs.Members.{Has}
use Rattle.solv_over.specs.Inner.Thinned.{IsRequirementOf, Thinned, end, same, more}

-- each may not be dropped
pub unmade_fixed : {left : List Bool} (x : HardRule) → IsRequirementOf left x → is_fixed x ≡ true
unmade_fixed x own = sym (ap is_fixed own.is)

-- a set that holds nothing left out meets it
pub unmade_met : (catalog : Catalog) (left : List Bool) (set : ℕ → Bool) → ((p : ℕ) → set p ≡ true → marked left p ≡ false) → (x : HardRule) → IsRequirementOf left x → meets_rule catalog x set ≡ true
unmade_met catalog left set none x own =
    let M : HardRule → Type 0 = λ z. meets_rule catalog z set ≡ true in
    let absent : set own.pack ≡ false = elim (cases_Bool (set own.pack)) [ inl y ↦ absurd (false≢true (sym (none own.pack y) ∙ own.out)) | inr n ↦ n ] in
    subst M own.is (or_left (not (set own.pack)) _ (ap not absent))

-- each rule of all is made, or not
pub made_or_not : {left : List Bool} {made all : List HardRule} → Thinned left made all → (x : HardRule) → Has all x → Has made x ⊎ IsRequirementOf left x
made_or_not end x h = absurd h
made_or_not (same y t) x (inl e) = inl (inl e)
made_or_not (same y t) x (inr k) = elim (made_or_not t x k) [ inl m ↦ inl (inr m) | inr u ↦ inr u ]
made_or_not {left} (more y own t) x (inl e) = inr (subst (IsRequirementOf left) e own)
made_or_not (more y own t) x (inr k) = made_or_not t x k
