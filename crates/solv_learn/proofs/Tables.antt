-- A table of marks as a set of literals.
use Rattle.std.proofs.Common.{◌≡◌, ℕ, ◌<◌, ◌≤◌, false, ◌||◌, List, length, get_or, set, eqb, inl, inr, sym, ap, ◌∙◌, arith, get_or-set_same, get_or-set_other, eq-eqb}
use Rattle.std.specs.Prelude.{ℤ}
use Rattle.std.specs.Ordering.{int_eq}
use Rattle.std.proofs.lemmas.Bool.{or_left, cases_eq, ne_eqb}
use Rattle.solv_pack.specs.Inner.Literals.{place_of}
use Rattle.solv_derive.specs.Inner.Marks.{is_marked}
use Rattle.solv_derive.proofs.Facts.{same_self}
use Rattle.solv_derive.proofs.Tables.{place_of-injective, int_ne}

-- with one more literal
pub marked_set : (marks : List ℕ) (now : ℕ) (x l : ℤ) → place_of x < length marks → is_marked (set marks (place_of x) now) now l ≡ (int_eq l x || is_marked marks now l)
marked_set marks now x l inside = elim (cases_eq (place_of l) (place_of x)) [
  | inl e ↦
      let f : l ≡ x = place_of-injective l x e in
      let q : get_or (set marks (place_of x) now) (place_of l) 0 ≡ now = ap (λ v. get_or (set marks (place_of x) now) v 0) e ∙ get_or-set_same marks (place_of x) now 0 inside in
      eq-eqb (get_or (set marks (place_of x) now) (place_of l) 0) now q ∙ sym (or_left (int_eq l x) (is_marked marks now l) (ap (λ v. int_eq v x) f ∙ same_self x))
  | inr n ↦
      let d : int_eq l x ≡ false = int_ne l x (λ e. n (ap place_of e)) in
      ap (λ v. eqb v now) (get_or-set_other marks (place_of x) (place_of l) now 0 n) ∙ sym (ap (λ b. b || is_marked marks now l) d)
]

-- a mark that is greater than all
pub none_marked : (marks : List ℕ) (old now : ℕ) (l : ℤ) → ((k : ℕ) → get_or marks k 0 ≤ old) → old < now → is_marked marks now l ≡ false
none_marked marks old now l upto h = let u : get_or marks (place_of l) 0 ≤ old = upto (place_of l) in ne_eqb (get_or marks (place_of l) 0) now (λ e. omega arith)
