-- What holds of each leaf of a log holds of each rule that its hints name.
use Rattle.std.proofs.Common.{◌≡◌, ℕ, Bool, true, List, [], ◌∷◌, eqb, refl, ap, ◌∙◌, inl, inr, eq-eqb}
use Rattle.std.specs.List.{list_all}
use Rattle.std.proofs.lemmas.Bool.{or_cases, false≢true, eqb-true, and_parts, and_from, or_left, or_right}
use Rattle.solv_derive.specs.Leaves.{is_one_of, leaves, named_rules}
use Rattle.solv_derive.specs.declared.logs.Step.{Step}
use Rattle.solv_derive.proofs.Named.{leaves_are_named}

pub at_member : (p : ℕ → Bool) (xs : List ℕ) (x : ℕ) → list_all p xs ≡ true → is_one_of xs x ≡ true → p x ≡ true
at_member p [] x h k = absurd (false≢true k)
at_member p (y ∷ ys) x h k =
    let both = and_parts (p y) (list_all p ys) h in
    elim (or_cases (eqb x y) (is_one_of ys x) k) [ inl e ↦ ap p (eqb-true x y e) ∙ both.0 | inr r ↦ at_member p ys x both.1 r ]

pub by_members : (p : ℕ → Bool) (xs : List ℕ) → ((x : ℕ) → is_one_of xs x ≡ true → p x ≡ true) → list_all p xs ≡ true
by_members p [] h = refl
by_members p (y ∷ ys) h = and_from (p y) (list_all p ys) (h y (here y ys)) (by_members p ys (λ x k. h x (or_right (eqb x y) (is_one_of ys x) k)))
  where
    here : (x : ℕ) (xs : List ℕ) → is_one_of (x ∷ xs) x ≡ true
    here x xs = or_left (eqb x x) (is_one_of xs x) (eq-eqb x x refl)

pub all_leaves : (p : ℕ → Bool) (steps : List Step) → list_all p (leaves steps) ≡ true → list_all p (named_rules steps) ≡ true
all_leaves p steps h = by_members p (named_rules steps) (λ x k. at_member p (leaves steps) x h ((leaves_are_named steps).1 x ∙ k))
