-- A dependency holds alike in two sets that have the same of what touches it.
use Rattle.std.proofs.Common.{◌≡◌, ◌∙◌, ℕ, Bool, true, false, not, ◌&&◌, ◌||◌, List, [], ◌∷◌, ◌++◌, sym, ap, refl, if◌then◌else◌}
use Rattle.std.specs.List.{list_any}
use Rattle.std.proofs.lemmas.Bool.{or_left, or_right}
use Rattle.std.proofs.lemmas.List.Folds.{list_any-append}
use Rattle.solv_pool.specs.Prelude.{Dep, one, namespace, and, or, with, without, if_holds, unless_holds, joined, under, under_else, missing, package_wise, Catalog, members, package_meets, member_meets, holds}
use Rattle.solv_pool.proofs.Clauses.{holds-package_wise}
use Rattle.solv_leaving.specs.Inner.Leaving.{pieces}

module _ (catalog : Catalog) (s t : ℕ → Bool) where
  -- both have the same of what meets one of these
  abbrev pub AreAlike : List (Dep ℕ) → Type 0
  AreAlike ds = (q : ℕ) → list_any (λ piece. package_meets catalog piece q) ds ≡ true → s q ≡ t q

  alike_first : (xs ys : List (Dep ℕ)) → AreAlike (xs ++ ys) → AreAlike xs
  alike_first xs ys f q h =
      f q (list_any-append (λ piece. package_meets catalog piece q) xs ys ∙ or_left (list_any (λ piece. package_meets catalog piece q) xs) (list_any (λ piece. package_meets catalog piece q) ys) h)

  alike_second : (xs ys : List (Dep ℕ)) → AreAlike (xs ++ ys) → AreAlike ys
  alike_second xs ys f q h =
      f q (list_any-append (λ piece. package_meets catalog piece q) xs ys ∙ or_right (list_any (λ piece. package_meets catalog piece q) xs) (list_any (λ piece. package_meets catalog piece q) ys) h)

  any_same : (f g : ℕ → Bool) (xs : List ℕ) → ((x : ℕ) → f x ≡ g x) → list_any f xs ≡ list_any g xs
  any_same f g [] h = refl
  any_same f g (x ∷ xs) h = ap (λ b. b || list_any f xs) (h x) ∙ ap (λ b. g x || b) (any_same f g xs h)

  met_alike : (d : Dep ℕ) → AreAlike (d ∷ []) → member_meets catalog d s ≡ member_meets catalog d t
  met_alike d f = any_same (λ p. s p && package_meets catalog d p) (λ p. t p && package_meets catalog d p) (members catalog) (λ p. by (s p) (t p) (package_meets catalog d p) (λ m. f p (or_left (package_meets catalog d p) false m)))
    where
      by : (a b m : Bool) → (m ≡ true → a ≡ b) → (a && m) ≡ (b && m)
      by a b true g = ap (λ c. c && true) (g refl)
      by true true false g = refl
      by true false false g = refl
      by false true false g = refl
      by false false false g = refl

  pub holds_alike : (d : Dep ℕ) → AreAlike (pieces d) → holds catalog d s ≡ holds catalog d t
  holds_alike (one c) f = met_alike (one c) f
  holds_alike (namespace n) f = met_alike (namespace n) f
  holds_alike (joined with a b) f = met_alike (joined with a b) f
  holds_alike (joined without a b) f = met_alike (joined without a b) f
  holds_alike (joined and a b) f =
      ap (λ x. x && holds catalog b s) (holds_alike a (alike_first (pieces a) (pieces b) f)) ∙ ap (λ x. holds catalog a t && x) (holds_alike b (alike_second (pieces a) (pieces b) f))
  holds_alike (joined or a b) f = by (package_wise (joined or a b)) refl f (holds_alike a) (holds_alike b)
    where
      by : (w : Bool) → package_wise (joined or a b) ≡ w → AreAlike (if w then joined or a b ∷ [] else pieces a ++ pieces b)
          → (AreAlike (pieces a) → holds catalog a s ≡ holds catalog a t) → (AreAlike (pieces b) → holds catalog b s ≡ holds catalog b t)
          → holds catalog (joined or a b) s ≡ holds catalog (joined or a b) t
      by true e g first second = holds-package_wise catalog s (joined or a b) e ∙ met_alike (joined or a b) g ∙ sym (holds-package_wise catalog t (joined or a b) e)
      by false e g first second = ap (λ x. x || holds catalog b s) (first (alike_first (pieces a) (pieces b) g)) ∙ ap (λ x. holds catalog a t || x) (second (alike_second (pieces a) (pieces b) g))
  holds_alike (under if_holds a b) f =
      ap (λ x. x || not (holds catalog b s)) (holds_alike a (alike_first (pieces a) (pieces b) f)) ∙ ap (λ x. holds catalog a t || not x) (holds_alike b (alike_second (pieces a) (pieces b) f))
  holds_alike (under unless_holds a b) f =
      ap (λ x. x && not (holds catalog b s)) (holds_alike a (alike_first (pieces a) (pieces b) f)) ∙ ap (λ x. holds catalog a t && not x) (holds_alike b (alike_second (pieces a) (pieces b) f))
  holds_alike (under_else if_holds a b c) f =
      let both = alike_second (pieces a) (pieces b ++ pieces c) f in
      ap (λ x. (holds catalog b s && x) || (not (holds catalog b s) && holds catalog c s)) (holds_alike a (alike_first (pieces a) (pieces b ++ pieces c) f))
      ∙ ap (λ x. (x && holds catalog a t) || (not x && holds catalog c s)) (holds_alike b (alike_first (pieces b) (pieces c) both))
      ∙ ap (λ x. (holds catalog b t && holds catalog a t) || (not (holds catalog b t) && x)) (holds_alike c (alike_second (pieces b) (pieces c) both))
  holds_alike (under_else unless_holds a b c) f =
      let both = alike_second (pieces a) (pieces b ++ pieces c) f in
      ap (λ x. (x && not (holds catalog b s)) || (holds catalog b s && holds catalog c s)) (holds_alike a (alike_first (pieces a) (pieces b ++ pieces c) f))
      ∙ ap (λ x. (holds catalog a t && not x) || (x && holds catalog c s)) (holds_alike b (alike_first (pieces b) (pieces c) both))
      ∙ ap (λ x. (holds catalog a t && not (holds catalog b t)) || (holds catalog b t && x)) (holds_alike c (alike_second (pieces b) (pieces c) both))
  holds_alike missing f = refl
