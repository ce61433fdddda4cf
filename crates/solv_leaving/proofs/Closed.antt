-- What tables say of what is not left out.
use Rattle.std.proofs.Common.{◌≡◌, ℕ, zero, suc, ◌+◌, Bool, true, false, not, ◌&&◌, ◌||◌, ◌⊎◌, List, [], ◌∷◌, ◌++◌, length, filter, map, inl, inr, refl, sym, ap, ◌∙◌, eqb, Some, if◌then◌else◌}
use Rattle.std.specs.List.{list_any, list_all}
use Rattle.std.proofs.lemmas.Bool.{and_parts, and_from, false≢true, eqb-true, or_left, or_right, cases_Bool}
use Rattle.std.proofs.lemmas.List.Folds.{list_any-append}
use Rattle.solv_list.proofs.Booleans.{or_cases, or_false}
use Rattle.solv_pool.specs.Prelude.{Dep, one, namespace, and, or, with, without, joined, under, under_else, missing, package_wise, is_among, passes, Catalog, members, package_at, dependency, package_meets, marked}
use Rattle.solv_pool.specs.Needs.{asked_by, serves, serves_package}
use Rattle.solv_pool.specs.Parts.{parts}
use Rattle.solv_pool.specs.declared.packages.Need.{Need}
use Rattle.solv_pool.specs.declared.packages.Package.{Package}
use Rattle.solv_pool.proofs.Among.{among_filter}
use Rattle.solv_clean.specs.Inner.Tables.{is_marked}
use Rattle.solv_clean.proofs.Reached.{marked_is}
use Rattle.solv_clean.proofs.Served.{in_members, single}
use Rattle.solv_leaving.specs.Inner.Leaving.{is_plainly_met, pieces, touches, touches_package}
use Rattle.solv_leaving.specs.Inner.Checking.{AllIn, IsPackageIn, asks_for, need_asks_for, conflicts_over}

all_among : (f : ℕ → Bool) (xs : List ℕ) (q : ℕ) → list_all f xs ≡ true → is_among xs q ≡ true → f q ≡ true
all_among f [] q h k = absurd (false≢true k)
all_among f (x ∷ xs) q h k =
    let both = and_parts (f x) (list_all f xs) h in
    elim (or_cases (eqb x q) (is_among xs q) k) [ inl e ↦ ap f (sym (eqb-true x q e)) ∙ both.0 | inr r ↦ all_among f xs q both.1 r ]

-- what packages meet alone is one piece
pub whole_piece : (d : Dep ℕ) → package_wise d ≡ true → pieces d ≡ d ∷ []
whole_piece (one c) h = refl
whole_piece (namespace n) h = refl
whole_piece (joined and a b) h = absurd (false≢true h)
whole_piece (joined or a b) h = ap (λ (t : Bool). if t then joined or a b ∷ [] else pieces a ++ pieces b) h
whole_piece (joined with a b) h = refl
whole_piece (joined without a b) h = refl
whole_piece (under k a b) h = absurd (false≢true h)
whole_piece (under_else k a b c) h = absurd (false≢true h)
whole_piece missing h = absurd (false≢true h)

-- and one part
pub whole_part : (d : Dep ℕ) → package_wise d ≡ true → parts d ≡ d ∷ []
whole_part (one c) h = refl
whole_part (namespace n) h = refl
whole_part (joined and a b) h = absurd (false≢true h)
whole_part (joined or a b) h = ap (λ (t : Bool). if t then joined or a b ∷ [] else parts a ++ parts b) h
whole_part (joined with a b) h = refl
whole_part (joined without a b) h = refl
whole_part (under k a b) h = absurd (false≢true h)
whole_part (under_else k a b c) h = absurd (false≢true h)
whole_part missing h = absurd (false≢true h)

-- a disjunction that packages do not meet alone
pub split_or : (a b d : Dep ℕ) → d ≡ joined or a b → package_wise d ≡ false → pieces d ≡ pieces a ++ pieces b
split_or a b d e h = ap pieces e ∙ ap (λ (t : Bool). if t then joined or a b ∷ [] else pieces a ++ pieces b) (sym (ap package_wise e) ∙ h)

-- more entries
entry_more : (T : List Bool) (b : Bool) (id : ℕ) → is_marked (T ++ b ∷ []) id ≡ true → (is_marked T id ≡ true) ⊎ ((id ≡ length T) × (b ≡ true))
entry_more [] b zero h = inr (refl, h)
entry_more [] b (suc id) h = absurd (false≢true h)
entry_more (t ∷ T) b zero h = inl h
entry_more (t ∷ T) b (suc id) h = elim (entry_more T b id h) [ inl k ↦ inl k | inr r ↦ inr (ap (λ n. suc n) r.0, r.1) ]

pub table_grows : (wants : ℕ → ℕ → Bool) (out : ℕ → Bool) (T : List Bool) (b : Bool) (n : ℕ) → length T ≡ n
    → ((id q : ℕ) → is_marked T id ≡ true → wants id q ≡ true → out q ≡ false)
    → (b ≡ true → (q : ℕ) → wants n q ≡ true → out q ≡ false)
    → (id q : ℕ) → is_marked (T ++ b ∷ []) id ≡ true → wants id q ≡ true → out q ≡ false
table_grows wants out T b n size before this id q h w = elim (entry_more T b id h) [
  | inl k ↦ before id q k w
  | inr r ↦ this r.1 q (ap (λ m. wants m q) (sym size) ∙ ap (λ m. wants m q) (sym r.0) ∙ w)
]

module _ (catalog : Catalog) (left : List Bool) where
  module _ (each : length left ≡ length catalog.universe.packages + 1) where
    -- where nothing that meets a dependency is left out
    pub met_in : (d : Dep ℕ) → list_all (λ q. not (marked left q)) (filter (package_meets catalog d) (members catalog)) ≡ true → (q : ℕ) → package_meets catalog d q ≡ true → marked left q ≡ false
    met_in d all q m = elim (cases_Bool (marked left q)) [
      | inr n ↦ n
      | inl y ↦ absurd (false≢true (sym (ap not y) ∙ all_among (λ p. not (marked left p)) (filter (package_meets catalog d) (members catalog)) q all (among_filter (package_meets catalog d) (members catalog) q ∙ and_from (is_among (members catalog) q) (package_meets catalog d q) (in_members catalog left each q (sym (marked_is left q) ∙ y)) m)))
    ]

    pub served_in : (d : Dep ℕ) → parts d ≡ d ∷ [] → list_all (λ q. not (marked left q)) (filter (package_meets catalog d) (members catalog)) ≡ true → (q : ℕ) → serves catalog q d ≡ true → marked left q ≡ false
    served_in d e all q s = met_in d all q (sym (single catalog d e q) ∙ s)

    pub touched_in : (d : Dep ℕ) → pieces d ≡ d ∷ [] → list_all (λ q. not (marked left q)) (filter (package_meets catalog d) (members catalog)) ≡ true → (q : ℕ) → touches catalog q d ≡ true → marked left q ≡ false
    touched_in d e all q s = met_in d all q (sym (or_false (package_meets catalog d q)) ∙ sym (ap (list_any (λ piece. package_meets catalog piece q)) e) ∙ s)

  -- pieces of two
  touched_either : (xs ys : List (Dep ℕ)) (q : ℕ) → list_any (λ piece. package_meets catalog piece q) (xs ++ ys) ≡ true
      → (list_any (λ piece. package_meets catalog piece q) xs ≡ true → marked left q ≡ false) → (list_any (λ piece. package_meets catalog piece q) ys ≡ true → marked left q ≡ false) → marked left q ≡ false
  touched_either xs ys q h f g =
      elim (or_cases (list_any (λ piece. package_meets catalog piece q) xs) (list_any (λ piece. package_meets catalog piece q) ys) (sym (list_any-append (λ piece. package_meets catalog piece q) xs ys) ∙ h)) [ inl a ↦ f a | inr b ↦ g b ]

  -- so it is with a dependency that has these pieces
  pub touched_two : (d a b : Dep ℕ) → pieces d ≡ pieces a ++ pieces b → ((q : ℕ) → touches catalog q a ≡ true → marked left q ≡ false) → ((q : ℕ) → touches catalog q b ≡ true → marked left q ≡ false)
      → (q : ℕ) → touches catalog q d ≡ true → marked left q ≡ false
  touched_two d a b e f g q h = touched_either (pieces a) (pieces b) q (sym (ap (list_any (λ piece. package_meets catalog piece q)) e) ∙ h) (f q) (g q)

  pub touched_three : (d a b c : Dep ℕ) → pieces d ≡ pieces a ++ (pieces b ++ pieces c) → ((q : ℕ) → touches catalog q a ≡ true → marked left q ≡ false) → ((q : ℕ) → touches catalog q b ≡ true → marked left q ≡ false)
      → ((q : ℕ) → touches catalog q c ≡ true → marked left q ≡ false) → (q : ℕ) → touches catalog q d ≡ true → marked left q ≡ false
  touched_three d a b c e f g h q t =
      touched_either (pieces a) (pieces b ++ pieces c) q (sym (ap (list_any (λ piece. package_meets catalog piece q)) e) ∙ t) (f q) (λ k. touched_either (pieces b) (pieces c) q k (g q) (h q))

  -- a package by its lists
  mapped : (f : ℕ → Bool) (needs : List Need) → list_any f (map (λ (need : Need). need.dep) needs) ≡ list_any (λ (need : Need). f need.dep) needs
  mapped f [] = refl
  mapped f (need ∷ needs) = ap (λ t. f need.dep || t) (mapped f needs)

  any_wider : (f g : ℕ → Bool) (xs : List ℕ) → ((x : ℕ) → f x ≡ true → g x ≡ true) → list_any f xs ≡ true → list_any g xs ≡ true
  any_wider f g [] more h = h
  any_wider f g (x ∷ xs) more h = elim (or_cases (f x) (list_any f xs) h) [ inl k ↦ or_left (g x) (list_any g xs) (more x k) | inr k ↦ or_right (g x) (list_any g xs) (any_wider f g xs more k) ]

  module _ (p : ℕ) (a : Package) (at : package_at catalog p ≡ Some a) (needs : AllIn left (need_asks_for catalog) a.requires_) (deps : AllIn left (asks_for catalog) a.recommends) (conflicts : AllIn left (conflicts_over catalog) a.conflicts) where
    asked_in : (q : ℕ) → list_any (λ id. asks_for catalog id q) (asked_by a) ≡ true → marked left q ≡ false
    asked_in q h =
        let f : ℕ → Bool = λ id. asks_for catalog id q in
        elim (or_cases (list_any f (map (λ (need : Need). need.dep) a.requires_)) (list_any f a.recommends) (sym (list_any-append f (map (λ (need : Need). need.dep) a.requires_) a.recommends) ∙ h)) [
          | inl k ↦ needs q (sym (mapped f a.requires_) ∙ k)
          | inr k ↦ deps q k
        ]

    abbrev beyond : ℕ → ℕ → Bool
    beyond q id = not (is_plainly_met (dependency catalog id)) && touches catalog q (dependency catalog id)

    pub package_in : IsPackageIn catalog left p
    package_in q h = elim (or_cases (serves_package catalog q p) (touches_package catalog q p) h) [
      | inl s ↦ asked_in q (any_wider (λ id. serves catalog q (dependency catalog id)) (λ id. asks_for catalog id q) (asked_by a) (λ id k. or_left (serves catalog q (dependency catalog id)) (beyond q id) k)
          (sym (ap (λ o. passes o (λ (b : Package). list_any (λ id. serves catalog q (dependency catalog id)) (asked_by b))) at) ∙ s))
      | inr t ↦ elim (or_cases (list_any (beyond q) (asked_by a)) (list_any (λ id. conflicts_over catalog id q) a.conflicts) (sym (ap (λ o. passes o (λ (b : Package). list_any (beyond q) (asked_by b) || list_any (λ id. conflicts_over catalog id q) b.conflicts)) at) ∙ t)) [
        | inl k ↦ asked_in q (any_wider (beyond q) (λ id. asks_for catalog id q) (asked_by a) (λ id j. or_right (serves catalog q (dependency catalog id)) (beyond q id) j) k)
        | inr k ↦ conflicts q k
      ]
    ]
