-- What a set meets, the set meets without what nothing asks for.
use Rattle.std.proofs.Common.{◌≡◌, ℕ, Bool, true, false, not, ◌&&◌, ◌||◌, List, [], ◌∷◌, ◌++◌, inl, inr, refl, sym, ◌∙◌, ap, if◌then◌else◌}
use Rattle.std.specs.List.{list_any, list_all}
use Rattle.std.specs.Bool.{beq}
use Rattle.std.proofs.lemmas.Bool.{and_parts, and_from, or_cases, or_left, or_right, false≢true}
use Rattle.std.proofs.lemmas.List.Folds.{list_any-append}
use Rattle.solv_pool.specs.Prelude.{Dep, one, namespace, and, or, with, without, if_holds, joined, under, package_wise, fits_place, unconditional, Catalog, members, is_installed, package_meets, member_meets, holds}
use Rattle.solv_pool.specs.Needs.{serves}
use Rattle.solv_pool.specs.Parts.{parts}
use Rattle.solv_pool.specs.Inner.RuleMeaning.{holds_some}
use Rattle.solv_pool.proofs.Among.{any_from, any_gives}
use Rattle.solv_pool.proofs.Clauses.{holds-package_wise}
use Rattle.solv_pool.proofs.Members.{Has, all_at, all_by, any_at, any_has}
use Rattle.solv_leaving.specs.Inner.Leaving.{is_plainly_met}

-- what implies another fails where that one fails
contrary : (a b : Bool) → (a ≡ true → b ≡ true) → not b ≡ true → not a ≡ true
contrary true b f h = absurd (false≢true (sym (ap not (f refl)) ∙ h))
contrary false b f h = refl

module _ (catalog : Catalog) (set inside : ℕ → Bool) where
  -- the set without what is not inside
  abbrev pub within : ℕ → Bool
  within p = set p && inside p

  pub both_in : (p : ℕ) → set p ≡ true → inside p ≡ true → within p ≡ true
  both_in p h k = and_from (set p) (inside p) h k

  pub in_set : (p : ℕ) → within p ≡ true → set p ≡ true
  in_set p h = (and_parts (set p) (inside p) h).0

  met_within : (d : Dep ℕ) → ((q : ℕ) → package_meets catalog d q ≡ true → set q ≡ true → inside q ≡ true) → member_meets catalog d set ≡ true → member_meets catalog d within ≡ true
  met_within d all h =
      let g = any_gives (λ p. set p && package_meets catalog d p) (members catalog) h in
      let both = and_parts (set g.0) (package_meets catalog d g.0) g.2 in
      any_from (λ p. within p && package_meets catalog d p) (members catalog) g.0 g.1 (and_from (within g.0) (package_meets catalog d g.0) (both_in g.0 both.0 (all g.0 both.1 both.0)) both.1)

  met_wider : (d : Dep ℕ) → member_meets catalog d within ≡ true → member_meets catalog d set ≡ true
  met_wider d h =
      let g = any_gives (λ p. within p && package_meets catalog d p) (members catalog) h in
      let both = and_parts (within g.0) (package_meets catalog d g.0) g.2 in
      any_from (λ p. set p && package_meets catalog d p) (members catalog) g.0 g.1 (and_from (set g.0) (package_meets catalog d g.0) (in_set g.0 both.0) both.1)

  -- a condition that holds in the smaller set holds in the larger
  holds_wider : (d : Dep ℕ) → unconditional d ≡ true → holds catalog d within ≡ true → holds catalog d set ≡ true
  holds_wider (one c) u h = met_wider (one c) h
  holds_wider (namespace n) u h = met_wider (namespace n) h
  holds_wider (joined with a b) u h = met_wider (joined with a b) h
  holds_wider (joined without a b) u h = met_wider (joined without a b) h
  holds_wider (joined and a b) u h =
      let f = and_parts (unconditional a) (unconditional b) u in
      let both = and_parts (holds catalog a within) (holds catalog b within) h in
      and_from (holds catalog a set) (holds catalog b set) (holds_wider a f.0 both.0) (holds_wider b f.1 both.1)
  holds_wider (joined or a b) u h =
      let f = and_parts (unconditional a) (unconditional b) u in
      elim (or_cases (holds catalog a within) (holds catalog b within) h) [
        | inl k ↦ or_left (holds catalog a set) (holds catalog b set) (holds_wider a f.0 k)
        | inr k ↦ or_right (holds catalog a set) (holds catalog b set) (holds_wider b f.1 k)
      ]
  holds_wider _ u h = absurd (false≢true u)

  -- what serves the dependency and is in the set is inside
  abbrev IsServed : Dep ℕ → Type 0
  IsServed d = (q : ℕ) → serves catalog q d ≡ true → set q ≡ true → inside q ≡ true

  alone : (d : Dep ℕ) → ((q : ℕ) → (package_meets catalog d q || false) ≡ true → set q ≡ true → inside q ≡ true) → member_meets catalog d set ≡ true → member_meets catalog d within ≡ true
  alone d all h = met_within d (λ q m i. all q (or_left (package_meets catalog d q) false m) i) h

  in_first : (a b : Dep ℕ) → ((q : ℕ) → list_any (λ part. package_meets catalog part q) (parts a ++ parts b) ≡ true → set q ≡ true → inside q ≡ true) → IsServed a
  in_first a b all q s i =
      let meets : Dep ℕ → Bool = λ part. package_meets catalog part q in
      all q (list_any-append meets (parts a) (parts b) ∙ or_left (list_any meets (parts a)) (list_any meets (parts b)) s) i

  in_second : (a b : Dep ℕ) → ((q : ℕ) → list_any (λ part. package_meets catalog part q) (parts a ++ parts b) ≡ true → set q ≡ true → inside q ≡ true) → IsServed b
  in_second a b all q s i =
      let meets : Dep ℕ → Bool = λ part. package_meets catalog part q in
      all q (list_any-append meets (parts a) (parts b) ∙ or_right (list_any meets (parts a)) (list_any meets (parts b)) s) i

  -- so a dependency that holds still holds
  pub holds_within : (d : Dep ℕ) → fits_place true d ≡ true → is_plainly_met d ≡ true → IsServed d → holds catalog d set ≡ true → holds catalog d within ≡ true
  holds_within (one c) f p all h = alone (one c) all h
  holds_within (namespace n) f p all h = alone (namespace n) all h
  holds_within (joined with a b) f p all h = alone (joined with a b) all h
  holds_within (joined without a b) f p all h = alone (joined without a b) all h
  holds_within (joined and a b) f p all h =
      let g = and_parts (fits_place true a) (fits_place true b) f in
      let m = and_parts (is_plainly_met a) (is_plainly_met b) p in
      let both = and_parts (holds catalog a set) (holds catalog b set) h in
      and_from (holds catalog a within) (holds catalog b within) (holds_within a g.0 m.0 (in_first a b all) both.0) (holds_within b g.1 m.1 (in_second a b all) both.1)
  holds_within (joined or a b) f p all h =
      let g = and_parts (fits_place true a) (fits_place true b) f in
      step (package_wise (joined or a b)) refl p all (λ m k. holds_within a g.0 m k) (λ m k. holds_within b g.1 m k)
    where
      step : (w : Bool) → package_wise (joined or a b) ≡ w → (w || (is_plainly_met a && is_plainly_met b)) ≡ true
          → ((q : ℕ) → list_any (λ part. package_meets catalog part q) (if w then joined or a b ∷ [] else parts a ++ parts b) ≡ true → set q ≡ true → inside q ≡ true)
          → (is_plainly_met a ≡ true → IsServed a → holds catalog a set ≡ true → holds catalog a within ≡ true)
          → (is_plainly_met b ≡ true → IsServed b → holds catalog b set ≡ true → holds catalog b within ≡ true)
          → holds catalog (joined or a b) within ≡ true
      step true e plain own first second = holds-package_wise catalog within (joined or a b) e ∙ alone (joined or a b) own (sym (holds-package_wise catalog set (joined or a b) e) ∙ h)
      step false e plain own first second =
          let m = and_parts (is_plainly_met a) (is_plainly_met b) plain in
          elim (or_cases (holds catalog a set) (holds catalog b set) h) [
            | inl k ↦ or_left (holds catalog a within) (holds catalog b within) (first m.0 (in_first a b own) k)
            | inr k ↦ or_right (holds catalog a within) (holds catalog b within) (second m.1 (in_second a b own) k)
          ]
  holds_within (under if_holds a b) f p all h =
      let g = and_parts (fits_place true a) (unconditional b) f in
      elim (or_cases (holds catalog a set) (not (holds catalog b set)) h) [
        | inl k ↦ or_left (holds catalog a within) (not (holds catalog b within)) (holds_within a g.0 p all k)
        | inr k ↦ or_right (holds catalog a within) (not (holds catalog b within)) (contrary (holds catalog b within) (holds catalog b set) (holds_wider b g.1) k)
      ]
  holds_within _ f p all h = absurd (false≢true p)

  -- lists of packages
  pub some_within : (xs : List ℕ) → ((q : ℕ) → Has xs q → inside q ≡ true) → holds_some xs set ≡ true → holds_some xs within ≡ true
  some_within xs all h = let g = any_has set xs h in any_at within xs g.0 g.1.0 (both_in g.0 g.1.1 (all g.0 g.1.0))

  pub none_within : (xs : List ℕ) → not (holds_some xs set) ≡ true → not (holds_some xs within) ≡ true
  none_within xs h = contrary (holds_some xs within) (holds_some xs set) (λ k. let g = any_has within xs k in any_at set xs g.0 g.1.0 (in_set g.0 g.1.1)) h

  pub as_within : (xs : List ℕ) → ((q : ℕ) → Has xs q → is_installed catalog q ≡ true → inside q ≡ true)
      → list_all (λ q. beq (set q) (is_installed catalog q)) xs ≡ true → list_all (λ q. beq (within q) (is_installed catalog q)) xs ≡ true
  as_within xs all h = all_by (λ q. beq (within q) (is_installed catalog q)) xs (λ q k. one_by (set q) (inside q) (is_installed catalog q) (all q k) (all_at (λ z. beq (set z) (is_installed catalog z)) xs q h k))
    where
      one_by : (s i n : Bool) → (n ≡ true → i ≡ true) → beq s n ≡ true → beq (s && i) n ≡ true
      one_by true true true f h = refl
      one_by true true false f h = h
      one_by true false true f h = absurd (false≢true (f refl))
      one_by true false false f h = refl
      one_by false i true f h = h
      one_by false i false f h = refl

  pub out_within : (p : ℕ) → not (set p) ≡ true → not (within p) ≡ true
  out_within p h = contrary (within p) (set p) (in_set p) h

  pub two_within : (p q : ℕ) → not (set p && set q) ≡ true → not (within p && within q) ≡ true
  two_within p q h = contrary (within p && within q) (set p && set q) (λ k. let both = and_parts (within p) (within q) k in and_from (set p) (set q) (in_set p both.0) (in_set q both.1)) h
