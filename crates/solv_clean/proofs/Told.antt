-- Tables of tests, and what they hold.
use Rattle.std.proofs.Common.{◌≡◌, ℕ, zero, suc, ◌+◌, ◌<◌, ◌≤◌, Bool, true, false, ◌||◌, List, [], ◌∷◌, ◌++◌, length, filter, map, inl, inr, refl, sym, ap, ◌∙◌, arith, add-one, eqb, Some}
use Rattle.std.specs.Prelude.{if◌then◌else◌, nat_eq}
use Rattle.std.specs.List.{list_any, range_with_len}
use Rattle.std.specs.Option.{option_eq}
use Rattle.std.proofs.lemmas.Bool.{false≢true, false_from_ne_true, or_right, cases_lt}
use Rattle.std.proofs.lemmas.List.{length-map}
use Rattle.std.proofs.lemmas.List.FromFn.{length-range_with_len}
use Rattle.solv_list.proofs.Lists.{range_more}
use Rattle.solv_pool.specs.Prelude.{is_among, passes, Catalog, packages, is_installed, installed_set, mark_each}
use Rattle.solv_pool.specs.declared.jobs.Job.{Job}
use Rattle.solv_pool.specs.declared.packages.Package.{Package}
use Rattle.solv_pool.proofs.Among.{here, in_range}
use Rattle.solv_prov.proofs.Obsoleting.{among_range}
use Rattle.solv_clean.specs.Inner.Tables.{is_marked, table_of, Tells}
use Rattle.std.proofs.lemmas.Option.{slice_get_past}

map_append : (f : ℕ → Bool) (xs ys : List ℕ) → map f (xs ++ ys) ≡ map f xs ++ map f ys
map_append f [] ys = refl
map_append f (x ∷ xs) ys = ap (λ t. f x ∷ t) (map_append f xs ys)

-- one entry more
pub table_more : (f : ℕ → Bool) (n : ℕ) (x : Bool) → x ≡ f n → table_of (n + 1) f ≡ table_of n f ++ x ∷ []
table_more f n x e =
    let next : 0 + n ≡ n = omega arith in
    ap (λ k. map f (range_with_len 0 k)) (add-one n) ∙ ap (map f) (range_more 0 n) ∙ map_append f (range_with_len 0 n) ((0 + n) ∷ [])
    ∙ ap (λ k. table_of n f ++ f k ∷ []) next ∙ ap (λ b. table_of n f ++ b ∷ []) (sym e)

pub entries : (m : ℕ) (f : ℕ → Bool) → length (table_of m f) ≡ m
entries m f = length-map (range_with_len 0 m) f ∙ length-range_with_len 0 m

-- an entry, and none
told_from : (f : ℕ → Bool) (a n p : ℕ) → p < n → is_marked (map f (range_with_len a n)) p ≡ f (a + p)
told_from f a zero p lt = absurd (omega arith)
told_from f a (suc n) zero lt = let e : a ≡ a + 0 = omega arith in ap f e
told_from f a (suc n) (suc p) lt = let e : a + 1 + p ≡ a + suc p = omega arith in told_from f (a + 1) n p (omega (arith, lt)) ∙ ap f e

pub told_past : (f : ℕ → Bool) (a n p : ℕ) → n ≤ p → is_marked (map f (range_with_len a n)) p ≡ false
told_past f a zero p le = refl
told_past f a (suc n) zero le = absurd (omega arith)
told_past f a (suc n) (suc p) le = told_past f (a + 1) n p (omega (arith, le))

pub told_at : (f : ℕ → Bool) (m p : ℕ) → p < m → is_marked (table_of m f) p ≡ f p
told_at f m p lt = let e : 0 + p ≡ p = omega arith in told_from f 0 m p lt ∙ ap f e

-- a table holds a test that nothing beyond it passes
pub told : (f g : ℕ → Bool) (m : ℕ) → ((p : ℕ) → p < m → f p ≡ g p) → ((p : ℕ) → g p ≡ true → p < m) → Tells (table_of m f) g
told f g m same most p = elim (cases_lt p m) [
  | inl lt ↦ told_at f m p lt ∙ same p lt
  | inr le ↦ told_past f 0 m p le ∙ sym (false_from_ne_true (g p) (λ h. let b = most p h in omega (arith, le, b)))
]

pub map_members : (f g : ℕ → Bool) (xs : List ℕ) → ((q : ℕ) → is_among xs q ≡ true → f q ≡ g q) → map f xs ≡ map g xs
map_members f g [] h = refl
map_members f g (x ∷ xs) h =
    ap (λ b. b ∷ map f xs) (h x (here x xs)) ∙ ap (λ t. g x ∷ t) (map_members f g xs (λ q i. h q (or_right (eqb x q) (is_among xs q) i)))

pub any_members : (f g : ℕ → Bool) (xs : List ℕ) → ((q : ℕ) → is_among xs q ≡ true → f q ≡ g q) → list_any f xs ≡ list_any g xs
any_members f g [] h = refl
any_members f g (x ∷ xs) h =
    ap (λ b. b || list_any f xs) (h x (here x xs)) ∙ ap (λ t. g x || t) (any_members f g xs (λ q i. h q (or_right (eqb x q) (is_among xs q) i)))

module _ (catalog : Catalog) where
  -- the numbers of packages
  pub bounds : (p : ℕ) → is_among (packages catalog) p ≡ true → (0 < p) × (p < length catalog.universe.packages + 1)
  bounds p h = let r = in_range 1 (length catalog.universe.packages) p h in (omega (arith, r.0), omega (arith, r.1))

  pub is_there : (p : ℕ) → 0 < p → p < length catalog.universe.packages + 1 → is_among (packages catalog) p ≡ true
  is_there p low high = among_range 1 (length catalog.universe.packages) p (omega (arith, low)) (omega (arith, high))

  pub installed_there : (p : ℕ) → is_installed catalog p ≡ true → (0 < p) × (p < length catalog.universe.packages + 1)
  installed_there zero h = absurd (false≢true h)
  installed_there (suc k) h = elim (cases_lt k (length catalog.universe.packages)) [
    | inl lt ↦ (omega arith, omega (arith, lt))
    | inr le ↦ absurd (false≢true (ap (λ o. passes o (λ (a : Package). option_eq nat_eq (Some a.repo) catalog.universe.installed)) (sym (slice_get_past catalog.universe.packages k le)) ∙ h))
  ]

  pub set_there : (p : ℕ) → installed_set catalog p ≡ true → p < length catalog.universe.packages + 1
  set_there zero h = omega arith
  set_there (suc k) h = (installed_there (suc k) h).1

  module _ (jobs : List Job) (test : ℕ → Bool) where
    -- a table of marks at a package
    pub mark_at : (p : ℕ) → 0 < p → p < length catalog.universe.packages + 1 → is_marked (mark_each catalog jobs test) p ≡ test p
    mark_at zero low high = absurd (omega (arith, low))
    mark_at (suc k) low high = let e : 1 + k ≡ suc k = omega arith in told_from test 1 (length catalog.universe.packages) k (omega (arith, high)) ∙ ap test e

    pub mark_entries : length (mark_each catalog jobs test) ≡ length catalog.universe.packages + 1
    mark_entries = ap (λ n. suc n) (length-map (packages catalog) test ∙ length-range_with_len 1 (length catalog.universe.packages)) ∙ sym (add-one (length catalog.universe.packages))

pub append_none : (xs : List ℕ) → xs ++ [] ≡ xs
append_none [] = refl
append_none (x ∷ xs) = ap (λ t. x ∷ t) (append_none xs)
