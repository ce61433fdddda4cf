-- Lists of packages that pass a test.
use Rattle.std.proofs.Common.{◌≡◌, ◌<◌, ◌≤◌, ◌+◌, ◌-◌, ℕ, zero, suc, Bool, true, false, cond, ◌&&◌, List, [], ◌∷◌, ◌++◌, map, length, Some, refl, sym, ap, ◌∙◌, arith, append_assoc}
use Rattle.std.proofs.lemmas.List.{append-nil}
use Rattle.std.specs.Prelude.{filter, find, nat_lt, nat_le, ◌==◌}
use Rattle.std.specs.List.{list_all, range_with_len}
use Rattle.std.proofs.lemmas.Bool.Decides.{nat_tests}
use Rattle.solv_pool.specs.Prelude.{plain, passes, when, Catalog, packages, package_at, same_name, is_pack}
use Rattle.solv_pool.specs.Providing.{is_named}
use Rattle.solv_pool.specs.declared.packages.Package.{Package}
use Rattle.solv_list.proofs.Lists.{filter_same}
use Rattle.solv_list.proofs.Numbers.{equal_swapped}
use Rattle.solv_pool.proofs.Placed.{passes_same}

pub find_filter : (f g : ℕ → Bool) (xs : List ℕ) → find f (filter g xs) ≡ find (λ x. f x && g x) xs
find_filter f g [] = refl
find_filter f g (x ∷ xs) = step (g x) (f x) refl (find_filter f g xs)
  where
    step : (b d : Bool) → f x ≡ d → find f (filter g xs) ≡ find (λ x. f x && g x) xs
        → find f (cond b (x ∷ filter g xs) (filter g xs)) ≡ cond (d && b) (Some x) (find (λ x. f x && g x) xs)
    step true true is h = rw is refl
    step true false is h = rw is h
    step false true is h = h
    step false false is h = h

-- the packages of a package's name
pub named_are : (catalog : Catalog) (p : ℕ) (a : Package) → package_at catalog p ≡ Some a → filter (is_named catalog (plain a.name)) (packages catalog) ≡ filter (same_name catalog p) (packages catalog)
named_are catalog p a at = filter_same (is_named catalog (plain a.name)) (same_name catalog p) alike (packages catalog)
  where
    alike : (q : ℕ) → is_named catalog (plain a.name) q ≡ same_name catalog p q
    alike q =
        passes_same (λ (b : Package). b.name == a.name) (λ (b : Package). a.name == b.name) (λ b. equal_swapped b.name a.name) (package_at catalog q)
        ∙ sym (ap (λ o. passes o (λ (a : Package). passes (package_at catalog q) (λ (b : Package). a.name == b.name))) at)

range_all : (test f : ℕ → Bool) (start count end : ℕ) → start + count ≤ end → 0 < start → ((p : ℕ) → 0 < p → p < end → test p ≡ true) → list_all test (filter f (range_with_len start count)) ≡ true
range_all test f start zero end within some h = refl
range_all test f start (suc count) end within some h = step (f start) (h start some (omega arith)) (range_all test f (start + 1) count end (omega (arith, within)) (omega arith) h)
  where
    step : (b : Bool) → test start ≡ true → list_all test (filter f (range_with_len (start + 1) count)) ≡ true
        → list_all test (cond b (start ∷ filter f (range_with_len (start + 1) count)) (filter f (range_with_len (start + 1) count))) ≡ true
    step true here k = rw here k
    step false here k = k

pub below_of : (catalog : Catalog) (f : ℕ → Bool) (end : ℕ) → end ≡ length catalog.universe.packages + 1 → list_all (λ p. nat_lt p end) (filter f (packages catalog)) ≡ true
below_of catalog f end is = range_all (λ p. nat_lt p end) f 1 (length catalog.universe.packages) (length catalog.universe.packages + 1) (omega arith) (omega arith) (λ p some within. grind (arith, nat_tests, within, is))

pub a_pack : (count p : ℕ) → 0 < p → p ≤ count → is_pack count p ≡ true
a_pack count p some within = let above : nat_lt 0 p ≡ true = grind (arith, nat_tests, some) in let below : nat_le p count ≡ true = grind (arith, nat_tests, within) in rw (above, below) refl

-- what is made of the packages that pass a test, from one on
abbrev pub made_from : {X : Type 0} → (ℕ → Bool) → (ℕ → X) → ℕ → ℕ → List X
made_from test make number count = map make (filter test (range_with_len (number + 1) (count - number)))

pub made_turn : {X : Type 0} (test : ℕ → Bool) (make : ℕ → X) (number count : ℕ) (done now whole : List X) → number < count → now ≡ done ++ when (test (number + 1)) (make (number + 1) ∷ [])
    → done ++ made_from test make number count ≡ whole → now ++ made_from test make (number + 1) count ≡ whole
made_turn test make number count done now whole within is h =
    rw is (append_assoc done (when (test (number + 1)) (make (number + 1) ∷ [])) (made_from test make (number + 1) count) ∙ ap (λ t. done ++ t) (sym turn) ∙ h)
  where
    turn : made_from test make number count ≡ when (test (number + 1)) (make (number + 1) ∷ []) ++ made_from test make (number + 1) count
    turn = let more : count - number ≡ suc (count - (number + 1)) = omega (arith, within) in ap (λ n. map make (filter test (range_with_len (number + 1) n))) more ∙ step (test (number + 1)) refl
      where
        step : (b : Bool) → test (number + 1) ≡ b
            → map make (filter test (range_with_len (number + 1) (suc (count - (number + 1))))) ≡ when b (make (number + 1) ∷ []) ++ made_from test make (number + 1) count
        step true is = rw is refl
        step false is = rw is refl

pub made_all : {X : Type 0} (test : ℕ → Bool) (make : ℕ → X) (number count : ℕ) (done whole : List X) → number ≤ count → count ≤ number → done ++ made_from test make number count ≡ whole → done ≡ whole
made_all test make number count done whole low high h = let none : count - number ≡ 0 = omega (arith, high) in sym (append-nil done) ∙ (rw none at h)
