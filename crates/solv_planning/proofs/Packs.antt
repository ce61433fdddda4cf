-- Numbers of packages.
use Rattle.std.proofs.Common.{◌≡◌, ◌<◌, ◌+◌, ℕ, Bool, true, false, ◌||◌, List, [], ◌∷◌, length, Some, refl, sym, ap, ◌∙◌, subst, arith}
use Rattle.std.specs.Prelude.{nat_lt, nat_le, ◌==◌, if◌then◌else◌, slice_get}
use Rattle.std.specs.List.{list_all}
use Rattle.std.proofs.lemmas.Bool.Decides.{nat_tests}
use Rattle.solv_pool.specs.Prelude.{Catalog, dependency, package_meets, is_pack, is_among, successors}
use Rattle.solv_pool.specs.declared.tasks.Flags.{Flags}
use Rattle.solv_pool.specs.declared.job_marks.Marks.{Marks}
use Rattle.solv_pool.proofs.Origins.{successors_chosen}
use Rattle.solv_policy.specs.Policy.{by_policy}
use Rattle.solv_policy.specs.declared.policy.Asked.TheVariants.{Other}
use Rattle.solv_prov.specs.Index.{Index, providers_of, IsIndexOf}
use Rattle.solv_rules.proofs.Meeting.{members_within}
use Rattle.solv_questions.specs.Questions.{Request}
use Rattle.solv_plan.specs.Inner.PlanOf.{row_of}
use Rattle.solv_plan.proofs.Tables.{row_there}
use Rattle.solv_list.proofs.Booleans.{first_of_both, second_of_both}
use Rattle.solv_pool.proofs.Placed.{packs_of}

-- the successors of one are packages
pub successors_packs : (catalog : Catalog) (flags : Flags) (marks : Marks) (p : ℕ) → list_all (is_pack (length catalog.universe.packages)) (successors catalog flags marks p) ≡ true
successors_packs catalog flags marks p =
    let own = successors_chosen catalog flags marks p in
    subst (λ xs. list_all (is_pack (length catalog.universe.packages)) xs ≡ true) own.is (packs_of catalog own.test)

-- members among which the system is not are packages
pub no_system : (most : ℕ) (xs : List ℕ) → is_among xs 0 ≡ false → list_all (λ p. nat_le p most) xs ≡ true → list_all (is_pack most) xs ≡ true
no_system most [] none within = refl
no_system most (x ∷ xs) none within =
    let below : nat_le x most ≡ true = first_of_both (nat_le x most) _ within in
    let apart : (x == 0) ≡ false = neither (x == 0) (is_among xs 0) none in
    let above : nat_lt 0 x ≡ true = grind (arith, nat_tests, apart) in
    rw (above, below) (no_system most xs (nor (x == 0) (is_among xs 0) none) (second_of_both (nat_le x most) _ within))
  where
    neither : (a b : Bool) → (a || b) ≡ false → a ≡ false
    neither true b h = h
    neither false b h = refl

    nor : (a b : Bool) → (a || b) ≡ false → b ≡ false
    nor true b h = cc
    nor false b h = h

-- the list of a relation in the index
pub providers_at : (index : Index) (catalog : Catalog) (d : ℕ) (xs : List ℕ) → IsIndexOf index catalog → d < length catalog.pool.nodes → slice_get index.providers d ≡ Some xs → xs ≡ providers_of catalog d
providers_at index catalog d xs is lt at =
    let there = row_there (providers_of catalog) 0 (length catalog.pool.nodes) d lt in
    let both : Some xs ≡ Some (providers_of catalog (0 + d)) = sym at ∙ ap (λ (i : Index). slice_get i.providers d) is.exact ∙ there in
    let zero_ : 0 + d ≡ d = omega arith in
    let own : xs ≡ providers_of catalog (0 + d) = cc in
    own ∙ ap (providers_of catalog) zero_

pub providers_within : (catalog : Catalog) (d : ℕ) → list_all (λ p. nat_le p (length catalog.universe.packages)) (providers_of catalog d) ≡ true
providers_within catalog d = members_within catalog (package_meets catalog (dependency catalog d))

-- the row of a relation
pub row_is : (r : Request) (d : ℕ) → (if is_among (providers_of r.catalog d) 0 then 0 ∷ [] else by_policy r.catalog r.marks Other (providers_of r.catalog d)) ≡ row_of r d
row_is r d = refl

-- one member or none is in order
pub few_ordered : (r : Request) (xs : List ℕ) → length xs < 2 → xs ≡ (if is_among xs 0 then 0 ∷ [] else by_policy r.catalog r.marks Other xs)
few_ordered r [] h = refl
few_ordered r (x ∷ []) h = one (x == 0) refl
  where
    one : (b : Bool) → (x == 0) ≡ b → x ∷ [] ≡ (if b || false then 0 ∷ [] else x ∷ [])
    one true e = let zero_ : x ≡ 0 = grind (arith, nat_tests, e) in ap (λ n. n ∷ []) zero_
    one false e = refl
few_ordered r (x ∷ y ∷ xs) h = absurd (omega (arith, h))
