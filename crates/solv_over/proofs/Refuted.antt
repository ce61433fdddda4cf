-- What a moved log rests on.
use Rattle.std.proofs.Common.{◌≡◌, ◌⊎◌, ℕ, zero, suc, ◌+◌, ◌<◌, ◌≤◌, Bool, true, false, not, ◌&&◌, ◌||◌, List, [], ◌∷◌, ◌++◌, map, Option, Some, None, inl, inr, refl, sym, ◌∙◌, ap, subst, length, arith, cond, eq-eqb}
use Rattle.std.specs.Prelude.{ℤ, flat_map, fold, slice_get, option_to_list, nat_lt, ◌==◌, filter}
use Rattle.std.specs.List.{list_any, list_all}
use Rattle.std.specs.Ordering.{nat_cmp, match_ordering}
use Rattle.std.specs.Cmp.{nat_cmp_is}
use Rattle.std.proofs.Common.{Less, Equal, Greater}
use Rattle.std.specs.BTreeSet.{insert_key}
use Rattle.std.proofs.lemmas.Bool.{and_parts, and_from, cases_lt, cases_eq, false≢true, eqb-true}
use Rattle.solv_pool.specs.Prelude.{Catalog, HardRule, is_among}
use Rattle.solv_derive.specs.Leaves.{rule_of, named_rules, leaves}
use Rattle.solv_derive.specs.declared.logs.Hint.{Hint}
use Rattle.solv_derive.specs.declared.logs.Hint.TheVariants as hint
use Rattle.solv_derive.specs.declared.logs.Step.{Step}
use Rattle.solv_list.proofs.Booleans.{same_truth}
use Rattle.solv_over.proofs.Taking.{ap_two}
use Rattle.solv_over.specs.Inner.Places.{hint_at, step_at, steps_at}

-- numbers that are moved in their order
module _ (at : ℕ → ℕ) (rises : (k n : ℕ) → k < n → at k < at n) where
  pub same_order : (k n : ℕ) → nat_cmp (at k) (at n) ≡ nat_cmp k n
  same_order k n = elim (cases_eq k n) [
    | inl e ↦ sym (nat_cmp_is (at k) (at n) Equal (ap at e)) ∙ nat_cmp_is k n Equal e
    | inr d ↦ elim (cases_lt k n) [
      | inl l ↦ sym (nat_cmp_is (at k) (at n) Less (rises k n l)) ∙ nat_cmp_is k n Less l
      | inr g ↦ let l : n < k = omega (arith, g, d) in sym (nat_cmp_is (at k) (at n) Greater (rises n k l)) ∙ nat_cmp_is k n Greater l
    ]
  ]

  inserted : (xs : List ℕ) (k : ℕ) → insert_key nat_cmp (map at xs) (at k) ≡ map at (insert_key nat_cmp xs k)
  inserted [] k = refl
  inserted (x ∷ xs) k =
      ap (λ o. match_ordering o (at k ∷ at x ∷ map at xs) (at x ∷ map at xs) (at x ∷ insert_key nat_cmp (map at xs) (at k))) (same_order k x)
      ∙ ap (λ zs. match_ordering (nat_cmp k x) (at k ∷ at x ∷ map at xs) (at x ∷ map at xs) (at x ∷ zs)) (inserted xs k)
      ∙ by (nat_cmp k x)
    where
      by : (o : _) → match_ordering o (at k ∷ at x ∷ map at xs) (at x ∷ map at xs) (at x ∷ map at (insert_key nat_cmp xs k)) ≡ map at (match_ordering o (k ∷ x ∷ xs) (x ∷ xs) (x ∷ insert_key nat_cmp xs k))
      by Less = refl
      by Equal = refl
      by Greater = refl

  pub sorted_at : (done xs : List ℕ) → fold (insert_key nat_cmp) (map at done) (map at xs) ≡ map at (fold (insert_key nat_cmp) done xs)
  sorted_at done [] = refl
  sorted_at done (x ∷ xs) = ap (λ zs. fold (insert_key nat_cmp) zs (map at xs)) (inserted done x) ∙ sorted_at (insert_key nat_cmp done x) xs

  pub map_append : (xs ys : List ℕ) → map at (xs ++ ys) ≡ map at xs ++ map at ys
  map_append [] ys = refl
  map_append (x ∷ xs) ys = ap (λ zs. at x ∷ zs) (map_append xs ys)

  hints_named : (hs : List Hint) → flat_map rule_of (map (hint_at at) hs) ≡ map at (flat_map rule_of hs)
  hints_named [] = refl
  hints_named (hint.Book k ∷ hs) = ap (λ zs. at k ∷ zs) (hints_named hs)
  hints_named (hint.Step k ∷ hs) = hints_named hs

  named_at : (steps : List Step) → named_rules (steps_at at steps) ≡ map at (named_rules steps)
  named_at [] = refl
  named_at (s ∷ steps) =
      ap (λ zs. zs ++ named_rules (steps_at at steps)) (hints_named s.hints)
      ∙ ap (λ zs. map at (flat_map rule_of s.hints) ++ zs) (named_at steps)
      ∙ sym (map_append (flat_map rule_of s.hints) (named_rules steps))

  -- the leaves of a moved log are those of the log, moved
  pub leaves_at : (steps : List Step) → leaves (steps_at at steps) ≡ map at (leaves steps)
  leaves_at steps = ap (fold (insert_key nat_cmp) []) (named_at steps) ∙ sorted_at [] (named_rules steps)

  -- numbers that are moved in their order stay apart
  pub same_number : (k n : ℕ) → (at k == at n) ≡ (k == n)
  same_number k n = same_truth (at k == at n) (k == n)
      (λ h. elim (cases_eq k n) [ inl e ↦ eq-eqb k n e | inr d ↦ absurd (apart k n d (eqb-true (at k) (at n) h)) ])
      (λ h. eq-eqb (at k) (at n) (ap at (eqb-true k n h)))
    where
      apart : (k n : ℕ) → (k ≡ n → ⊥) → at k ≡ at n → ⊥
      apart k n d e = elim (cases_lt k n) [
        | inl l ↦ let r = rises k n l in absurd (omega (arith, r, e))
        | inr g ↦ let l : n < k = omega (arith, g, d) in let r = rises n k l in absurd (omega (arith, r, e))
      ]

  pub among_at : (xs : List ℕ) (k : ℕ) → is_among (map at xs) (at k) ≡ is_among xs k
  among_at [] k = refl
  among_at (x ∷ xs) k = ap_two (λ a b. a || b) (same_number x k) (among_at xs k)

  -- what passes a test of moved numbers is what passes that of the numbers, moved
  pub filter_at : (p q : ℕ → Bool) → ((k : ℕ) → q (at k) ≡ p k) → (xs : List ℕ) → filter q (map at xs) ≡ map at (filter p xs)
  filter_at p q h [] = refl
  filter_at p q h (x ∷ xs) = ap (λ b. cond b (at x ∷ filter q (map at xs)) (filter q (map at xs))) (h x) ∙ by (p x) (filter_at p q h xs)
    where
      by : (b : Bool) → filter q (map at xs) ≡ map at (filter p xs) → cond b (at x ∷ filter q (map at xs)) (filter q (map at xs)) ≡ map at (cond b (x ∷ filter p xs) (filter p xs))
      by true r = ap (λ zs. at x ∷ zs) r
      by false r = r
