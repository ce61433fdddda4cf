-- Tables of the relations that a single package meets or does not, and what follows where the table is empty.
use Rattle.std.proofs.Common.{◌≡◌, ◌∙◌, ℕ, zero, suc, ◌+◌, ◌<◌, Bool, true, List, [], ◌∷◌, length, map, refl, sym, ap, arith}
use Rattle.std.specs.Prelude.{◌==◌, nat_lt, slice_index_or}
use Rattle.std.specs.List.{list_all, range_with_len}
use Rattle.std.proofs.lemmas.Bool.Decides.{nat_tests}
use Rattle.solv_list.proofs.Lists.{all_weaker}
use Rattle.solv_pool.specs.Prelude.{DepNode, tree, package_wise}
use Rattle.solv_pool.specs.declared.packages.Need.{Need}
use Rattle.solv_clean.specs.Inner.Readiness.{need_below}
use Rattle.solv_clean.specs.Inner.Tables.{table_of}
use Rattle.solv_leaving.specs.Inner.Wise.{AreWise}

entry_from : (f : ℕ → Bool) (a n p : ℕ) → p < n → slice_index_or (map f (range_with_len a n)) p true ≡ f (a + p)
entry_from f a zero p lt = absurd (omega arith)
entry_from f a (suc n) zero lt = let e : a ≡ a + 0 = omega arith in ap f e
entry_from f a (suc n) (suc p) lt = let e : a + 1 + p ≡ a + suc p = omega arith in entry_from f (a + 1) n p (omega (arith, lt)) ∙ ap f e

-- an entry of a table
pub entry_at : (f : ℕ → Bool) (m p : ℕ) → p < m → slice_index_or (table_of m f) p true ≡ f p
entry_at f m p lt = let e : 0 + p ≡ p = omega arith in entry_from f 0 m p lt ∙ ap f e

below : (d n : ℕ) → nat_lt d n ≡ true → d < n
below d n h = grind (arith, nat_tests, h)

module _ (nodes : List DepNode) (wise : List Bool) (are : AreWise nodes wise) (none : (length wise == 0) ≡ true) where
  -- where the table is empty a single package meets each relation or does not
  all_wise : (d : ℕ) → d < length nodes → package_wise (tree nodes d) ≡ true
  all_wise d lt = sym (are d lt) ∙ empty wise none
    where
      empty : (ws : List Bool) → (length ws == 0) ≡ true → slice_index_or ws d true ≡ true
      empty [] h = refl
      empty (w ∷ ws) h = absurd (grind (arith, nat_tests, h))

  pub needs_wise : (needs : List Need) → list_all (need_below (length nodes)) needs ≡ true → list_all (λ (need : Need). package_wise (tree nodes need.dep)) needs ≡ true
  needs_wise = all_weaker (need_below (length nodes)) (λ (need : Need). package_wise (tree nodes need.dep)) (λ (need : Need) h. all_wise need.dep (below need.dep (length nodes) h))
