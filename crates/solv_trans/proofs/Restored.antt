-- What is there after the changes to a set is the set.
use Rattle.std.proofs.Common.{◌≡◌, ◌<◌, ◌+◌, ℕ, zero, suc, Bool, true, false, not, cond, ◌&&◌, ◌||◌, List, [], ◌∷◌, ◌++◌, map, length, Option, Some, None, refl, sym, ap, ◌∙◌, inl, inr, arith}
use Rattle.std.specs.Prelude.{filter, find, ◌==◌}
use Rattle.std.specs.List.{list_any, range_with_len}
use Rattle.std.specs.Option.{option_map_or}
use Rattle.std.specs.declared.cmp.Ordering.{Ordering}
use Rattle.std.specs.declared.cmp.Ordering.TheVariants.{Less, Equal, Greater}
use Rattle.std.proofs.lemmas.Bool.{eqb-true}
use Rattle.std.proofs.lemmas.Bool.Decides.{nat_tests}
use Rattle.solv_pool.specs.Best.{compare_evrs}
use Rattle.solv_pool.specs.Prelude.{Catalog, packages, members, is_installed, same_name, is_among, is_pack}
use Rattle.solv_trans.specs.declared.kinds.Change.{Change}
use Rattle.solv_trans.specs.declared.kinds.Change.TheVariants.{Install, Erase, Obsolete}
use Rattle.solv_trans.specs.Changes.{change_by, partner, obsoleter, line_of, lines_of_leaving, changes}
use Rattle.solv_pool.specs.Updates.{same_build}
use Rattle.solv_trans.specs.Inner.Changes.{is_exceeded, change_to, leaves, successors, is_installed_anew}
use Rattle.solv_trans.specs.Moving.{comes}
use Rattle.solv_trans.specs.Effects.{is_taken, is_brought, is_there_after, after}
use Rattle.solv_trans.specs.Inner.Effects.{takes, brings}
use Rattle.solv_trans.proofs.Same.{filter_range}
use Rattle.solv_list.proofs.Booleans.{first_of_both, true_or_false, second_of_both}
use Rattle.solv_list.proofs.Lists.{none_of}
use Rattle.solv_trans.proofs.Listing.{a_pack}
use Rattle.solv_pool.proofs.Among.{among_filter}
use Rattle.solv_prov.proofs.Obsoleting.{among_range}

any_appended : {X : Type 0} (f : X → Bool) (xs ys : List X) → list_any f (xs ++ ys) ≡ (list_any f xs || list_any f ys)
any_appended f [] ys = refl
any_appended f (x ∷ xs) ys = ap (λ b. f x || b) (any_appended f xs ys) ∙ step (f x)
  where
    step : (b : Bool) → (b || (list_any f xs || list_any f ys)) ≡ ((b || list_any f xs) || list_any f ys)
    step true = refl
    step false = refl

any_mapped : {X : Type 0} (f : X → Bool) (make : ℕ → X) (g : ℕ → Bool) → ((x : ℕ) → f (make x) ≡ g x) → (xs : List ℕ) → list_any f (map make xs) ≡ list_any g xs
any_mapped f make g h [] = refl
any_mapped f make g h (x ∷ xs) = rw (h x, any_mapped f make g h xs) refl

none_below : (start count p : ℕ) → p < start → is_among (range_with_len start count) p ≡ false
none_below start zero p low = refl
none_below start (suc count) p low = let other : (start == p) ≡ false = grind (arith, nat_tests, low) in rw (other, none_below (start + 1) count p (omega (arith, low))) refl

found_filtered : (f g : ℕ → Bool) (xs : List ℕ) (q : ℕ) → find f (filter g xs) ≡ Some q → g q ≡ true
found_filtered f g [] q h = absurd (cc)
found_filtered f g (x ∷ xs) q h = step (g x) refl (found_filtered f g xs q) h
  where
    step : (b : Bool) → g x ≡ b → (find f (filter g xs) ≡ Some q → g q ≡ true) → find f (cond b (x ∷ filter g xs) (filter g xs)) ≡ Some q → g q ≡ true
    step true is rest k = inner (f x) k
      where
        inner : (d : Bool) → cond d (Some x) (find f (filter g xs)) ≡ Some q → g q ≡ true
        inner true e = let here : x ≡ q = cc in ap g (sym here) ∙ is
        inner false e = rest e
    step false is rest k = rest k

module _ (catalog : Catalog) where
  by_takes : (x q p : ℕ) (o : Ordering) → takes p (change_by catalog x q o) ≡ (x == p)
  by_takes x q p Less = refl
  by_takes x q p Greater = refl
  by_takes x q p Equal = build (same_build catalog x q) refl
    where
      build : (b : Bool) → same_build catalog x q ≡ b → takes p (change_by catalog x q Equal) ≡ (x == p)
      build true e = rw e refl
      build false e = rw e refl

  by_brings : (x q p : ℕ) (o : Ordering) → brings p (change_by catalog x q o) ≡ (q == p)
  by_brings x q p Less = refl
  by_brings x q p Greater = refl
  by_brings x q p Equal = build (same_build catalog x q) refl
    where
      build : (b : Bool) → same_build catalog x q ≡ b → brings p (change_by catalog x q Equal) ≡ (q == p)
      build true e = rw e refl
      build false e = rw e refl

module _ (catalog : Catalog) (set : ℕ → Bool) where
  other_line : ℕ → Change
  other_line x = option_map_or (Obsolete x) (obsoleter catalog set x) (Erase x)

  line_takes : (p x : ℕ) → takes p (line_of catalog set x) ≡ (x == p)
  line_takes p x = by (partner catalog set x) (obsoleter catalog set x)
    where
      by : (o u : Option ℕ) → takes p (option_map_or (change_to catalog x) o (option_map_or (Obsolete x) u (Erase x))) ≡ (x == p)
      by (Some q) u = by_takes catalog x q p (compare_evrs catalog q x)
      by None (Some q) = refl
      by None None = refl

  line_brings : (p x : ℕ) → brings p (line_of catalog set x) ≡ true → comes catalog set p ≡ true
  line_brings p x h = by (partner catalog set x) (obsoleter catalog set x) refl h
    where
      by : (o u : Option ℕ) → partner catalog set x ≡ o → brings p (option_map_or (change_to catalog x) o (option_map_or (Obsolete x) u (Erase x))) ≡ true → comes catalog set p ≡ true
      by (Some q) u is k =
          let here : q ≡ p = eqb-true q p (sym (by_brings catalog x q p (compare_evrs catalog q x)) ∙ k) in
          ap (comes catalog set) (sym here)
          ∙ first_of_both (comes catalog set q) _ (found_filtered (λ r. not (is_exceeded catalog (successors catalog set x) r)) (λ r. comes catalog set r && same_name catalog x r) (packages catalog) q is)
      by None (Some q) is k = cc
      by None None is k = cc

  brought_comes : (p : ℕ) (xs : List ℕ) → is_brought (map (line_of catalog set) xs) p ≡ true → comes catalog set p ≡ true
  brought_comes p [] h = cc
  brought_comes p (x ∷ xs) h = elim (true_or_false (brings p (line_of catalog set x))) [
    | inl e ↦ line_brings p x e
    | inr e ↦ brought_comes p xs (ap (λ b. b || is_brought (map (line_of catalog set) xs) p) (sym e) ∙ h)
  ]

  taken_is : (p : ℕ) → is_taken (changes catalog set) p ≡ (is_among (packages catalog) p && leaves catalog set p)
  taken_is p =
      any_appended (takes p) (lines_of_leaving catalog set) (map Install (filter (is_installed_anew catalog set) (packages catalog)))
      ∙ ap (λ b. b || is_taken (map Install (filter (is_installed_anew catalog set) (packages catalog))) p)
      (any_mapped (takes p) (line_of catalog set) (λ x. x == p) (line_takes p) (filter (leaves catalog set) (packages catalog)) ∙ among_filter (leaves catalog set) (packages catalog) p)
      ∙ ap (λ b. (is_among (packages catalog) p && leaves catalog set p) || b)
      (any_mapped (takes p) Install (λ x. false) (λ x. refl) (filter (is_installed_anew catalog set) (packages catalog)) ∙ none_of (filter (is_installed_anew catalog set) (packages catalog)))
      ∙ nothing (is_among (packages catalog) p && leaves catalog set p)
    where
      nothing : (b : Bool) → (b || false) ≡ b
      nothing true = refl
      nothing false = refl

  brought_is : (p : ℕ) → is_brought (changes catalog set) p ≡ (is_brought (lines_of_leaving catalog set) p || (is_among (packages catalog) p && is_installed_anew catalog set p))
  brought_is p =
      any_appended (brings p) (lines_of_leaving catalog set) (map Install (filter (is_installed_anew catalog set) (packages catalog)))
      ∙ ap (λ b. is_brought (lines_of_leaving catalog set) p || b)
      (any_mapped (brings p) Install (λ x. x == p) (λ x. refl) (filter (is_installed_anew catalog set) (packages catalog)) ∙ among_filter (is_installed_anew catalog set) (packages catalog) p)

  settled : (i s b : Bool) → (b ≡ true → (s && not i) ≡ true) → ((i && not (i && not s)) || (b || ((s && not i) && not b))) ≡ s
  settled true true b h = refl
  settled true false true h = let no : false ≡ true = h refl in cc
  settled true false false h = refl
  settled false true true h = refl
  settled false true false h = refl
  settled false false true h = let no : false ≡ true = h refl in cc
  settled false false false h = refl

  there_is : (p : ℕ) → 0 < p → p < length catalog.universe.packages + 1 → is_there_after catalog (changes catalog set) p ≡ set p
  there_is zero some within = absurd (omega (arith, some))
  there_is (suc k) some within =
      let pack : is_pack (length catalog.universe.packages) (suc k) ≡ true = a_pack (length catalog.universe.packages) (suc k) some (omega (arith, within)) in
      let among : is_among (packages catalog) (suc k) ≡ true = among_range 1 (length catalog.universe.packages) (suc k) (omega arith) (omega (arith, within)) in
      let own : leaves catalog set (suc k) ≡ (is_among (packages catalog) (suc k) && leaves catalog set (suc k)) = ap (λ b. b && leaves catalog set (suc k)) (sym among) in
      let new : is_installed_anew catalog set (suc k) ≡ (is_among (packages catalog) (suc k) && is_installed_anew catalog set (suc k)) = ap (λ b. b && is_installed_anew catalog set (suc k)) (sym among) in
      ap (λ b. (is_installed catalog (suc k) && not b) || is_brought (changes catalog set) (suc k)) (taken_is (suc k) ∙ sym own)
      ∙ ap (λ b. (is_installed catalog (suc k) && not (leaves catalog set (suc k))) || b) (brought_is (suc k) ∙ ap (λ b. is_brought (lines_of_leaving catalog set) (suc k) || b) (sym new))
      ∙ ap (λ b. (is_installed catalog (suc k) && not (leaves catalog set (suc k))) || (is_brought (lines_of_leaving catalog set) (suc k) || ((b && (set (suc k) && not (is_installed catalog (suc k)))) && not (is_brought (lines_of_leaving catalog set) (suc k))))) pack
      ∙ settled (is_installed catalog (suc k)) (set (suc k)) (is_brought (lines_of_leaving catalog set) (suc k))
      (λ h. second_of_both (is_pack (length catalog.universe.packages) (suc k)) (set (suc k) && not (is_installed catalog (suc k))) (brought_comes (suc k) (filter (leaves catalog set) (packages catalog)) h))

  system_stays : is_there_after catalog (changes catalog set) 0 ≡ true
  system_stays = ap (λ b. not b || is_brought (changes catalog set) 0) (taken_is 0 ∙ ap (λ b. b && leaves catalog set 0) (none_below 1 (length catalog.universe.packages) 0 (omega arith)))

  pub after_is : set 0 ≡ true → after catalog (changes catalog set) ≡ filter set (members catalog)
  after_is system = step (is_there_after catalog (changes catalog set) 0) (set 0) system_stays system
    where
      behind : filter (is_there_after catalog (changes catalog set)) (packages catalog) ≡ filter set (packages catalog)
      behind = filter_range (is_there_after catalog (changes catalog set)) set 1 (length catalog.universe.packages) (length catalog.universe.packages + 1) (omega arith) (omega arith) there_is

      step : (a b : Bool) → a ≡ true → b ≡ true
          → cond a (0 ∷ filter (is_there_after catalog (changes catalog set)) (packages catalog)) (filter (is_there_after catalog (changes catalog set)) (packages catalog)) ≡ cond b (0 ∷ filter set (packages catalog)) (filter set (packages catalog))
      step true true h k = ap (λ t. 0 ∷ t) behind
      step true false h k = cc
      step false b h k = cc
