-- A line `erase P` stands only where nothing takes the place of P, so P was not to be kept.
use Rattle.std.proofs.Common.{◌≡◌, ℕ, Bool, true, false, not, ◌&&◌, ◌||◌, cond, List, [], ◌∷◌, map, Option, Some, None, inl, inr, refl, sym, ap, subst, ◌∙◌}
use Rattle.std.specs.Prelude.{filter, find, ◌==◌}
use Rattle.std.specs.Cmp.{IsTotalOrder}
use Rattle.std.specs.List.{list_any}
use Rattle.std.specs.Option.{option_map_or}
use Rattle.std.specs.Ordering.{is_gt, ordering_reverse}
use Rattle.std.specs.declared.cmp.Ordering.{Ordering}
use Rattle.std.specs.declared.cmp.Ordering.TheVariants.{Less, Equal, Greater}
use Rattle.std.proofs.lemmas.Bool.{and_from, cases_Bool, eqb-true}
use Rattle.std.proofs.lemmas.Cmp.{tied_itself, upto, on_total}
use Rattle.solv_list.proofs.Booleans.{first_of_both, second_of_both, false_of_not, or_cases, true_is_not_false}
use Rattle.solv_base.specs.Evr.{evr_cmp}
use Rattle.solv_pool.specs.Prelude.{Catalog, catalog_of, packages, is_installed, same_name, marks_of, is_kept, feature_candidates}
use Rattle.solv_pool.specs.Best.{evr_of, compare_evrs}
use Rattle.solv_pool.specs.Installable.{is_installable}
use Rattle.solv_pool.specs.Providing.{obsoletes}
use Rattle.solv_pool.specs.Updates.{coexist, is_feature, same_build}
use Rattle.solv_pool.specs.Inner.RuleMeaning.{holds_some}
use Rattle.solv_pool.specs.declared.tasks.Flags.{Flags}
use Rattle.solv_pool.specs.declared.job_marks.Marks.{Marks}
use Rattle.solv_pool.proofs.Best.{top_of}
use Rattle.solv_pool.proofs.Members.{Has, has_split, has_filtered, of_mapped, of_filtered, any_has, among_has}
use Rattle.solv_trans.specs.Changes.{change_by, partner, obsoleter, line_of, lines_of_leaving, changes}
use Rattle.solv_trans.specs.Inner.Changes.{change_to, leaves, successors, is_installed_anew}
use Rattle.solv_trans.specs.Moving.{comes}
use Rattle.solv_trans.specs.declared.kinds.Change.TheVariants.{Install, Erase, Alter, Reinstall, Obsolete}
use Rattle.solv_questions.proofs.Leading.{contains_has}
use Rattle.solv_laws.specs.Asked.{ErasedLinesAreAsked}
use Rattle.solv_laws.proofs.Packs.{is_pack_there}
use Rattle.solv_laws.proofs.RulesMet.{feature_met}

-- where none is found, none passes
none_found : (f : ℕ → Bool) (xs : List ℕ) (x : ℕ) → find f xs ≡ None → Has xs x → f x ≡ false
none_found f [] x h there = absurd there
none_found f (y ∷ xs) x h there = step (f y) refl (λ k more. none_found f xs x k more) h there
  where
    step : (b : Bool) → f y ≡ b → (find f xs ≡ None → Has xs x → f x ≡ false) → cond b (Some y) (find f xs) ≡ None → Has (y ∷ xs) x → f x ≡ false
    step true is behind k at = absurd (cc)
    step false is behind k (inl here) = ap f (sym here) ∙ is
    step false is behind k (inr more) = behind k more

-- a list with an element has a greatest one
module _ (order : ℕ → ℕ → Ordering) (total : IsTotalOrder order) where
  abbrev over : ℕ → ℕ → Bool
  over a b = is_gt (order a b)

  never : (a : ℕ) → over a a ≡ false
  never a = ap is_gt (tied_itself total a)

  turned : (a b : ℕ) → over a b ≡ true → over b a ≡ false
  turned a b h = ap is_gt (total.antisymm b a) ∙ step (order a b) h
    where
      step : (o : Ordering) → is_gt o ≡ true → is_gt (ordering_reverse o) ≡ false
      step Less k = cc
      step Equal k = cc
      step Greater k = refl

  chain : (a b c : ℕ) → over a b ≡ true → over b c ≡ true → over a c ≡ true
  chain a b c h k = elim (cases_Bool (over a c)) [
    | inl y ↦ y
    | inr n ↦ absurd (true_is_not_false (over b c) k (upto total b a c (turned a b h) n))
  ]

  has_greatest : (xs : List ℕ) (x : ℕ) → Has xs x → find (λ q. not (list_any (λ r. over r q) xs)) xs ≡ None → ⊥
  has_greatest xs x there none =
      let top = top_of (λ q. true) over never chain x xs refl in
      let at : Has xs top.0 = elim (among_has (x ∷ xs) top.0 top.1.from_here) [ inl here ↦ subst (Has xs) here there | inr more ↦ more ] in
      true_is_not_false (not (list_any (λ r. over r top.0) xs)) (ap not top.1.untopped) (none_found (λ q. not (list_any (λ r. over r q) xs)) xs top.0 none at)

module _ (catalog : Catalog) (set : ℕ → Bool) where
  -- what comes for a package is no line `erase`
  change_erases_none : (x q p : ℕ) (o : Ordering) → change_by catalog x q o ≡ Erase p → ⊥
  change_erases_none x q p Greater h = cc
  change_erases_none x q p Less h = cc
  change_erases_none x q p Equal h = either (same_build catalog x q) h
    where
      either : (b : Bool) → cond b (Reinstall x q) (Alter x q) ≡ Erase p → ⊥
      either true k = cc
      either false k = cc

  -- nothing comes for the package of a line `erase`, and nothing obsoletes it
  pub record IsErased (p : ℕ) : Type 0 where
    pub there : Has (packages catalog) p
    pub left : leaves catalog set p ≡ true
    pub no_partner : partner catalog set p ≡ None
    pub no_obsoleter : obsoleter catalog set p ≡ None

  of_line : (x p : ℕ) (comer obsoleting : Option ℕ) → option_map_or (change_to catalog x) comer (option_map_or (Obsolete x) obsoleting (Erase x)) ≡ Erase p
      → (x ≡ p) × (comer ≡ None) × (obsoleting ≡ None)
  of_line x p (Some q) obsoleting h = absurd (change_erases_none x q p (compare_evrs catalog q x) h)
  of_line x p None (Some q) h = absurd (cc)
  of_line x p None None h = (cc, refl, refl)

  erased_of : (p : ℕ) → Has (changes catalog set) (Erase p) → IsErased p
  erased_of p h = elim (has_split (lines_of_leaving catalog set) (map Install (filter (is_installed_anew catalog set) (packages catalog))) (Erase p) h) [
    | inl line ↦ gone (of_mapped (line_of catalog set) (filter (leaves catalog set) (packages catalog)) (Erase p) line)
    | inr line ↦ came (of_mapped Install (filter (is_installed_anew catalog set) (packages catalog)) (Erase p) line)
  ]
    where
      came : ((x : ℕ) × (Has (filter (is_installed_anew catalog set) (packages catalog)) x × (Install x ≡ Erase p))) → IsErased p
      came (x, at) = absurd (differ at.1)
        where
          differ : Install x ≡ Erase p → ⊥
          differ e = cc

      gone : ((x : ℕ) × (Has (filter (leaves catalog set) (packages catalog)) x × (line_of catalog set x ≡ Erase p))) → IsErased p
      gone (x, at) =
          let parts = of_line x p (partner catalog set x) (obsoleter catalog set x) at.1 in
          let own = of_filtered (leaves catalog set) (packages catalog) x at.0 in
          let erased : IsErased x = record { there = own.0; left = own.1; no_partner = parts.1; no_obsoleter = parts.2 } in
          subst IsErased parts.0 erased

  module _ (total : IsTotalOrder evr_cmp) (flags : Flags) (marks : Marks) (p : ℕ) (erased : IsErased p) where
    -- nothing in the set may take its place
    none_in_place : (q : ℕ) → Has (packages catalog) q → set q ≡ true → is_feature catalog marks p q ≡ true → ⊥
    none_in_place q there inside may =
        let new : not (is_installed catalog q) ≡ true = first_of_both (not (is_installed catalog q)) _ (second_of_both (is_installable catalog q) _ may) in
        elim (or_cases (same_name catalog p q) (obsoletes catalog q p) (first_of_both (same_name catalog p q || obsoletes catalog q p) (not (coexist catalog marks p q)) (second_of_both (not (is_installed catalog q)) _ (second_of_both (is_installable catalog q) _ may)))) [
          | inl named ↦ has_greatest (compare_evrs catalog) (on_total (evr_of catalog) total) (successors catalog set p) q
              (has_filtered (λ q. comes catalog set q && same_name catalog p q) (packages catalog) q there (and_from (comes catalog set q) (same_name catalog p q) (and_from _ (set q && not (is_installed catalog q)) (is_pack_there catalog q there) (and_from (set q) (not (is_installed catalog q)) inside new)) named))
              erased.no_partner
          | inr covered ↦ true_is_not_false (set q && obsoletes catalog q p) (and_from (set q) (obsoletes catalog q p) inside covered) (none_found (λ q. set q && obsoletes catalog q p) (packages catalog) q erased.no_obsoleter there)
        ]

    none_stays : holds_some (feature_candidates catalog flags marks p) set ≡ true → ⊥
    none_stays h =
        let some = any_has set (feature_candidates catalog flags marks p) h in
        let own = of_filtered (λ q. (q == p) || is_feature catalog marks p q) (packages catalog) some.0 some.1.0 in
        elim (or_cases (some.0 == p) (is_feature catalog marks p some.0) own.1) [
          | inl here ↦ true_is_not_false (set p) (ap set (sym (eqb-true some.0 p here)) ∙ some.1.1) (false_of_not (set p) (second_of_both (is_installed catalog p) (not (set p)) erased.left))
          | inr may ↦ none_in_place some.0 own.0 some.1.1 may
        ]

pub erased_is_asked : IsTotalOrder evr_cmp → ErasedLinesAreAsked
erased_is_asked total task set p meets line =
    let erased : IsErased (catalog_of task) set p = erased_of (catalog_of task) set p (contains_has (changes (catalog_of task) set) (Erase p) line) in
    elim (cases_Bool (is_kept (catalog_of task) task.flags (marks_of task) p)) [
      | inl kept ↦ absurd (none_stays (catalog_of task) set total task.flags (marks_of task) p erased (feature_met task set meets p erased.there kept))
      | inr asked ↦ asked
    ]
