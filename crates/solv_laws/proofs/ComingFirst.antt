-- In a good order what meets a requirement stands before the package that has it, or in one class with it.
use Rattle.std.proofs.Common.{◌≡◌, ◌≢◌, ◌<◌, ◌+◌, ℕ, zero, suc, Bool, true, false, not, ◌&&◌, ◌⊎◌, List, [], ◌∷◌, length, Some, inl, inr, refl, sym, ap, subst, ◌∙◌, arith, eq-eqb, if◌then◌else◌}
use Rattle.std.specs.Prelude.{slice_index, ◌==◌}
use Rattle.std.specs.List.{list_any}
use Rattle.std.proofs.lemmas.Bool.{and_from, cases_Bool, or_left, or_right, eqb-true}
use Rattle.std.proofs.lemmas.Bool.Decides.{nat_tests}
use Rattle.solv_list.proofs.Booleans.{first_of_both, second_of_both, true_is_not_false}
use Rattle.solv_base.specs.Dependency.{Dep}
use Rattle.solv_graph.specs.Graphs.{is_in, row, times}
use Rattle.solv_graph.specs.Walks.{InOneClass}
use Rattle.solv_graph.specs.Classes.{AreClasses, lowest}
use Rattle.solv_graph.proofs.Edges.{times_in}
use Rattle.solv_graph.proofs.Walking.{class_back, class_through}
use Rattle.solv_pool.specs.Prelude.{passes, Catalog, packages, members, package_at, dependency, is_installed, package_meets, member_meets}
use Rattle.solv_pool.specs.Parts.{parts}
use Rattle.solv_pool.specs.declared.packages.Package.{Package}
use Rattle.solv_pool.specs.declared.packages.Need.{Need}
use Rattle.solv_pool.proofs.Members.{Has, any_at, any_has}
use Rattle.solv_trans.specs.Moving.{comes, goes, is_part}
use Rattle.solv_trans.specs.Edges.{is_met_already, brings, requires_some, edge_by, edge, pre_edge}
use Rattle.solv_trans.specs.Inner.Edges.{coming_edge, going_edge, is_kept}
use Rattle.solv_trans.specs.Orders.{IsOrdered, MustPrecede}
use Rattle.solv_trans.specs.declared.ordering.Ordered.{Ordered}
use Rattle.solv_trans.proofs.Asking.{comes_pack, packages_bound}
use Rattle.solv_trans.proofs.Places.{place_in}
use Rattle.solv_questions.proofs.Leading.{contains_has}
use Rattle.solv_laws.specs.Before.{StandsBefore, AreInOneCycle, IsThere, RequiredIsThere}
use Rattle.solv_laws.proofs.Packs.{is_pack_there}

-- a list of lists has each of its lists at a place
row_there : (lists : List (List ℕ)) (l : List ℕ) → Has lists l → (k : ℕ) × (k < length lists) × (row lists k ≡ l)
row_there [] l there = absurd there
row_there (x ∷ lists) l (inl is) = (zero, omega arith, is)
row_there (x ∷ lists) l (inr there) = let r = row_there lists l there in let within = r.1 in (suc r.0, omega (arith, within), r.2)

-- two vertices are in one of the classes, or in no class together
module _ (edge : ℕ → ℕ → Bool) (n : ℕ) (lists : List (List ℕ)) (are : AreClasses edge n lists) (q p : ℕ) (low : q < n) (high : p < n) (other : q ≢ p) where
  abbrev has_both : List ℕ → Bool
  has_both l = is_in l q && is_in l p

  listed_together : list_any has_both lists ≡ true → InOneClass edge q p
  listed_together h =
      let l = any_has has_both lists h in
      let k = row_there lists l.0 l.1.0 in
      let both : has_both (row lists k.0) ≡ true = ap has_both k.2 ∙ l.1.1 in
      let class = are.classes k.0 k.1 in
      class_through edge q (lowest (row lists k.0)) p
      (class_back edge (lowest (row lists k.0)) q (class.members q (first_of_both (is_in (row lists k.0) q) (is_in (row lists k.0) p) both)))
      (class.members p (second_of_both (is_in (row lists k.0) q) (is_in (row lists k.0) p) both))

  together_listed : InOneClass edge q p → list_any has_both lists ≡ true
  together_listed h =
      let l = any_has (λ l. is_in l q) lists (are.all q p low high h other) in
      let k = row_there lists l.0 l.1.0 in
      let class = are.classes k.0 k.1 in
      let here : is_in (row lists k.0) q ≡ true = ap (λ l. is_in l q) k.2 ∙ l.1.1 in
      let there : is_in (row lists k.0) p ≡ true = class.whole p high (class_through edge (lowest (row lists k.0)) q p (class.members q here) h) in
      any_at has_both lists l.0 l.1.0 (sym (ap has_both k.2) ∙ and_from (is_in (row lists k.0) q) (is_in (row lists k.0) p) here there)

  together_or_not : InOneClass edge q p ⊎ (InOneClass edge q p → ⊥)
  together_or_not = elim (cases_Bool (list_any has_both lists)) [
    | inl y ↦ inl (listed_together y)
    | inr n ↦ inr (λ h. true_is_not_false (list_any has_both lists) (together_listed h) n)
  ]

-- one of two numbers is below the other, or they are one
below_or_above : (i j : ℕ) → (i < j) ⊎ ((j < i) ⊎ (i ≡ j))
below_or_above i j = grind (arith, nat_tests)

module _ (catalog : Catalog) (set : ℕ → Bool) where
  abbrev count : ℕ
  count = length catalog.universe.packages + 1

  coming_below : (q : ℕ) → comes catalog set q ≡ true → q < count
  coming_below q h = let r = packages_bound catalog set q (comes_pack catalog set q h) in let high = r.1 in omega (arith, high)

  -- what comes and meets a part that is not met already has an edge to the package
  module _ (p : ℕ) (a : Package) (need : Need) (part : Dep ℕ) (comes_p : comes catalog set p ≡ true) (is : package_at catalog p ≡ Some a)
      (at : Has a.requires_ need) (in_parts : Has (parts (dependency catalog need.dep)) part) (open_ : is_met_already catalog set p part ≡ false) where
    joined : (these : Need → Bool) → these need ≡ true → (q : ℕ) → comes catalog set q ≡ true → package_meets catalog part q ≡ true → (q == p) ≡ false → edge_by catalog set these q p ≡ true
    joined these own q comes_q meets other = rw other (or_left (coming_edge catalog set these q p) (going_edge catalog set these q p) edge_there)
      where
        brought : brings catalog set q p (dependency catalog need.dep) ≡ true
        brought = any_at (λ part. package_meets catalog part q && not (is_met_already catalog set p part)) (parts (dependency catalog need.dep)) part in_parts (and_from (package_meets catalog part q) _ meets (ap not open_))

        asked : requires_some catalog set these (brings catalog set q p) p ≡ true
        asked = ap (λ o. passes o (λ (b : Package). list_any (λ other. these other && brings catalog set q p (dependency catalog other.dep)) b.requires_)) is
            ∙ any_at (λ other. these other && brings catalog set q p (dependency catalog other.dep)) a.requires_ need at (and_from (these need) _ own brought)

        edge_there : coming_edge catalog set these q p ≡ true
        edge_there = and_from (comes catalog set q) _ comes_q (and_from (comes catalog set p) _ comes_p asked)

    -- a member that meets it comes, where it is not met already
    some_comes : member_meets catalog part set ≡ true → (q : ℕ) × (comes catalog set q ≡ true) × (package_meets catalog part q ≡ true)
    some_comes h = by (any_has (λ q. set q && package_meets catalog part q) (members catalog) h)
      where
        met_by_system : package_meets catalog part 0 ≡ true → is_met_already catalog set p part ≡ true
        met_by_system meets = or_right (package_meets catalog part p) _ (or_left (package_meets catalog part 0) _ meets)

        met_by_kept : (q : ℕ) → Has (packages catalog) q → is_kept catalog set q ≡ true → package_meets catalog part q ≡ true → is_met_already catalog set p part ≡ true
        met_by_kept q there kept meets =
            or_right (package_meets catalog part p) _
            (or_right (package_meets catalog part 0) _ (any_at (λ q. is_kept catalog set q && package_meets catalog part q) (packages catalog) q there (and_from (is_kept catalog set q) _ kept meets)))

        not_met : is_met_already catalog set p part ≡ true → ⊥
        not_met met = true_is_not_false (is_met_already catalog set p part) met open_

        by : ((q : ℕ) × (Has (members catalog) q × ((set q && package_meets catalog part q) ≡ true))) → (q : ℕ) × (comes catalog set q ≡ true) × (package_meets catalog part q ≡ true)
        by (q, (inl here, own)) = absurd (not_met (met_by_system (ap (package_meets catalog part) here ∙ second_of_both (set q) (package_meets catalog part q) own)))
        by (q, (inr there, own)) = elim (cases_Bool (is_installed catalog q)) [
          | inl old ↦ absurd (not_met (met_by_kept q there (and_from (is_installed catalog q) (set q) old (first_of_both (set q) _ own)) (second_of_both (set q) (package_meets catalog part q) own)))
          | inr new ↦ (q, and_from _ (set q && not (is_installed catalog q)) (is_pack_there catalog q there) (and_from (set q) _ (first_of_both (set q) _ own) (ap not new)), second_of_both (set q) (package_meets catalog part q) own)
        ]

  module _ (ordered : Ordered) (good : IsOrdered count (is_part catalog set) (goes catalog set) (edge catalog set) (pre_edge catalog set) ordered) where
    -- what comes has a place
    placed : (q : ℕ) → comes catalog set q ≡ true → (i : ℕ) × (i < length ordered.parts) × (slice_index ordered.parts i ≡ q)
    placed q comes_q =
        let part : is_part catalog set q ≡ true = or_left (comes catalog set q) (goes catalog set q) comes_q in
        let once : times ordered.parts q ≡ 1 = good.order.each_once q ∙ ap (λ b. if b then 1 else 0) part in
        place_in ordered.parts q (times_in ordered.parts q (omega (arith, once)))

    -- an edge that counts is kept
    kept_first : (q p : ℕ) → comes catalog set q ≡ true → comes catalog set p ≡ true → q ≢ p → MustPrecede (edge catalog set) (pre_edge catalog set) q p → StandsBefore ordered.parts q p
    kept_first q p comes_q comes_p other counts =
        let i = placed q comes_q in
        let j = placed p comes_p in
        elim (below_or_above i.0 j.0) [
          | inl lt ↦ record { place = i.0; later = j.0; rises = lt; within = j.1; first = i.2; second = j.2 }
          | inr (inl gt) ↦ absurd (good.order.keeps j.0 i.0 gt i.1 (subst (λ x. MustPrecede (edge catalog set) (pre_edge catalog set) x (slice_index ordered.parts j.0)) (sym i.2) (subst (MustPrecede (edge catalog set) (pre_edge catalog set) q) (sym j.2) counts)))
          | inr (inr one) ↦ absurd (other (sym i.2 ∙ ap (slice_index ordered.parts) one ∙ j.2))
        ]

    first_or_cycle : (need : Need) (q p : ℕ) → comes catalog set q ≡ true → comes catalog set p ≡ true → q ≢ p
        → ((these : Need → Bool) → these need ≡ true → edge_by catalog set these q p ≡ true) → StandsBefore ordered.parts q p ⊎ AreInOneCycle catalog set ordered need q p
    first_or_cycle need q p comes_q comes_p other joins = by need.pre refl
      where
        by : (b : Bool) → need.pre ≡ b → StandsBefore ordered.parts q p ⊎ InOneClass (if b then pre_edge catalog set else edge catalog set) q p
        by true pre = elim (together_or_not (pre_edge catalog set) count ordered.pre_cycles good.pre_cycles q p (coming_below q comes_q) (coming_below p comes_p) other) [
          | inl h ↦ inr h
          | inr apart ↦ inl (kept_first q p comes_q comes_p other (MustPrecede.a_pre_edge (joins (λ need. need.pre) pre) apart))
        ]
        by false pre = elim (together_or_not (edge catalog set) count ordered.cycles good.cycles q p (coming_below q comes_q) (coming_below p comes_p) other) [
          | inl h ↦ inr h
          | inr apart ↦ inl (kept_first q p comes_q comes_p other (MustPrecede.another_edge (joins (λ need. true) refl) apart))
        ]

pub required_there : RequiredIsThere
required_there catalog set ordered p a need part good comes_p is at in_parts meets = by (is_met_already catalog set p part) refl
  where
    by : (b : Bool) → is_met_already catalog set p part ≡ b → IsThere catalog set ordered p need part
    by true met = IsThere.already met
    by false open_ =
        let own : Has a.requires_ need = contains_has a.requires_ need at in
        let one_part : Has (parts (dependency catalog need.dep)) part = contains_has (parts (dependency catalog need.dep)) part in_parts in
        let some = some_comes catalog set p a need part comes_p is own one_part open_ meets in
        IsThere.before some.0 some.1 some.2 (λ q comes_q meets_q.
        let apart : (q == p) ≡ false = other q meets_q in
        first_or_cycle catalog set ordered good need q p comes_q comes_p (λ e. true_is_not_false (q == p) (eq-eqb q p e) apart)
        (λ these these_own. joined catalog set p a need part comes_p is own one_part open_ these these_own q comes_q meets_q apart))
      where
        other : (q : ℕ) → package_meets catalog part q ≡ true → (q == p) ≡ false
        other q meets_q = elim (cases_Bool (q == p)) [
          | inl one ↦ absurd (true_is_not_false (is_met_already catalog set p part) (or_left (package_meets catalog part p) _ (ap (package_meets catalog part) (sym (eqb-true q p one)) ∙ meets_q)) open_)
          | inr two ↦ two
        ]
