-- What packages ask for, by the lists of the index.
use Rattle.std.proofs.Common.{◌≡◌, ℕ, zero, suc, ◌+◌, ◌-◌, ◌<◌, ◌≤◌, Bool, true, false, not, ◌&&◌, ◌||◌, List, [], ◌∷◌, length, filter, ◌⊎◌, inl, inr, refl, sym, ap, ◌∙◌, arith, eqb, eq-eqb, Some, None}
use Rattle.std.specs.Prelude.{slice_get, nat_lt, nat_le, if◌then◌else◌, nat_eq}
use Rattle.std.specs.List.{list_any, list_all}
use Rattle.std.specs.Option.{option_eq}
use Rattle.std.proofs.lemmas.Bool.{and_parts, and_from, false≢true, eqb-true, ltb-true, false_from_ne_true, or_left, or_right}
use Rattle.std.proofs.lemmas.Bool.Decides.{eqb_tells, nat_tests}
use Rattle.solv_pool.specs.Prelude.{Dep, passes, is_among, IsOver, fits, names_of, Catalog, dependency, is_installed, members, package_at, packages, package_meets, is_pack}
use Rattle.solv_pool.specs.Parts.{parts}
use Rattle.solv_pool.specs.declared.packages.Package.{Package}
use Rattle.solv_pool.specs.declared.tasks.Task.{Task}
use Rattle.solv_graph.specs.Inner.Orders.{turn_at, part_of, late_of, is_placed, is_late}
use Rattle.solv_graph.specs.declared.orders.Turn.{Turn}
use Rattle.solv_graph.specs.declared.orders.Turn.TheVariants.{Never, Early, Late}
use Rattle.solv_trans.specs.Moving.{comes, goes, is_part}
use Rattle.solv_trans.specs.Inner.Edges.{is_kept}
use Rattle.solv_trans.specs.Edges.{is_met_already, brings}
use Rattle.solv_trans.specs.Inner.Joining.{AreTurns, is_early_in, settles}
use Rattle.solv_trans.proofs.Lists.{in_filter, filter_in}
use Rattle.solv_list.proofs.Booleans.{false_of_not, or_cases, or_false, same_truth}
use Rattle.solv_list.proofs.Lists.{all_at}
use Rattle.solv_pool.proofs.Among.{any_from, any_gives, here, in_range}
use Rattle.solv_pool.specs.Needs.{serves}
use Rattle.solv_prov.proofs.Obsoleting.{among_range}

module _ (catalog : Catalog) (set : ℕ → Bool) where
  abbrev count : ℕ
  count = length catalog.universe.packages

  -- the record of a package
  pub package_is : (p : ℕ) (a : Package) → 0 < p → slice_get catalog.universe.packages (p - 1) ≡ Some a → package_at catalog p ≡ Some a
  package_is zero a lt h = absurd (omega arith)
  package_is (suc k) a lt h = let e : suc k - 1 ≡ k = omega arith in rw e at h

  in_packages : (p : ℕ) → is_pack (length catalog.universe.packages) p ≡ true → is_among (packages catalog) p ≡ true
  in_packages p h =
      let both = and_parts (nat_lt 0 p) (nat_le p (length catalog.universe.packages)) h in
      let low : 0 < p = ltb-true 0 p both.0 in
      let high : p ≤ length catalog.universe.packages = le p both.1 in
      among_range 1 (length catalog.universe.packages) p (omega arith) (omega arith)
    where
      le : (p : ℕ) → nat_le p (length catalog.universe.packages) ≡ true → p ≤ length catalog.universe.packages
      le p h = grind (arith, nat_tests)

  pub packages_bound : (p : ℕ) → is_among (packages catalog) p ≡ true → (0 < p) × (p ≤ length catalog.universe.packages)
  packages_bound p h = let r = in_range 1 (length catalog.universe.packages) p h in (omega (arith, r.0), omega (arith, r.1))

  past_end : {X : Type 0} (xs : List X) (k : ℕ) → length xs ≤ k → slice_get xs k ≡ None
  past_end [] k le = refl
  past_end (x ∷ xs) zero le = absurd (omega arith)
  past_end (x ∷ xs) (suc k) le = past_end xs k (omega (arith, le))

  -- an installed package is a package
  pub installed_pack : (p : ℕ) → is_installed catalog p ≡ true → is_among (packages catalog) p ≡ true
  installed_pack zero h = absurd (false≢true h)
  installed_pack (suc k) h = by (nat_lt k (length catalog.universe.packages)) refl
    where
      le : nat_lt k (length catalog.universe.packages) ≡ false → length catalog.universe.packages ≤ k
      le e = grind (arith, nat_tests)

      lt : nat_lt k (length catalog.universe.packages) ≡ true → suc k < 1 + length catalog.universe.packages
      lt e = grind (arith, nat_tests)

      by : (b : Bool) → nat_lt k (length catalog.universe.packages) ≡ b → is_among (packages catalog) (suc k) ≡ true
      by true e = among_range 1 (length catalog.universe.packages) (suc k) (omega arith) (lt e)
      by false e = absurd (false≢true (ap (λ o. passes o (λ (a : Package). option_eq nat_eq (Some a.repo) catalog.universe.installed)) (sym (past_end catalog.universe.packages k (le e))) ∙ h))

  pub comes_pack : (p : ℕ) → comes catalog set p ≡ true → is_among (packages catalog) p ≡ true
  comes_pack p h = in_packages p (and_parts (is_pack (length catalog.universe.packages) p) (set p && not (is_installed catalog p)) h).0

  comes_new : (p : ℕ) → comes catalog set p ≡ true → is_installed catalog p ≡ false
  comes_new p h = false_of_not (is_installed catalog p) (and_parts (set p) (not (is_installed catalog p)) (and_parts (is_pack (length catalog.universe.packages) p) (set p && not (is_installed catalog p)) h).1).1

  goes_installed : (p : ℕ) → goes catalog set p ≡ true → is_installed catalog p ≡ true
  goes_installed p h = (and_parts (is_installed catalog p) _ h).0

  pub goes_pack : (p : ℕ) → goes catalog set p ≡ true → is_among (packages catalog) p ≡ true
  goes_pack p h = installed_pack p (goes_installed p h)

  pub not_both : (p : ℕ) → comes catalog set p ≡ true → goes catalog set p ≡ false
  not_both p h = false_from_ne_true (goes catalog set p) (λ g. false≢true (sym (comes_new p h) ∙ goes_installed p g))

  pub in_members : (p : ℕ) → is_among (packages catalog) p ≡ true → is_among (members catalog) p ≡ true
  in_members p h = or_right (eqb 0 p) (is_among (packages catalog) p) h

  -- turns say what comes and what goes
  module _ (turns : List Turn) (are : AreTurns catalog set turns) where
    turn_cases : (c g : Bool) → (c ≡ true → g ≡ false) → (is_placed (if c then Early else if g then Late else Never) ≡ (c || g)) × (is_late (if c then Early else if g then Late else Never) ≡ g)
    turn_cases true g h = (refl, sym (h refl))
    turn_cases false true h = (refl, refl)
    turn_cases false false h = (refl, refl)

    never_past : (ts : List Turn) (k : ℕ) → length ts ≤ k → turn_at ts k ≡ Never
    never_past [] k le = refl
    never_past (t ∷ ts) zero le = absurd (omega arith)
    never_past (t ∷ ts) (suc k) le = never_past ts k (omega (arith, le))

    outside : (p : ℕ) → length catalog.universe.packages < p → is_among (packages catalog) p ≡ false
    outside p lt = false_from_ne_true (is_among (packages catalog) p) (λ i. let b = packages_bound p i in omega (arith, b.1, lt))

    within_or : (p : ℕ) → (p ≤ length catalog.universe.packages) ⊎ (length catalog.universe.packages < p)
    within_or p = elim (eqb_tells 0 (p - length catalog.universe.packages)) [ inl e ↦ let s = e.1 in inl (omega arith) | inr n ↦ let s = n.1 in inr (omega arith) ]

    pub part_is : (p : ℕ) → part_of turns p ≡ is_part catalog set p
    part_is p = elim (within_or p) [
      | inl le ↦ ap is_placed (are.each p le) ∙ (turn_cases (comes catalog set p) (goes catalog set p) (not_both p)).0
      | inr lt ↦
          ap is_placed (never_past turns p (omega (arith, are.size, lt)))
          ∙ sym (false_from_ne_true (is_part catalog set p) (λ h. elim (or_cases (comes catalog set p) (goes catalog set p) h) [
            | inl c ↦ false≢true (sym (outside p lt) ∙ comes_pack p c)
            | inr g ↦ false≢true (sym (outside p lt) ∙ goes_pack p g)
          ]))
    ]

    pub late_is : (p : ℕ) → late_of turns p ≡ goes catalog set p
    late_is p = elim (within_or p) [
      | inl le ↦ ap is_late (are.each p le) ∙ (turn_cases (comes catalog set p) (goes catalog set p) (not_both p)).1
      | inr lt ↦ ap is_late (never_past turns p (omega (arith, are.size, lt))) ∙ sym (false_from_ne_true (goes catalog set p) (λ g. false≢true (sym (outside p lt) ∙ goes_pack p g)))
    ]

    early_cases : (c g : Bool) → (c ≡ true → g ≡ false) → ((c || g) && not g) ≡ c
    early_cases true g h = ap not (h refl)
    early_cases false true h = refl
    early_cases false false h = refl

    pub early_is : (p : ℕ) → is_early_in turns p ≡ comes catalog set p
    early_is p =
        ap (λ b. b && not (late_of turns p)) (part_is p) ∙ ap (λ b. is_part catalog set p && not b) (late_is p)
        ∙ early_cases (comes catalog set p) (goes catalog set p) (not_both p)

  -- a requirement that is its own part
  module _ (id : ℕ) (alone : parts (dependency catalog id) ≡ dependency catalog id ∷ []) where
    abbrev d : Dep ℕ
    d = dependency catalog id

    pub brings_is : (a p : ℕ) → brings catalog set a p (dependency catalog id) ≡ (package_meets catalog (dependency catalog id) a && not (is_met_already catalog set p (dependency catalog id)))
    brings_is a p =
        ap (list_any (λ part. package_meets catalog part a && not (is_met_already catalog set p part))) alone
        ∙ or_false (package_meets catalog (dependency catalog id) a && not (is_met_already catalog set p (dependency catalog id)))

    pub serves_is : (a : ℕ) → serves catalog a (dependency catalog id) ≡ package_meets catalog (dependency catalog id) a
    serves_is a = ap (list_any (λ part. package_meets catalog part a)) alone ∙ or_false (package_meets catalog (dependency catalog id) a)

    abbrev providers : List ℕ
    providers = filter (package_meets catalog (dependency catalog id)) (members catalog)

    -- a provider that settles it, and being met already
    pub settled_is : (p : ℕ) → is_among (packages catalog) p ≡ true → list_any (settles catalog set p) providers ≡ is_met_already catalog set p (dependency catalog id)
    settled_is p is_package = same_truth (list_any (settles catalog set p) providers) (is_met_already catalog set p (dependency catalog id)) to from
      where
        kept_meets : Bool
        kept_meets = list_any (λ q. is_kept catalog set q && package_meets catalog (dependency catalog id) q) (packages catalog)

        to : list_any (settles catalog set p) (filter (package_meets catalog (dependency catalog id)) (members catalog)) ≡ true → is_met_already catalog set p (dependency catalog id) ≡ true
        to h =
            let r = any_gives (settles catalog set p) (filter (package_meets catalog (dependency catalog id)) (members catalog)) h in
            let q = r.0 in
            let m = in_filter (package_meets catalog (dependency catalog id)) (members catalog) r.0 r.1 in
            elim (or_cases (eqb r.0 p) (eqb r.0 0 || is_kept catalog set r.0) r.2) [
              | inl e ↦ or_left (package_meets catalog (dependency catalog id) p) _ (ap (package_meets catalog (dependency catalog id)) (sym (eqb-true r.0 p e)) ∙ m.1)
              | inr k ↦ or_right (package_meets catalog (dependency catalog id) p) _ (elim (or_cases (eqb r.0 0) (is_kept catalog set r.0) k) [
                | inl z ↦ or_left (package_meets catalog (dependency catalog id) 0) _ (ap (package_meets catalog (dependency catalog id)) (sym (eqb-true r.0 0 z)) ∙ m.1)
                | inr s ↦ or_right (package_meets catalog (dependency catalog id) 0) _
                    (any_from (λ q. is_kept catalog set q && package_meets catalog (dependency catalog id) q) (packages catalog) r.0 (installed_pack r.0 (and_parts (is_installed catalog r.0) (set r.0) s).0)
                    (and_from (is_kept catalog set r.0) (package_meets catalog (dependency catalog id) r.0) s m.1))
              ])
            ]

        from : is_met_already catalog set p (dependency catalog id) ≡ true → list_any (settles catalog set p) (filter (package_meets catalog (dependency catalog id)) (members catalog)) ≡ true
        from h =
            elim (or_cases (package_meets catalog (dependency catalog id) p) _ h) [
              | inl m ↦ any_from (settles catalog set p) providers p (filter_in (package_meets catalog (dependency catalog id)) (members catalog) p (in_members p is_package) m) (or_left (eqb p p) _ (eq-eqb p p refl))
              | inr k ↦ elim (or_cases (package_meets catalog (dependency catalog id) 0) _ k) [
                | inl z ↦ any_from (settles catalog set p) providers 0 (filter_in (package_meets catalog (dependency catalog id)) (members catalog) 0 (here 0 (packages catalog)) z) (or_right (eqb 0 p) _ refl)
                | inr s ↦
                    let r = any_gives (λ q. is_kept catalog set q && package_meets catalog (dependency catalog id) q) (packages catalog) s in
                    let both = and_parts (is_kept catalog set r.0) (package_meets catalog (dependency catalog id) r.0) r.2 in
                    any_from (settles catalog set p) providers r.0 (filter_in (package_meets catalog (dependency catalog id)) (members catalog) r.0 (in_members r.0 r.1) both.1)
                    (or_right (eqb r.0 p) _ (or_right (eqb r.0 0) (is_kept catalog set r.0) both.0))
              ]
            ]

-- the ids of a package are of its pool
pub name_below : (task : Task) (k : ℕ) (a : Package) → IsOver task.pool task.universe → slice_get task.universe.packages k ≡ Some a → a.name < length task.pool.names
name_below task k a over at =
    let fit : fits (length task.pool.names) (length task.pool.nodes) (length task.universe.repos) a ≡ true = all_at (fits (length task.pool.names) (length task.pool.nodes) (length task.universe.repos)) task.universe.packages k a over.packages at in
    ltb-true a.name (length task.pool.names) (and_parts (nat_lt a.name (length task.pool.names)) _ (and_parts (list_all (λ n. nat_lt n (length task.pool.names)) (names_of a)) _ fit).0).0
