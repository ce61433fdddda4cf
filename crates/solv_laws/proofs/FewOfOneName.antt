-- A task whose packages ask by name, with few of one name: few packages meet what is asked for, and few take the place of one.
use Rattle.std.proofs.Common.{◌≡◌, ◌≤◌, ◌+◌, ℕ, zero, suc, Bool, true, false, not, cond, ◌||◌, List, [], ◌∷◌, map, length, Option, Some, inl, inr, refl, sym, ap, ◌∙◌, arith, eq-eqb}
use Rattle.std.specs.Prelude.{filter, slice_get, unwrap_or, ◌==◌}
use Rattle.std.specs.List.{list_any, list_all, range_with_len}
use Rattle.std.proofs.lemmas.Bool.{eqb-true, false≢true}
use Rattle.std.proofs.lemmas.List.{length-map}
use Rattle.std.proofs.lemmas.List.Folds.{list_all-map}
use Rattle.solv_list.proofs.Booleans.{first_of_both, second_of_both, or_cases}
use Rattle.solv_list.proofs.Lists.{all_at, empty_list}
use Rattle.solv_list.proofs.Numbers.{equal_swapped}
use Rattle.solv_base.specs.Dependency.{Dep, Capability, one, plain, versioned, map_dep, tree}
use Rattle.solv_base.specs.Pool.{Held, text_at, text_tree}
use Rattle.solv_base.specs.declared.comparison.Cmp.{Cmp}
use Rattle.solv_pool.specs.Prelude.{passes, Catalog, catalog_of, packages, members, package_at, is_installed, same_name, written_package}
use Rattle.solv_pool.specs.Providing.{provide_meets, provides, has, covers, obsoletes}
use Rattle.solv_pool.specs.Installable.{is_installable}
use Rattle.solv_pool.specs.Updates.{coexist, is_feature}
use Rattle.solv_pool.specs.declared.job_marks.Marks.{Marks}
use Rattle.solv_pool.specs.declared.packages.Package.{Package}
use Rattle.solv_pool.specs.declared.tasks.Task.{Task}
use Rattle.solv_script.specs.GrownTasks.{is_compared, asks_by_name}
use Rattle.solv_leaving.proofs.Totals.{total}

-- how much a package asks for
abbrev pub asked : Package → ℕ
asked a = length a.requires_ + length a.conflicts

-- packages and jobs as the large script has them: they ask by name and for little, and at most three are of one name
pub record IsModest (task : Task) : Type 0 where
  pub count : length task.universe.packages ≡ 6300
  pub jobs : length task.jobs ≡ 41
  pub by_name : list_all (λ a. asks_by_name (written_package task.pool a)) task.universe.packages ≡ true
  pub few : total asked task.universe.packages ≤ 40000
  pub of_name : (n : ℕ) → length (filter (λ a. a.name == n) task.universe.packages) ≤ 3

-- the numbers that pass a test are at most as many as the records that pass another
fewer_numbers : (f : ℕ → Bool) (g : Package → Bool) (ps : List Package) (a : ℕ) → ((k : ℕ) (b : Package) → slice_get ps k ≡ Some b → f (a + k) ≡ true → g b ≡ true) → length (filter f (range_with_len a (length ps))) ≤ length (filter g ps)
fewer_numbers f g [] a h = omega arith
fewer_numbers f g (b ∷ ps) a h =
    let same : a + 0 ≡ a = omega arith in
    step (f a) (g b) (λ t. h 0 b refl (ap f same ∙ t))
    (fewer_numbers f g ps (a + 1) (λ k c is t. let next : a + suc k ≡ a + 1 + k = omega arith in h (suc k) c is (ap f next ∙ t)))
  where
    step : (s t : Bool) → (s ≡ true → t ≡ true) → length (filter f (range_with_len (a + 1) (length ps))) ≤ length (filter g ps)
        → length (cond s (a ∷ filter f (range_with_len (a + 1) (length ps))) (filter f (range_with_len (a + 1) (length ps)))) ≤ length (cond t (b ∷ filter g ps) (filter g ps))
    step true true k fewer = omega (arith, fewer)
    step true false k fewer = absurd (false≢true (k refl))
    step false true k fewer = omega (arith, fewer)
    step false false k fewer = fewer

-- a relation of a name with a version
compared_tree : (f : ℕ → List ℕ) (t : Dep ℕ) → is_compared (map_dep f t) ≡ true → (n : ℕ) × (k : Cmp) × (e : ℕ) × (t ≡ one (versioned n k e))
compared_tree f (one (versioned n k e)) h = (n, k, e, refl)
compared_tree f (one (plain n)) h = absurd (cc)
compared_tree f _ h = absurd (cc)

pub compared : (pool : Held) (d : ℕ) → is_compared (text_tree pool d) ≡ true → (n : ℕ) × (k : Cmp) × (e : ℕ) × (tree pool.nodes d ≡ one (versioned n k e))
unfolding text_tree
compared pool d h = compared_tree (text_at pool) (tree pool.nodes d) h

-- what asks by name has nothing but its name, and its requirements and conflicts are compared
pub record IsPlain (pool : Held) (a : Package) : Type 0 where
  pub provides_ : a.provides ≡ []
  pub obsoletes_ : a.obsoletes ≡ []
  pub files_ : a.files ≡ []
  pub requires_ : list_all (λ need. is_compared (text_tree pool need.dep)) a.requires_ ≡ true
  pub conflicts_ : list_all (λ d. is_compared (text_tree pool d)) a.conflicts ≡ true

none_made : {X Y : Type 0} (make : X → Y) (xs : List X) → (length (map make xs) == 0) ≡ true → xs ≡ []
none_made make xs h = empty_list xs (sym (length-map xs make) ∙ eqb-true (length (map make xs)) 0 h)

plain_is : (pool : Held) (a : Package) → asks_by_name (written_package pool a) ≡ true → IsPlain pool a
plain_is pool a h =
    let w = written_package pool a in
    let two = second_of_both (length w.provides == 0) _ h in
    let three = second_of_both (length w.obsoletes == 0) _ two in
    let four = second_of_both (length w.files == 0) _ three in
    record {
      provides_ = none_made (text_tree pool) a.provides (first_of_both (length w.provides == 0) _ h);
      obsoletes_ = none_made (text_tree pool) a.obsoletes (first_of_both (length w.obsoletes == 0) _ two);
      files_ = none_made (text_at pool) a.files (first_of_both (length w.files == 0) _ three);
      requires_ = sym (list_all-map (λ need. is_compared need.dep) (λ need. record { dep = text_tree pool need.dep; pre = need.pre }) a.requires_) ∙ first_of_both (list_all (λ need. is_compared need.dep) w.requires_) _ four;
      conflicts_ = sym (list_all-map is_compared (text_tree pool) a.conflicts) ∙ second_of_both (list_all (λ need. is_compared need.dep) w.requires_) _ four;
    }

module _ (task : Task) (modest : IsModest task) where
  abbrev catalog : Catalog
  catalog = catalog_of task

  pub plain_at : (q : ℕ) (b : Package) → package_at catalog q ≡ Some b → IsPlain task.pool b
  plain_at zero b is = absurd (cc)
  plain_at (suc k) b is = plain_is task.pool b (all_at (λ a. asks_by_name (written_package task.pool a)) task.universe.packages k b modest.by_name is)

  -- packages of one name are few, also beside the system
  pub few_named : (n : ℕ) (f : ℕ → Bool) → ((q : ℕ) (b : Package) → package_at catalog q ≡ Some b → f q ≡ true → (b.name == n) ≡ true) → length (filter f (packages catalog)) ≤ 3
  few_named n f h =
      let numbers = fewer_numbers f (λ a. a.name == n) task.universe.packages 1 (λ k b is t. let next : 1 + k ≡ suc k = omega arith in h (suc k) b is (ap f (sym next) ∙ t)) in
      let names = modest.of_name n in
      omega (arith, numbers, names)

  pub few_members : (n : ℕ) (f : ℕ → Bool) → ((q : ℕ) (b : Package) → package_at catalog q ≡ Some b → f q ≡ true → (b.name == n) ≡ true) → length (filter f (members catalog)) ≤ 4
  few_members n f h = step (f 0) (few_named n f h)
    where
      step : (b : Bool) → length (filter f (packages catalog)) ≤ 3 → length (cond b (0 ∷ filter f (packages catalog)) (filter f (packages catalog))) ≤ 4
      step true k = omega (arith, k)
      step false k = omega (arith, k)

  -- what meets a compared name has it
  pub meeting_named : (n : ℕ) (k : Cmp) (e q : ℕ) (b : Package) → package_at catalog q ≡ Some b → has catalog (versioned n k e) q ≡ true → (b.name == n) ≡ true
  meeting_named n k e zero b is h = absurd (cc)
  meeting_named n k e (suc j) b is h =
      let plain_b = plain_at (suc j) b is in
      let tests : List (Capability ℕ) → Bool = list_any (λ provide. provide_meets catalog provide (versioned n k e)) in
      let of_b : tests (provides catalog b) ≡ true = ap (λ o. passes o (λ (x : Package). tests (provides catalog x))) (sym is) ∙ h in
      let own : (tests (versioned b.name (record { less = false; equal = true; greater = false }) b.evr ∷ [])) ≡ true = own_alone b plain_b.provides_ plain_b.files_ of_b in
      elim (or_cases _ false own) [ inl y ↦ first_of_both (b.name == n) _ y | inr no_more ↦ absurd (false≢true no_more) ]
    where
      own_alone : (b : Package) → b.provides ≡ [] → b.files ≡ [] → list_any (λ provide. provide_meets catalog provide (versioned n k e)) (provides catalog b) ≡ true
          → list_any (λ provide. provide_meets catalog provide (versioned n k e)) (versioned b.name (record { less = false; equal = true; greater = false }) b.evr ∷ []) ≡ true
      own_alone b none files h = rw (none, files) at h

  -- what is of p's name
  pub namesake_named : (p : ℕ) (a : Package) → package_at catalog p ≡ Some a → (q : ℕ) (b : Package) → package_at catalog q ≡ Some b → same_name catalog p q ≡ true → (b.name == a.name) ≡ true
  namesake_named p a is q b at h =
      equal_swapped b.name a.name
      ∙ ap (λ o. passes o (λ (y : Package). a.name == y.name)) (sym at)
      ∙ ap (λ o. passes o (λ (x : Package). passes (package_at catalog q) (λ (y : Package). x.name == y.name))) (sym is) ∙ h

  -- p, and what may take its place, are of its name
  pub near_named : (marks : Marks) (p : ℕ) (a : Package) → package_at catalog p ≡ Some a → (q : ℕ) (b : Package) → package_at catalog q ≡ Some b → ((q == p) || is_feature catalog marks p q) ≡ true → (b.name == a.name) ≡ true
  near_named marks p a is q b at h = elim (or_cases (q == p) (is_feature catalog marks p q) h) [
    | inl one_ ↦ itself (sym at ∙ ap (package_at catalog) (eqb-true q p one_) ∙ is)
    | inr may ↦ elim (or_cases (same_name catalog p q) (obsoletes catalog q p) (first_of_both (same_name catalog p q || obsoletes catalog q p) (not (coexist catalog marks p q)) (second_of_both (not (is_installed catalog q)) _ (second_of_both (is_installable catalog q) _ may)))) [
      | inl named ↦ namesake_named p a is q b at named
      | inr covered ↦ absurd (false≢true (sym (none_covered (plain_at q b at).obsoletes_) ∙ ap (λ o. passes o (λ (x : Package). list_any (λ id. covers catalog id p) x.obsoletes)) (sym at) ∙ second_of_both (not (q == p)) _ covered))
    ]
  ]
    where
      itself : Some b ≡ Some a → (b.name == a.name) ≡ true
      itself e = eq-eqb b.name a.name (ap (λ (o : Option Package). (unwrap_or o b).name) e)

      none_covered : b.obsoletes ≡ [] → list_any (λ id. covers catalog id p) b.obsoletes ≡ false
      none_covered none = rw none refl
