-- The rules of packages say that nothing is broken.
use Rattle.std.proofs.Common.{◌≡◌, ℕ, Bool, true, false, not, ◌&&◌, ◌||◌, ◌⊎◌, List, ◌++◌, map, Option, Some, None, inl, inr, refl, sym, ap, ◌∙◌, arith}
use Rattle.std.specs.Prelude.{◌==◌, nat_lt}
use Rattle.std.proofs.lemmas.Bool.{and_from, cases_Bool, or_left, or_right}
use Rattle.std.proofs.lemmas.Bool.Decides.{nat_tests}
use Rattle.solv_list.proofs.Booleans.{first_of_both, second_of_both, false_of_not, and_swapped, true_is_not_false}
use Rattle.solv_list.proofs.Numbers.{equal_swapped}
use Rattle.solv_base.specs.Dependency.{package_wise}
use Rattle.solv_pool.specs.Prelude.{passes, Catalog, catalog_of, packages, members, package_at, dependency, capability_at, is_installed, same_name, marked, marks_of, HardRule, req, con, rich_con, obs, same, counted_requirements, conflict_rules, is_conflicting, counted_rich_conflicts, obsoletion_rules, is_obsoleted, is_later_namesake, rules_asked_by}
use Rattle.solv_pool.specs.Providing.{is_named, covers}
use Rattle.solv_pool.specs.Counting.{requirement_counts, rich_conflict_counts}
use Rattle.solv_pool.specs.Updates.{coexist}
use Rattle.solv_pool.specs.Inner.HardRules.{not_installable_rules, requirement_rules, package_wise_conflicts, conflicting, rich_conflict_rules, obsoleted, same_name_rules, later_namesakes}
use Rattle.solv_pool.specs.declared.packages.Package.{Package}
use Rattle.solv_pool.specs.declared.packages.Need.{Need}
use Rattle.solv_pool.specs.declared.job_marks.Marks.{Marks}
use Rattle.solv_pool.specs.declared.tasks.Task.{Task}
use Rattle.solv_pool.proofs.Members.{Has, has_front, has_back, has_flat, has_mapped, has_filtered, among_has}
use Rattle.solv_questions.proofs.Leading.{contains_has}
use Rattle.solv_answers.specs.Answers.{meets_hard_rules}
use Rattle.solv_laws.specs.Unbroken.{RequirementsHold, ConflictsAreKept, RichConflictsAreKept, ObsoletionsAreKept, NamesAreKept}
use Rattle.solv_laws.proofs.Packs.{package_there, some_passes, passing_there}
use Rattle.solv_laws.proofs.RulesMet.{asked_met}

-- the kinds of rules that a package asks for
module _ (catalog : Catalog) (marks : Marks) (p : ℕ) (a : Package) where
  abbrev to_requirements : List HardRule
  to_requirements = not_installable_rules catalog p ++ requirement_rules catalog marks p a

  abbrev to_conflicts : List HardRule
  to_conflicts = to_requirements ++ conflict_rules catalog marks p a

  abbrev to_rich_conflicts : List HardRule
  to_rich_conflicts = to_conflicts ++ rich_conflict_rules catalog marks p a

  abbrev to_obsoletions : List HardRule
  to_obsoletions = to_rich_conflicts ++ obsoletion_rules catalog marks p a

  asks_so_far : (r : HardRule) → Has to_rich_conflicts r → Has (rules_asked_by catalog marks p a) r
  asks_so_far r there = has_front to_obsoletions (same_name_rules catalog marks p) r (has_front to_rich_conflicts (obsoletion_rules catalog marks p a) r there)

  asks_conflict : (r : HardRule) → Has to_conflicts r → Has (rules_asked_by catalog marks p a) r
  asks_conflict r there = asks_so_far r (has_front to_conflicts (rich_conflict_rules catalog marks p a) r there)

  pub requirement_there : (need : Need) → Has a.requires_ need → requirement_counts catalog marks p need.dep ≡ true → Has (rules_asked_by catalog marks p a) (req p need.dep)
  requirement_there need at counts =
      asks_conflict (req p need.dep)
      (has_front to_requirements (conflict_rules catalog marks p a) (req p need.dep)
      (has_back (not_installable_rules catalog p) (requirement_rules catalog marks p a) (req p need.dep)
      (has_mapped (λ need. req p need.dep) (counted_requirements catalog marks p a) need (has_filtered (λ need. requirement_counts catalog marks p need.dep) a.requires_ need at counts))))

  pub conflict_there : (d q : ℕ) → Has a.conflicts d → package_wise (dependency catalog d) ≡ true → Has (members catalog) q → is_conflicting catalog marks p d q ≡ true → Has (rules_asked_by catalog marks p a) (con p d q)
  conflict_there d q at wise there counts =
      asks_conflict (con p d q)
      (has_back to_requirements (conflict_rules catalog marks p a) (con p d q)
      (has_flat (λ d. map (con p d) (conflicting catalog marks p d)) (package_wise_conflicts catalog a) d (con p d q)
      (has_filtered (λ d. package_wise (dependency catalog d)) a.conflicts d at wise)
      (has_mapped (con p d) (conflicting catalog marks p d) q (has_filtered (is_conflicting catalog marks p d) (members catalog) q there counts))))

  pub rich_conflict_there : (d : ℕ) → Has a.conflicts d → package_wise (dependency catalog d) ≡ false → rich_conflict_counts catalog marks p d ≡ true → Has (rules_asked_by catalog marks p a) (rich_con p d)
  rich_conflict_there d at rich counts =
      asks_so_far (rich_con p d)
      (has_back to_conflicts (rich_conflict_rules catalog marks p a) (rich_con p d)
      (has_mapped (rich_con p) (counted_rich_conflicts catalog marks p a) d
      (has_filtered (λ d. not (package_wise (dependency catalog d)) && rich_conflict_counts catalog marks p d) a.conflicts d at (rw (rich, counts)))))

  pub obsoletion_there : (d q : ℕ) → Has a.obsoletes d → Has (packages catalog) q → is_obsoleted catalog marks p d q ≡ true → Has (rules_asked_by catalog marks p a) (obs p d q)
  obsoletion_there d q at there counts =
      has_front to_obsoletions (same_name_rules catalog marks p) (obs p d q)
      (has_back to_rich_conflicts (obsoletion_rules catalog marks p a) (obs p d q)
      (has_flat (λ d. map (obs p d) (obsoleted catalog marks p d)) a.obsoletes d (obs p d q) at
      (has_mapped (obs p d) (obsoleted catalog marks p d) q (has_filtered (is_obsoleted catalog marks p d) (packages catalog) q there counts))))

  pub namesake_there : (q : ℕ) → Has (packages catalog) q → is_later_namesake catalog marks p q ≡ true → Has (rules_asked_by catalog marks p a) (same p q)
  namesake_there q there later =
      has_back to_obsoletions (same_name_rules catalog marks p) (same p q)
      (has_mapped (same p) (later_namesakes catalog marks p) q (has_filtered (is_later_namesake catalog marks p) (packages catalog) q there later))

-- where the first of two is true
other_side : (a b : Bool) → a ≡ true → (not a || b) ≡ true → b ≡ true
other_side true b h k = k
other_side false b h k = absurd (cc)

not_other : (a b : Bool) → a ≡ true → not (a && b) ≡ true → b ≡ false
not_other true b h k = false_of_not b k
not_other false b h k = absurd (cc)

neither_of : (a b : Bool) → (a || b) ≡ false → (not a && not b) ≡ true
neither_of true b h = absurd (cc)
neither_of false b h = ap not h

-- a number is another one, below it or above it
one_of_three : (p q : ℕ) → ((p == q) ≡ true) ⊎ ((nat_lt p q ≡ true) ⊎ (nat_lt q p ≡ true))
one_of_three p q = elim (cases_Bool (p == q)) [
  | inl one ↦ inl one
  | inr other ↦ elim (cases_Bool (nat_lt p q)) [ inl later ↦ inr (inl later) | inr above ↦ inr (inr (grind (arith, nat_tests, other, above))) ]
]

pub requirements_hold : RequirementsHold
requirements_hold task set p a need good at counts =
    other_side (set p) _ good.inside
    (asked_met task set good.meets p a good.is (req p need.dep) (requirement_there (catalog_of task) (marks_of task) p a need (contains_has a.requires_ need at) counts))

pub conflicts_kept : ConflictsAreKept
conflicts_kept task set p q d a good at wise there counts =
    not_other (set p) (set q) good.inside
    (asked_met task set good.meets p a good.is (con p d q) (conflict_there (catalog_of task) (marks_of task) p a d q (contains_has a.conflicts d at) wise (among_has (members (catalog_of task)) q there) counts))

pub rich_conflicts_kept : RichConflictsAreKept
rich_conflicts_kept task set p d a good at rich counts =
    false_of_not _
    (other_side (set p) _ good.inside
    (asked_met task set good.meets p a good.is (rich_con p d) (rich_conflict_there (catalog_of task) (marks_of task) p a d (contains_has a.conflicts d at) rich counts)))

pub obsoletions_kept : ObsoletionsAreKept
obsoletions_kept task set p q d a good at counts =
    let covered : covers (catalog_of task) d q ≡ true = first_of_both (covers (catalog_of task) d q) _ (second_of_both (not (q == p)) _ counts) in
    let named = some_passes (capability_at (catalog_of task) d) (λ c. is_named (catalog_of task) c q) covered in
    not_other (set p) (set q) good.inside
    (asked_met task set good.meets p a good.is (obs p d q) (obsoletion_there (catalog_of task) (marks_of task) p a d q (contains_has a.obsoletes d at) (passing_there (catalog_of task) q _ named.1.1) counts))

-- of one name is said both ways
name_both_ways : (o u : Option Package) → passes o (λ a. passes u (λ b. a.name == b.name)) ≡ passes u (λ b. passes o (λ a. b.name == a.name))
name_both_ways None None = refl
name_both_ways None (Some b) = refl
name_both_ways (Some a) None = refl
name_both_ways (Some a) (Some b) = equal_swapped a.name b.name

module _ (task : Task) (set : ℕ → Bool) (meets : meets_hard_rules task set ≡ true) where
  abbrev catalog : Catalog
  catalog = catalog_of task

  abbrev marks : Marks
  marks = marks_of task

  -- both may be there
  abbrev may_be_beside : ℕ → ℕ → Bool
  may_be_beside p q = coexist catalog marks p q || (is_installed catalog p && is_installed catalog q)

  later_kept : (p q : ℕ) → nat_lt p q ≡ true → same_name catalog p q ≡ true → set p ≡ true → set q ≡ true → may_be_beside p q ≡ true
  later_kept p q later named here there = elim (cases_Bool (may_be_beside p q)) [
    | inl y ↦ y
    | inr n ↦ absurd (true_is_not_false (set q) there (apart n))
  ]
    where
      apart : may_be_beside p q ≡ false → set q ≡ false
      apart n =
          let a = some_passes (package_at catalog p) (λ a. passes (package_at catalog q) (λ b. a.name == b.name)) named in
          let b = some_passes (package_at catalog q) (λ b. (a.0).name == b.name) a.1.1 in
          let own : is_later_namesake catalog marks p q ≡ true = and_from (nat_lt p q) _ later (and_from (same_name catalog p q) _ named (neither_of (coexist catalog marks p q) (is_installed catalog p && is_installed catalog q) n)) in
          not_other (set p) (set q) here (asked_met task set meets p a.0 a.1.0 (same p q) (namesake_there catalog marks p a.0 q (package_there catalog q b.0 b.1.0) own))

  beside_both_ways : (p q : ℕ) → may_be_beside p q ≡ may_be_beside q p
  beside_both_ways p q =
      rw (name_both_ways (package_at catalog p) (package_at catalog q), and_swapped (marked marks.multiversion p) (marked marks.multiversion q), and_swapped (is_installed catalog p) (is_installed catalog q)) refl

pub names_kept : NamesAreKept
names_kept task set p q meets named here there = elim (one_of_three p q) [
  | inl one ↦ or_left (p == q) _ one
  | inr (inl later) ↦ or_right (p == q) _ (later_kept task set meets p q later named here there)
  | inr (inr before) ↦ or_right (p == q) _ (beside_both_ways task set meets p q ∙ later_kept task set meets q p before (sym (name_both_ways (package_at (catalog_of task) p) (package_at (catalog_of task) q)) ∙ named) there here)
]
