-- The hard rules of a task whose dependencies have forms for their places are well placed.
use Rattle.std.proofs.Common.{◌≡◌, ℕ, zero, suc, Bool, true, false, not, ◌&&◌, List, Some, refl, subst}
use Rattle.std.specs.Prelude.{Contains}
use Rattle.std.specs.List.{list_all}
use Rattle.solv_base.specs.Dependency.{package_wise}
use Rattle.solv_base.specs.Places.{fits_place}
use Rattle.solv_pool.specs.declared.packages.Package.{Package}
use Rattle.solv_pool.specs.declared.jobs.Job.{Job}
use Rattle.solv_pool.specs.declared.job_marks.Marks.{Marks}
use Rattle.solv_pool.specs.declared.tasks.Flags.{Flags}
use Rattle.solv_pool.specs.declared.tasks.Task.{Task}
use Rattle.solv_pool.specs.Catalog.{Catalog, catalog_of, package_at, dependency}
use Rattle.solv_pool.specs.JobMarks.{marks_of}
use Rattle.solv_pool.specs.Counting.{requirement_counts, rich_conflict_counts}
use Rattle.solv_pool.specs.RuleMeaning.{HardRule, req, rich_con, shape_of, meets_rule}
use Rattle.solv_pool.specs.Clauses.{rule_clauses, all_true}
use Rattle.solv_pool.specs.HardRules.{hard_rules}
use Rattle.solv_pool.specs.Laws.{shape_fits, IsWellPlaced}
use Rattle.solv_pool.specs.TaskForms.{HasForms, has_form, is_formed}
use Rattle.solv_pool.proofs.Lists.{passes_in}
use Rattle.solv_pool.proofs.Members.{of_filtered, all_at as each_at}
use Rattle.solv_pool.proofs.Origins.{IsFrom, all_from}
use Rattle.solv_pool.proofs.RuleClauses.{rule_clauses-true}
use Rattle.solv_list.proofs.Booleans.{first_of_both, second_of_both}
use Rattle.solv_list.proofs.Lists.{all_at}

module _ (catalog : Catalog) where
  abbrev placed : HardRule → Bool
  placed r = shape_fits catalog (shape_of r)

  module _ (flags : Flags) (marks : Marks) (jobs : List Job) (formed : list_all (is_formed catalog) catalog.universe.packages ≡ true) where
    at_place : (p : ℕ) (a : Package) → package_at catalog p ≡ Some a → is_formed catalog a ≡ true
    at_place zero a e = cc
    at_place (suc k) a e = all_at (is_formed catalog) catalog.universe.packages k a formed e

    rule_placed : (x : HardRule) → IsFrom catalog flags marks jobs x → placed x ≡ true
    rule_placed (req p d) own =
        let all : list_all (λ need. has_form catalog true need.dep) own.package_.requires_ ≡ true = first_of_both _ _ (at_place p own.package_ own.at) in
        let there = (of_filtered (λ need. requirement_counts catalog marks p need.dep) own.package_.requires_ own.need own.counts).0 in
        subst (λ e. fits_place true (dependency catalog e) ≡ true) own.is (first_of_both _ _ (each_at (λ need. has_form catalog true need.dep) own.package_.requires_ own.need all there))
    rule_placed (rich_con p d) own =
        let all : list_all (has_form catalog false) own.package_.conflicts ≡ true
        = first_of_both _ _ (second_of_both (list_all (λ need. has_form catalog true need.dep) own.package_.requires_) _ (at_place p own.package_ own.at)) in
        let there = (of_filtered (λ e. not (package_wise (dependency catalog e)) && rich_conflict_counts catalog marks p e) own.package_.conflicts d own.counts).0 in
        first_of_both _ _ (each_at (has_form catalog false) own.package_.conflicts d all there)
    rule_placed _ own = refl

-- each hard rule of a task with such forms is well placed
pub hard_rule-placed : (task : Task) (r : HardRule) → HasForms task → Contains (hard_rules task) r → IsWellPlaced (catalog_of task) r
hard_rule-placed task r forms at =
    passes_in (placed (catalog_of task)) (hard_rules task) r (all_from (catalog_of task) task.flags (marks_of task) task.jobs (placed (catalog_of task)) (rule_placed (catalog_of task) task.flags (marks_of task) task.jobs forms.packages)) at

-- so its clauses say what it says
pub hard_rule-clauses : (task : Task) (set : ℕ → Bool) (r : HardRule) → HasForms task → set 0 ≡ true → Contains (hard_rules task) r
    → all_true set (rule_clauses (catalog_of task) r) ≡ meets_rule (catalog_of task) r set
hard_rule-clauses task set r forms system at = rule_clauses-true (catalog_of task) set r system (hard_rule-placed task r forms at)
