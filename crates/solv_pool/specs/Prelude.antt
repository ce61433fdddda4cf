-- The names that most crates above cite, of this crate and of what a pool holds, passed on from one place. Declares nothing.
pub use Rattle.solv_base.specs.Pool.{Held, most, text_at, text_tree, is_name, name_id, with_name, HasOneId, IsPool, Grows}
pub use Rattle.solv_base.specs.Dependency.{with, or, and, Capability, plain, versioned, joined, Connective, without, Condition, if_holds, unless_holds, one, Dep, namespace, under, under_else, missing, operands, tree_of_node, tree, tree_within, capability_of_node, capability, package_wise, is_whole, map_dep, names_in, IsWellFounded, operators}
pub use Rattle.solv_base.specs.Places.{unconditional, may_stand, fits_place}
pub use Rattle.solv_base.specs.Evr.{is_dash, evr_cmp}
pub use Rattle.solv_base.specs.Matching.{meets}
pub use Rattle.solv_base.specs.Inner.Pool.{uses_below}
pub use Rattle.solv_base.specs.declared.comparison.Cmp.{Cmp}
pub use Rattle.solv_base.specs.declared.relation.DepNode.{DepNode}
pub use Rattle.solv_base.specs.declared.relation.DepId.{DepId}
pub use Rattle.solv_base.specs.declared.relation.DepNode.TheVariants.{Simple, Versioned, Namespace, And, Or, With, Without, If, IfElse, Unless, UnlessElse}
pub use Rattle.solv_pool.specs.Catalog.{packages, dependency, Catalog, catalog_of, members, package_at, text, capability_at, same_name, is_installed, installed_set}
pub use Rattle.solv_pool.specs.Words.{passes, is_among, when}
pub use Rattle.solv_pool.specs.Written.{WrittenRepo, name, WrittenNeed, WrittenPackage, provides, WrittenChoice, pkg, one_of, all, nothing, WrittenJob, WrittenTask, written_repo, written_package, written_choice, written_job, written_task}
pub use Rattle.solv_pool.specs.Belonging.{names_of, relations_of, fits, IsOver}
pub use Rattle.solv_pool.specs.TaskBelonging.{is_pack, choice_fits, line_fits, IsClosed}
pub use Rattle.solv_pool.specs.Holding.{holds, leaving_out, package_meets, member_meets}
pub use Rattle.solv_pool.specs.JobMarks.{favour_after, marked, is_to_move, favour_of, mark_each, marks_with_cleaned, marks_of}
pub use Rattle.solv_pool.specs.RuleMeaning.{HardRule, not_installable, req, con, rich_con, obs, same, infarch, update, dup, feature, install, erase, lock, best_job, best_update, set_at, read_rule, rule_with, is_fixed, Shape, out, requirement, conflict, not_both, some_of, none_of, as_installed, shape_of, meets_rule}
pub use Rattle.solv_pool.specs.HardRules.{counted_requirements, is_conflicting, conflict_rules, counted_rich_conflicts, is_obsoleted, obsoletion_rules, is_later_namesake, rules_asked_by, package_rules, has_own_arch, is_inferior, infarch_rules, is_versioned, is_exact, is_asked_exactly, update_candidates, feature_candidates, successors, successor_rule, is_kept, kept_packages, update_rules, feature_rules, best_update_rules, rule_of_job, best_job_rule, job_rules, best_job_rules, hard_rules_by, hard_rules}
pub use Rattle.solv_pool.specs.Clauses.{Literal, is_in, is_out, Clause, times, with_package, all_meeting, clauses_package_wise, clauses_of, clause_count, shape_clauses, raw_clauses, same_literal, negation, contains_literal, is_always_true, firsts, shortened, kept, number_of, in_numbers, dependency_clauses, rule_clauses, guarded, words, words_of_all, literal_true, clause_true, all_true}
pub use Rattle.solv_pool.specs.Propagation.{is_fact, is_refuted, is_open, only, facts_after, rounds, unit, clashes}
pub use Rattle.solv_pool.specs.Range.{names_package, is_over, are_over}
