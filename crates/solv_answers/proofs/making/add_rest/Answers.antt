use Rattle.std.proofs.Common.{◌≡◌, true, List, ◌++◌, sym, subst}
use Rattle.std.specs.List.{list_all}
use Rattle.solv_pool.specs.Prelude.{Catalog, catalog_of, HardRule, package_rules, infarch_rules, update_rules, feature_rules, job_rules, best_job_rules, best_update_rules, hard_rules_by}
use Rattle.solv_rules.specs.Books.{read_rules, is_bookable}
use Rattle.solv_rules.specs.Inner.Making.{IsReady}
use Rattle.solv_answers.proofs.Reading.{all_read, stays_first}
use Rattle.solv_answers.proofs.making.add_rest.Goals as goal
use Rattle.solv_answers.proofs.making.add_rest.Goals.{In-Ok-best_rules}

module _ (c : In-Ok-best_rules) where
  catalog : Catalog
  catalog = catalog_of c.args.task.now

  moves : List HardRule
  moves = update_rules catalog c.args.task.now.flags c.args.marks.now c.args.task.now.jobs ++ feature_rules catalog c.args.task.now.flags c.args.marks.now

  bests : List HardRule
  bests = best_job_rules catalog c.args.task.now.jobs ++ best_update_rules catalog c.args.task.now.flags c.args.marks.now c.args.task.now.jobs

  is_made : read_rules c.best_rules.new.rules ≡ hard_rules_by (catalog_of c.args.task.now) c.args.task.now.flags c.args.task.now.jobs c.args.marks.now
  unfolding catalog moves bests
  is_made =
      all_read (package_rules catalog c.args.marks.now) (infarch_rules catalog c.args.task.now.flags)
      (update_rules catalog c.args.task.now.flags c.args.marks.now c.args.task.now.jobs) (feature_rules catalog c.args.task.now.flags c.args.marks.now)
      (job_rules catalog c.args.task.now.jobs) (best_job_rules catalog c.args.task.now.jobs) (best_update_rules catalog c.args.task.now.flags c.args.marks.now c.args.task.now.jobs)
      c.args.rules c.update_rules.new.rules c.job_rules.new.rules c.best_rules.new.rules
      c.requires.front c.in-Ok.ensures c.in-Ok-job_rules.ensures c.in-Ok-best_rules.ensures

pub returns-clause-made : goal.returns-clause-made
returns-clause-made c = is_made c

pub returns-clause-bookable : goal.returns-clause-bookable
returns-clause-bookable c =
    let catalog : Catalog = catalog_of c.args.task.now in
    let ready : IsReady c.args.task.now c.args.prov.now c.args.marks.now = record {
      over = c.requires.closed.universe;
      of_task = c.requires.index;
      marks_each = record { verify = c.requires.marks.verify; multiversion = c.requires.marks.multiversion };
      formed = c.requires.formed;
    } in
    let B : List HardRule → Type 0 = λ l. list_all (is_bookable catalog) l ≡ true in
    record {
      of_task = c.requires.index;
      each = subst B (sym (is_made c)) (c.hard_rules_are_bookable.ensures c.args.task.now c.args.prov.now c.args.marks.now ready);
    }

pub returns-clause-list : goal.returns-clause-list
returns-clause-list c =
    (stays_first _ _ _ c.args.rules c.update_rules.new.rules c.job_rules.new.rules c.best_rules.new.rules c.in-Ok.ensures c.in-Ok-job_rules.ensures c.in-Ok-best_rules.ensures).0

pub returns-clause-sets : goal.returns-clause-sets
returns-clause-sets c =
    (stays_first _ _ _ c.args.rules c.update_rules.new.rules c.job_rules.new.rules c.best_rules.new.rules c.in-Ok.ensures c.in-Ok-job_rules.ensures c.in-Ok-best_rules.ensures).1
