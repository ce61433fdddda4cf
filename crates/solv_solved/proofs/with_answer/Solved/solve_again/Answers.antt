use Rattle.std.proofs.Common.{◌≡◌, length, true, false, Some, rules}
use Rattle.solv_pool.specs.Prelude.{catalog_of, hard_rules}
use Rattle.solv_pool.specs.declared.tasks.Task.{Task}
use Rattle.solv_rules.specs.Books.{first_fault}
use Rattle.solv_solved.specs.Anew.{again_answered, again_misused, again_passes}
use Rattle.solv_draft.specs.JobRows.{are_rows, with_rows}
use Rattle.solv_solved.proofs.JobsAnew.{same_self}
use Rattle.solv_solved.proofs.with_answer.Solved.solve_again.Goals as goal

pub returns-then-not-are_rows-clause-ended : goal.returns-then-not-are_rows-clause-ended
returns-then-not-are_rows-clause-ended c =
    let bad : are_rows (length c.args.self.now.script.task.universe.packages) c.args.rows.now ≡ false = search rules in
    again_misused bad (same_self c.args.self.now)

pub returns-in-Ok-clause-ended : goal.returns-in-Ok-clause-ended
returns-in-Ok-clause-ended c =
    let good : are_rows (length c.args.self.now.script.task.universe.packages) c.args.rows.now ≡ true = search rules in
    again_answered good c.in-Ok.ensures.solved

pub returns-in-Err : goal.returns-in-Err
returns-in-Err c =
    let good : are_rows (length c.args.self.now.script.task.universe.packages) c.args.rows.now ≡ true = search rules in
    let anew : Task = (with_rows c.args.self.now.script c.args.flags.now c.args.rows.now).task in
    let passed : first_fault (catalog_of anew) 0 (hard_rules anew) ≡ Some c.in-Err.field-0 = search rules in
    record { ended = again_passes c.in-Err.field-0 good passed c.in-Err.ensures.same; same = tt }
