use Rattle.std.proofs.Common.{Bool, List, ap, subst, sym}
use Rattle.solv_pool.specs.Prelude.{catalog_of, marks_of}
use Rattle.solv_pool.specs.declared.job_marks.Marks.{Marks}
use Rattle.solv_leaving.specs.Inner.Leaving.{LeavesOut, leaving}
use Rattle.solv_answers.proofs.lean.lean_marks.Goals as goal

pub returns-clause-left : goal.returns-clause-left
returns-clause-left c =
    let task = c.args.task.now in
    let L : Marks → Type 0 = λ m. LeavesOut (catalog_of task) task.flags task.jobs m c.in_ok-left.left.items in
    let O : List Bool → Type 0 = λ l. LeavesOut (catalog_of task) task.flags task.jobs (marks_of task) l in
    record {
      marks_are = ap (λ m. leaving m c.wrap.result) c.in_ok-lean.ensures.exact;
      out = subst O (sym c.wrap.ensures) (subst L c.in_ok-lean.ensures.exact c.in_ok-left.ensures);
    }
