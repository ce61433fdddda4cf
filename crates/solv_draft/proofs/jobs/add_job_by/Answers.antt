use Rattle.std.proofs.Common.{◌≡◌, true, rules, arith}
use Rattle.std.specs.Prelude.{nat_lt}
use Rattle.solv_draft.proofs.Drawing.{job_by_drawn, job_by_refused, kept_grown}
use Rattle.solv_draft.proofs.jobs.add_job_by.Goals as goal

pub returns-in-Err-clause-refused : goal.returns-in-Err-clause-refused
returns-in-Err-clause-refused c =
    let there : nat_lt c.args.row.now.action 12 ≡ true = search (rules, arith) in
    rw c.fault_of_text.ensures (job_by_refused c.args.task.now c.requires c.args.provides c.args.dep.now c.args.row.now c.in-Err.fault there c.in-Err.ensures.refused)

pub returns-in-Err-clause-kept : goal.returns-in-Err-clause-kept
returns-in-Err-clause-kept c = kept_grown c.args.task.now c.requires c.read_dep.new.pool c.read_dep.ensures.grows

pub returns-in_default-clause-kept : goal.returns-in_default-clause-kept
returns-in_default-clause-kept c = kept_grown c.args.task.now c.requires c.read_dep.new.pool c.read_dep.ensures.grows

pub returns-in-Ok-push-clause-done : goal.returns-in-Ok-push-clause-done
returns-in-Ok-push-clause-done c =
    let there : nat_lt c.args.row.now.action 12 ≡ true = search (rules, arith) in
    rw (c.in-Ok-push.ensures.ok, c.in-Ok-job_with.ensures, c.choice_by.ensures)
    (job_by_drawn c.args.task.now c.requires c.args.provides c.args.dep.now c.args.row.now c.in-Ok.id c.read_dep.new.pool there c.read_dep.ensures.grows c.in-Ok.ensures.read c.in-Ok.ensures.entered c.in-Ok.ensures.within)

pub returns-in-Err-push-clause-kept : goal.returns-in-Err-push-clause-kept
returns-in-Err-push-clause-kept c = rw c.in-Err-push.ensures.err (kept_grown c.args.task.now c.requires c.read_dep.new.pool c.read_dep.ensures.grows)
