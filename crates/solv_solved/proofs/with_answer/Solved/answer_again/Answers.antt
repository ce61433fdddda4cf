use Rattle.std.proofs.Common.{◌≡◌, ◌∙◌, true, None, map, refl}
use Rattle.solv_pool.specs.Prelude.{catalog_of, hard_rules, IsClosed}
use Rattle.solv_pool.specs.TaskForms.{HasForms}
use Rattle.solv_rules.specs.Books.{first_fault, read_rules}
use Rattle.solv_draft.specs.JobRows.{flags_of, job_of}
use Rattle.solv_solved.specs.Inner.Proving.{are_proved}
use Rattle.solv_solved.specs.Proofs.{problems_in}
use Rattle.solv_solved.proofs.JobsAnew.{closed_anew, due_anew, forms_anew, put_back, solved_anew}
use Rattle.solv_solved.proofs.with_answer.Solved.answer_again.Goals as goal

pub answer_of-requires-clause-closed : goal.answer_of-requires-clause-closed
answer_of-requires-clause-closed c =
    let old = c.args.self.now in closed_anew old.script.task c.replace-flags_before.new.dest c.args.rows.now c.replace-before.new.dest (c.replace-before.ensures.after ∙ c.requires.jobs) old.closed c.requires.rows

pub answer_of-requires-clause-forms : goal.answer_of-requires-clause-forms
answer_of-requires-clause-forms c =
    let old = c.args.self.now in forms_anew old.script.task c.replace-flags_before.new.dest c.args.rows.now c.replace-before.new.dest (c.replace-before.ensures.after ∙ c.requires.jobs) old.forms

pub invariant_of-self : goal.invariant_of-self
invariant_of-self c =
    let old = c.args.self.now in
    let is : c.replace-before.new.dest ≡ map job_of c.args.rows.now = c.replace-before.ensures.after ∙ c.requires.jobs in
    let flags = c.replace-flags_before.new.dest in
    record {
      closed = closed_anew old.script.task flags c.args.rows.now c.replace-before.new.dest is old.closed c.requires.rows;
      forms = forms_anew old.script.task flags c.args.rows.now c.replace-before.new.dest is old.forms;
      hard = c.in-Ok.ensures.rules;
      fits = c.in-Ok.ensures.fits;
      index = old.index;
      proved = c.in-Ok.ensures.proved;
    }

pub invariant_of-self-in-Err : goal.invariant_of-self-in-Err
invariant_of-self-in-Err c =
    let old = c.args.self.now in
    let flags : c.replace-flags_before.result ≡ old.script.task.flags = c.replace-flags_before.ensures.value in
    let jobs : c.replace-before.result ≡ old.script.task.jobs = c.replace-before.ensures.value in
    record {
      closed = put_back IsClosed old.script.task _ _ flags jobs old.closed;
      forms = put_back HasForms old.script.task _ _ flags jobs old.forms;
      hard = put_back (λ task. read_rules old.rules ≡ hard_rules task) old.script.task _ _ flags jobs old.hard;
      fits = put_back (λ task. first_fault (catalog_of task) 0 (hard_rules task) ≡ None) old.script.task _ _ flags jobs old.fits;
      index = old.index;
      proved = put_back (λ task. are_proved task (problems_in old.answer) ≡ true) old.script.task _ _ flags jobs old.proved;
    }

pub returns-in-Ok-clause-solved : goal.returns-in-Ok-clause-solved
returns-in-Ok-clause-solved c =
    let flags : c.replace-flags_before.new.dest ≡ flags_of c.args.flags.now = c.replace-flags_before.ensures.after ∙ c.flags_of.ensures in
    solved_anew c.args.self.now.script c.args.flags.now c.args.rows.now _ c.replace-before.new.dest flags (c.replace-before.ensures.after ∙ c.requires.jobs) c.args.budget _ refl c.in-Ok.ensures.fits c.in-Ok.ensures.good c.in-Ok.ensures.direct

pub returns-in-Err-clause-fault : goal.returns-in-Err-clause-fault
returns-in-Err-clause-fault c =
    let flags : c.replace-flags_before.new.dest ≡ flags_of c.args.flags.now = c.replace-flags_before.ensures.after ∙ c.flags_of.ensures in
    due_anew c.args.self.now.script c.args.flags.now c.args.rows.now _ c.replace-before.new.dest flags (c.replace-before.ensures.after ∙ c.requires.jobs) c.in-Err.fault c.in-Err.ensures.fault
