use Rattle.std.proofs.Common.{refl}
use Rattle.solv_list.proofs.Answers.{ok_map}
use Rattle.solv_said.proofs.Fetched.{if_wanting}
use Rattle.solv_said.proofs.Forming.{asks_formed}
use Rattle.solv_pool.specs.TaskForms.{HasForms}
use Rattle.solv_script.proofs.FinishedRounds.{first_closed, first_of}
use Rattle.solv_proof_run.specs.Inner.Outcomes.{not_asked}
use Rattle.solv_proof_run.proofs.Found.{limit_is}
use Rattle.solv_proof_run.proofs.outcomes.indexed_outcome.Goals as goal

pub returns-in-Err-clause-due : goal.returns-in-Err-clause-due
returns-in-Err-clause-due g c = ok_map _ _ c.limit_outcome.result (λ outcome h. limit_is c.args.script.now c.args.file.now _ refl refl outcome.due outcome.proofs h) c.limit_outcome.ensures

pub returns-in-Err-clause-wanting : goal.returns-in-Err-clause-wanting
returns-in-Err-clause-wanting g c = if_wanting _ c.limit_outcome.result (not_asked refl)

pub prepare_first-requires-clause-formed : goal.prepare_first-requires-clause-formed
prepare_first-requires-clause-formed g c = asks_formed c.args.script.now.task (first_of HasForms c.args.script.now c.requires.forms)

pub prepare_first-requires-clause-closed : goal.prepare_first-requires-clause-closed
prepare_first-requires-clause-closed g c = first_closed c.args.script.now c.requires.closed
