use Rattle.std.proofs.Common.{refl}
use Rattle.std.proofs.lemmas.Result.{on_err_weaker}
use Rattle.solv_said.proofs.Fetched.{if_wanting, none_written}
use Rattle.solv_said.proofs.Sayings.{none_takes}
use Rattle.solv_run.specs.Cases.{wrote_nothing, wrote_part}
use Rattle.solv_run.proofs.Explaining.{explained}
use Rattle.solv_run.proofs.Said.{asked_by_due, run_of}
use Rattle.solv_run.proofs.top.run_command.Goals as goal
use Rattle.solv_list.proofs.Answers.{ok_map}

pub returns-clause-run : goal.returns-clause-run
returns-clause-run g c = ok_map _ _ c.reported.result (λ report h. run_of _ _ report _ _ c.in_ok-conclusion.conclusion c.in_ok-conclusion.ensures.due h) c.reported.ensures.reported

pub returns-clause-wanting : goal.returns-clause-wanting
returns-clause-wanting g c = if_wanting _ c.reported.result (asked_by_due _ _ c.in_ok-conclusion.conclusion.due c.in_ok-conclusion.conclusion.reached c.in_ok-conclusion.ensures.due)

pub returns-clause-explained : goal.returns-clause-explained
returns-clause-explained g c =
    ok_map _ _ c.reported.result (λ report h. explained _ _ report _ _ (run_of _ _ report _ _ c.in_ok-conclusion.conclusion c.in_ok-conclusion.ensures.due h)) c.reported.ensures.reported

pub returns-clause-written : goal.returns-clause-written
returns-clause-written g c =
    on_err_weaker c.reported.result (λ h. wrote_part c.in_ok-conclusion.conclusion.due c.in_ok-conclusion.conclusion.reached c.in_ok-conclusion.ensures.due h.on_out h.on_err) c.reported.ensures.wanting

pub returns-clause-untouched : goal.returns-clause-untouched
returns-clause-untouched g c = λ a b. on_err_weaker c.reported.result (λ h. none_takes _ _ h a b) c.reported.ensures.memory

pub returns-in_err-conclusion-clause-written : goal.returns-in_err-conclusion-clause-written
returns-in_err-conclusion-clause-written g c = if_wanting _ c.from_residual.result (wrote_nothing (none_written _ refl refl) (none_written _ refl refl))
