use Rattle.solv_list.proofs.Answers.{ok_map}
use Rattle.solv_script.proofs.FinishedRounds.{first_closed}
use Rattle.solv_run_tests.proofs.script_tests.scripts_of_all_kinds_are_read.Goals as goal

pub is_read-requires : goal.is_read-requires
is_read-requires g c = ok_map _ _ c.read_script-read.result (λ script h. first_closed script h) c.read_script-read.ensures.closed
