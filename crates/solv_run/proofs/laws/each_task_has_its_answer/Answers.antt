use Rattle.solv_run.proofs.Together.{its_answer}
use Rattle.solv_run.proofs.laws.each_task_has_its_answer.Goals as goal

pub returns : goal.returns
returns c = its_answer
