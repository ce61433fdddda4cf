use Rattle.solv_list.proofs.Answers.{ok_map}
use Rattle.solv_proof_run.proofs.Judged.{in_round, no_round}
use Rattle.solv_proof_run.proofs.judging.judge_one.Goals as goal

pub returns-in-Some-clause-verdict : goal.returns-in-Some-clause-verdict
returns-in-Some-clause-verdict c =
    ok_map _ _ c.judge_at.result (λ judged is. in_round c.args.script.now c.args.proof.now c.in-Some.place judged.verdict c.in-Some.ensures.some is) c.judge_at.ensures.verdict

pub returns-in-None-clause-verdict : goal.returns-in-None-clause-verdict
returns-in-None-clause-verdict c = no_round _ c.args.proof.now c.in-None.ensures.none
