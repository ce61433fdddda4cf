use Rattle.std.proofs.Common.{◌≡◌, ◌∙◌, length, ap, arith, subst}
use Rattle.solv_list.proofs.Answers.{ok_map}
use Rattle.solv_pool.specs.Prelude.{Catalog}
use Rattle.solv_script.specs.declared.scripts.Script.{Script}
use Rattle.solv_rounds.proofs.Turned.{at_place, front_back, front_catalog, front_later}
use Rattle.solv_rounds.specs.Inner.Fronts.{in_front}
use Rattle.solv_proof_run.proofs.Judged.{both_said, front_held}
use Rattle.solv_proof_run.specs.Inner.Rounds.{IsVerdictOn}
use Rattle.solv_proof_run.proofs.judging.judge_in.Goals as goal

pub judge-verdict-requires-clause-book : goal.judge-verdict-requires-clause-book
judge-verdict-requires-clause-book c = (front_held c.args.script.now c.to_front.new.script c.args.hand.now c.to_front.ensures c.requires.hand).book

pub judge-verdict-requires-clause-rules : goal.judge-verdict-requires-clause-rules
judge-verdict-requires-clause-rules c = (front_held c.args.script.now c.to_front.new.script c.args.hand.now c.to_front.ensures c.requires.hand).rules

pub judge-verdict-requires-clause-bookable : goal.judge-verdict-requires-clause-bookable
judge-verdict-requires-clause-bookable c = (front_held c.args.script.now c.to_front.new.script c.args.hand.now c.to_front.ensures c.requires.hand).bookable

pub judge-verdict-requires-clause-packages : goal.judge-verdict-requires-clause-packages
judge-verdict-requires-clause-packages c =
    let same : length c.to_front.new.script.task.universe.packages ≡ length c.args.script.now.task.universe.packages
    = ap (λ (s : Script). length s.task.universe.packages) c.to_front.ensures
    ∙ ap (λ (k : Catalog). length k.universe.packages) (front_catalog c.args.script.now c.args.hand.now.place c.requires.hand.within) in
    let within = c.requires.packages in
    omega (arith, same, within)

pub to_front-requires-2 : goal.to_front-requires-2
to_front-requires-2 c =
    let same : length c.to_front.new.script.later ≡ length c.args.script.now.later
    = ap (λ (s : Script). length s.later) c.to_front.ensures ∙ front_later c.args.script.now c.args.hand.now.place c.requires.hand.within in
    let within = c.requires.hand.within in
    omega (arith, same, within)

pub returns-clause-script : goal.returns-clause-script
returns-clause-script c = c.to_front-2.ensures ∙ ap (in_front c.args.hand.now.place) c.to_front.ensures ∙ front_back c.args.script.now c.args.hand.now.place c.requires.hand.within

pub returns-clause-verdict : goal.returns-clause-verdict
returns-clause-verdict c =
    let said = both_said c.to_front.new.script.task c.args.proof.now c.judge-verdict.result c.judge-verdict.ensures.exact c.judge-verdict.ensures.refuted in
    ok_map _ _ c.judge-verdict.result (λ v is.
    at_place (λ task. IsVerdictOn task c.args.proof.now v) c.args.script.now c.args.hand.now.place c.requires.hand.within (subst (λ (s : Script). IsVerdictOn s.task c.args.proof.now v) c.to_front.ensures is)) said
