use Rattle.std.proofs.Common.{◌∙◌, subst}
use Rattle.solv_script.specs.declared.scripts.Script.{Script}
use Rattle.solv_solved.specs.Inner.Finding.{IsFound, IsFoundLimit, answer_of, limit_of}
use Rattle.solv_solved.specs.Solvings.{IsSolved}
use Rattle.solv_solved.specs.declared.building.Found.{Found}
use Rattle.solv_solved.proofs.Built.{answer_found}
use Rattle.solv_solved.proofs.building.held_of.Goals as goal

pub solved-requires-clause-found : goal.solved-requires-clause-found
solved-requires-clause-found c =
    answer_found c.args.budget c.args.task c.script_of-script.result.task c.args.found c.in-Answer.prov c.in-Answer.given c.in-Answer.is c.script_of-script.ensures.task c.requires.found

pub returns-in-Answer : goal.returns-in-Answer
returns-in-Answer c = answer_of c.solved.result (subst (λ (s : Script). IsSolved c.args.budget s c.solved.result) c.script_of-script.ensures.script c.solved.ensures)

pub returns-in-Limit : goal.returns-in-Limit
returns-in-Limit c =
    let found : IsFoundLimit c.args.task c.in-Limit.said = subst (λ (f : Found). IsFound c.args.budget c.args.task f) c.in-Limit.is c.requires.found in
    limit_of c.opened.result found.limit found.passed c.opened.ensures.task (c.opened.ensures.said ∙ found.told)
