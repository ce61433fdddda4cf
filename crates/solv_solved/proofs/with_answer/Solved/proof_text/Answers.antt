use Rattle.std.proofs.Common.{◌+◌, sym}
use Rattle.solv_verdicts.specs.Laws.{proof_of}
use Rattle.solv_solved.specs.Proofs.{problems_in}
use Rattle.solv_solved.proofs.ProvedProblems.{gets_yes, may_be_written}
use Rattle.solv_solved.proofs.with_answer.Solved.proof_text.Goals as goal

pub proof_text-requires : goal.proof_text-requires
proof_text-requires c =
    let solved = c.args.self.now in
    may_be_written solved.script.task (problems_in solved.answer) c.args.problem c.in-Some.found.now solved.proved (sym c.in-Some.ensures)

pub returns-in_ok-text-in-Some-clause-good : goal.returns-in_ok-text-in-Some-clause-good
returns-in_ok-text-in-Some-clause-good c =
    let solved = c.args.self.now in
    record {
      proof = proof_of 1 (c.args.problem + 1) c.in-Some.found.now;
      readable = c.in_ok-text-in-Some.ensures.readable;
      yes = gets_yes solved.script.task (problems_in solved.answer) c.args.problem c.in-Some.found.now solved.proved (sym c.in-Some.ensures);
    }
