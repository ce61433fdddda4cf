use Rattle.solv_script.specs.Inner.Turns.{first_turn}
use Rattle.solv_run.proofs.RoundByRound.{goes_behind, goes_still}
use Rattle.solv_run.proofs.rounds.answer_after.Goals as goal

pub returns-then-begun-clause-begun : goal.returns-then-begun-clause-begun
returns-then-begun-clause-begun c = goes_still c.args.command.now (first_turn c.args.script.now) c.args.begun.now c.if-begun.true

pub returns-clause-begun : goal.returns-clause-begun
returns-clause-begun c =
    goes_behind c.args.command.now (first_turn c.args.script.now) c.answer_with.result c.args.begun.now c.print_next.new.begun c.answer_with.new.begun c.if-begun.false c.in_ok-print_next.ensures c.answer_with.ensures.one_more
