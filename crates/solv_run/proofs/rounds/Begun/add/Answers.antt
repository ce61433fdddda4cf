use Rattle.std.proofs.Common.{sym, ◌∙◌}
use Rattle.solv_script.specs.Inner.Turns.{first_turn}
use Rattle.solv_run.proofs.AnswerLines.{listed_answer}
use Rattle.solv_run.proofs.RoundByRound.{taken_alone, taken_behind}
use Rattle.solv_run.proofs.rounds.Begun.add.Goals as goal

pub print-requires-clause-listed : goal.print-requires-clause-listed
print-requires-clause-listed c = listed_answer c.args.script.now.task c.args.answered.answer c.requires.good.is.is

pub returns-then-not-prints_lines-clause-one_more : goal.returns-then-not-prints_lines-clause-one_more
returns-then-not-prints_lines-clause-one_more c =
    taken_alone c.args.command.now (first_turn c.args.script.now) c.args.answered c.take.result c.args.self.now c.take.new.self (sym c.prints_lines.ensures ∙ c.if-not-prints_lines.true) c.requires.good c.take.ensures.taken

pub returns-clause-one_more : goal.returns-clause-one_more
returns-clause-one_more c =
    taken_behind c.args.command.now (first_turn c.args.script.now) c.args.answered c.take-2.result c.args.self.now c.print.new.self c.take-2.new.self (sym c.prints_lines.ensures ∙ c.if-not-prints_lines.false) c.requires.good c.in_ok-print.ensures c.take-2.ensures.taken
