use Rattle.std.proofs.Common.{ap, ◌∙◌, arith}
use Rattle.std.proofs.lemmas.Result.{on_ok_weaker}
use Rattle.solv_rules.specs.Books.{read_rules}
use Rattle.solv_said.proofs.Forming.{asks_formed}
use Rattle.solv_run.proofs.rounds.answer_round.Goals as goal

pub answer_in_turn-requires-clause-formed : goal.answer_in_turn-requires-clause-formed
answer_in_turn-requires-clause-formed c = asks_formed c.args.script.now.task c.requires.forms

pub add-requires-clause-good : goal.add-requires-clause-good
add-requires-clause-good c = record { is = c.in_ok-answered.ensures.good; direct = c.in_ok-answered.ensures.direct }

pub add-requires-clause-rules : goal.add-requires-clause-rules
add-requires-clause-rules c = λ told. ap read_rules c.rules-rules.ensures ∙ c.in_ok-answered.ensures.prepared.rules

pub returns-clause-left : goal.returns-clause-left
returns-clause-left c = on_ok_weaker c.add.result (λ h. omega (arith, h, c.requires.left)) c.add.ensures.left
