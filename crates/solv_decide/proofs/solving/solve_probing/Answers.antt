use Rattle.solv_decide.proofs.Answering.{is_lawful, ledger_by, ledger_from, decided_if}
use Rattle.solv_decide.proofs.solving.solve_probing.Goals as goal

pub run_probing-requires-clause-lawful : goal.run_probing-requires-clause-lawful
run_probing-requires-clause-lawful c = is_lawful c.requires.asked.0 c.args.phases.now c.args.core.now.made c.requires.asked.1 c.plans_ask_the_questions.ensures c.questions_keep_the_law.ensures

pub returns-clause-good : goal.returns-clause-good
returns-clause-good c = λ r asked good.
    ledger_by r c.args.phases.now c.args.core.now.made asked c.plans_ask_the_questions.ensures c.run_probing.new.ledger
    (c.run_probing.ensures.run.good (ledger_from r c.args.phases.now c.args.core.now.made asked c.plans_ask_the_questions.ensures c.args.ledger.now good))

pub returns-clause-decided : goal.returns-clause-decided
returns-clause-decided c = λ r asked.
    decided_if r c.args.phases.now c.args.core.now.made asked c.plans_ask_the_questions.ensures c.clauses_say_the_rule.ensures c.args.enabled.now c.good_logs_refute.ensures c.run_probing.result c.run_probing.new.ledger c.run_probing.ensures.run.answered
