use Rattle.std.proofs.Common.{◌≡◌, ℕ, Bool, List, [], ap, subst}
use Rattle.std.specs.Prelude.{IfOk, Result, Ok, Err}
use Rattle.std.specs.declared.alloc.AllocError.{AllocError}
use Rattle.solv_pool.specs.declared.tasks.Task.{Task}
use Rattle.solv_answers.specs.Answers.{IsAnswered, IsTransactionUnlessChoicesClash}
use Rattle.solv_answers.specs.Inner.Made.{IsAnsweredMade}
use Rattle.solv_answers.specs.declared.answering.Given.{Given}
use Rattle.solv_answers.proofs.Made.{made_of}
use Rattle.solv_answers.proofs.Remedied.{whole_answered}
use Rattle.solv_answers.proofs.Solved.{solved}
use Rattle.solv_answers.proofs.answering.answer_whole.Goals as goal

pub answer_made-requires-clause-made : goal.answer_made-requires-clause-made
answer_made-requires-clause-made c = made_of c.args.task.now c.args.prepared.now c.requires.prepared

-- where nothing is left out, the answer is one by all hard rules
whole : (task : Task) (left : List Bool) (budget : ℕ) (o : Result Given AllocError) → left ≡ [] → IfOk o (λ g. IsAnsweredMade task left budget g.answered.answer g.answered.ledger)
    → IfOk o (λ g. IsAnswered task budget g.answered.answer g.answered.ledger)
whole task left budget (Ok g) none is = whole_answered task budget g.answered.answer g.answered.ledger (subst (λ (l : List Bool). IsAnsweredMade task l budget g.answered.answer g.answered.ledger) none is)
whole task left budget (Err e) none is = tt

is_whole : (c : goal.After-answer_made) → IfOk c.answer_made.result (λ g. IsAnswered c.args.task.now c.args.budget g.answered.answer g.answered.ledger)
is_whole c = whole c.args.task.now c.args.prepared.now.marks.left_out c.args.budget c.answer_made.result (ap (λ m. m.left_out) c.requires.prepared.marks) c.answer_made.ensures.good

pub returns-clause-good : goal.returns-clause-good
returns-clause-good c = is_whole c

pub returns-clause-direct : goal.returns-clause-direct
returns-clause-direct c = direct c.answer_made.result (is_whole c)
  where
    direct : (o : Result Given AllocError) → IfOk o (λ g. IsAnswered c.args.task.now c.args.budget g.answered.answer g.answered.ledger) → IfOk o (λ g. IsTransactionUnlessChoicesClash c.args.task.now g.answered.answer)
    direct (Ok g) is =
        solved c.args.task.now c.questions_keep_the_law.ensures c.clauses_name_packages.ensures c.clauses_say_the_rule.ensures c.requires.formed c.requires.prepared.bookable
        c.args.budget g.answered.answer g.answered.ledger is
    direct (Err e) is = tt
