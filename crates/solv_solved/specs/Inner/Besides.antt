-- What an answer has besides its task. Contracts between functions alone speak of it.
use Rattle.std.specs.Prelude.{◌≡◌, true, None}
use Rattle.solv_pool.specs.Prelude.{catalog_of, hard_rules}
use Rattle.solv_pool.specs.declared.tasks.Task.{Task}
use Rattle.solv_prov.specs.Index.{IsIndexOf}
use Rattle.solv_rules.specs.Books.{first_fault, read_rules}
use Rattle.solv_solved.specs.Inner.Proving.{are_proved}
use Rattle.solv_solved.specs.Proofs.{problems_in}
use Rattle.solv_solved.specs.declared.beside.Beside.{Beside}
use Rattle.solv_solved.specs.declared.with_answer.Solved.{Solved}

-- what an answer has besides its task
abbrev pub beside_of : Solved → Beside
beside_of solved = record {
  kinds = solved.script.kinds;
  wanted = solved.script.wanted;
  checks = solved.script.checks;
  later = solved.script.later;
  prov = solved.prov;
  rules = solved.rules;
  answer = solved.answer;
  ledger = solved.ledger;
}

-- what is known of each answer
pub record IsAnswerTo (task : Task) (beside : Beside) : Type 0 where
  pub hard : read_rules beside.rules ≡ hard_rules task
  pub fits : first_fault (catalog_of task) 0 (hard_rules task) ≡ None
  pub index : IsIndexOf beside.prov (catalog_of task)
  pub proved : are_proved task (problems_in beside.answer) ≡ true
