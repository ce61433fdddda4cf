-- What is held after a script was read and its first round answered.
use Rattle.std.specs.Prelude.{ℕ, ◌≡◌, true, ⊤, List, [], Some, None, codes}
use Rattle.solv_pool.specs.Catalog.{catalog_of}
use Rattle.solv_pool.specs.HardRules.{hard_rules}
use Rattle.solv_rules.specs.Books.{first_fault}
use Rattle.solv_rules.specs.declared.fault.BookFault.{BookFault}
use Rattle.solv_script.specs.FileRuns.{FilesRun}
use Rattle.solv_script.specs.declared.scripts.Script.{Script}
use Rattle.solv_io.specs.declared.status.Status.TheVariants.{ReadFault}
use Rattle.solv_said.specs.Dues.{limit_due, read_fault_due}
use Rattle.solv_said.specs.Fetches.{IsUnreadDue, WasFetched}
use Rattle.solv_said.specs.declared.dues.Due.{Due}
use Rattle.solv_answers.specs.Answers.{IsAnswered, IsTransactionUnlessChoicesClash}
use Rattle.solv_lent.specs.Lent.{is_missing, lent_bytes}
use Rattle.solv_lent.specs.declared.lent_file.LentFile.{LentFile}
use Rattle.solv_solved.specs.declared.with_answer.Solved.{Solved}
use Rattle.solv_solved.specs.declared.outcomes.Held.{Held}
use Rattle.solv_solved.specs.declared.outcomes.Held.TheVariants.{Answered, Refused, Open}

-- the name that stands before the line on what is wrong
abbrev pub program : List ℕ
program = codes "gachuswi"

-- The first round of this script is answered within the budget: a transaction, problems, or that the budget is spent, with what holds of each. It is a
-- transaction where the choices of the task's questions meet no conflict.
pub record IsSolved (budget : ℕ) (script : Script) (solved : Solved) : Type 0 where
  pub of_script : solved.script ≡ script
  pub fits : first_fault (catalog_of script.task) 0 (hard_rules script.task) ≡ None
  pub good : IsAnswered script.task budget solved.answer solved.ledger
  pub direct : IsTransactionUnlessChoicesClash script.task solved.answer

-- what a script that was read comes to: an answer to its first round, or the line on the first limit that the clauses of this round pass
pub data IsHeldFor (budget : ℕ) (script : Script) : Held → Type 0 where
  answered : (solved : Solved) → IsSolved budget script solved → IsHeldFor budget script (Answered solved)
  passes : (fault : BookFault) → first_fault (catalog_of script.task) 0 (hard_rules script.task) ≡ Some fault → IsHeldFor budget script (Refused (limit_due program script.task fault))

-- what a file comes to: its script is read, or what is due where it cannot be, or one that it names, or where its first bad line is refused
pub data IsHeldOf (name : List ℕ) (files : FilesRun) (budget : ℕ) : Held → Type 0 where
  was_read : (script : Script) (held : Held) → WasFetched (Some name) files script → IsHeldFor budget script held → IsHeldOf name files budget held
  unread : (due : Due) → IsUnreadDue (Some name) files program due → IsHeldOf name files budget (Refused due)

-- files that a caller lends, over a run that asks for these names, and in which so many fetches fail: they expose their contents, and the names asked
-- for
abbrev pub lent_files : List LentFile → List (List ℕ) → ℕ → FilesRun
lent_files files names faults = record { contents = Some (lent_bytes files); asked_before = Some []; asked_after = Some names; faults_before = 0; faults_after = faults }

-- a line says of a name that it cannot be read, and no file that is lent has this name
pub record IsMissingFile (files : List LentFile) (line : List ℕ) : Type 0 where
  pub name : List ℕ
  pub missing : is_missing files name ≡ true
  pub told : line ≡ (read_fault_due program name).err

-- where a file cannot be read, so it is
abbrev pub NamesTheMissing : List LentFile → Held → Type 0
NamesTheMissing files (Answered solved) = ⊤
NamesTheMissing files (Open opened) = ⊤
NamesTheMissing files (Refused due) = due.status ≡ ReadFault → IsMissingFile files due.err

-- What the script of this name comes to, among files that a caller lends. Where a file cannot be read, it is one that is not lent, and its name is
-- reported.
pub record IsHeldOfLent (files : List LentFile) (name : List ℕ) (budget : ℕ) (held : Held) : Type 0 where
  pub names : List (List ℕ)
  pub faults : ℕ
  pub is_held : IsHeldOf name (lent_files files names faults) budget held
  pub read_fault : NamesTheMissing files held
