-- What follows of what a run says.
use Rattle.std.specs.Prelude.{ℕ, ◌≡◌, ◌<◌, ◌≤◌, true, List, Ok, Some, Option, length, slice_get}
use Rattle.std.specs.List.{list_all}
use Rattle.solv_pool.specs.declared.tasks.Task.{Task}
use Rattle.solv_script.specs.FileRuns.{FilesRun}
use Rattle.solv_script.specs.Grammar.{most_file}
use Rattle.solv_script.specs.Reads.{written_script}
use Rattle.solv_script.specs.declared.scripts.Script.{Script}
use Rattle.solv_answers.specs.declared.answers.Answer.{Answer}
use Rattle.solv_core.specs.declared.ledger.Ledger.{Ledger}
use Rattle.solv_proof.specs.Laws.{proof_fits}
use Rattle.solv_proof.specs.Reading.{proof_read}
use Rattle.solv_proof.specs.Texts.{are_listed}
use Rattle.solv_proof.specs.declared.kinds.Proof.{Proof}
use Rattle.solv_said.specs.Fetches.{WasFetched}
use Rattle.solv_verdicts.specs.Verdicts.{verdict_of}
use Rattle.solv_verdicts.specs.declared.verdicts.Verdict.TheVariants.{Yes}
use Rattle.solv_writing.specs.ScriptTexts.{text_of_script}
use Rattle.solv_writing.specs.WrittenBack.{IsReadBack}
use Rattle.solv_run.specs.Proofs.{HasProofs, printed_proofs, proofs_in}
use Rattle.solv_run.specs.Rounds.{AreAnswers}

-- one task has one answer, so that a run over a seed reports one; no task has none, as where a script is asked for itself
abbrev pub EachTaskHasItsAnswer : Type 0
EachTaskHasItsAnswer = (budget : ℕ) (tasks : List Task) (answers : List Answer) (ledgers : List Ledger) → AreAnswers budget tasks answers ledgers → length tasks ≤ 1 → length answers ≡ length tasks

-- Where there are proofs, they are listed as their text wants it, and their numbers have their ranges. And yes is said of each: no set meets the rules of its round that its problem lists.
pub record HasGoodProofs (tasks : List Task) (answers : List Answer) : Type 0 where
  pub listed : 0 < length (proofs_in answers) → are_listed (proofs_in answers) ≡ true
  pub fits : list_all proof_fits (proofs_in answers) ≡ true
  pub yes : (i : ℕ) (p : Proof) → slice_get (proofs_in answers) i ≡ Some p → verdict_of tasks p ≡ Yes

-- the proofs of the problems of answers to these tasks are good, where they are asked for
abbrev pub PrintedProofsAreGood : Type 0
PrintedProofsAreGood = (budget : ℕ) (tasks : List Task) (answers : List Answer) (ledgers : List Ledger) → AreAnswers budget tasks answers ledgers → HasProofs answers → HasGoodProofs tasks answers

-- the text of good proofs is read as these, where there are some
abbrev pub PrintedProofsAreRead : Type 0
PrintedProofsAreRead = (tasks : List Task) (answers : List Answer) → HasGoodProofs tasks answers → 0 < length (proofs_in answers) → proof_read (printed_proofs answers) ≡ Ok (proofs_in answers)

-- the text of a script that was read gives the same script, whatever it is called and whatever files there are, where it is no longer than a file may be
abbrev pub PrintedScriptsAreRead : Type 0
PrintedScriptsAreRead = (named : Option (List ℕ)) (files : FilesRun) (script : Script) → WasFetched named files script → length (text_of_script (written_script script)) ≤ most_file
    → IsReadBack (written_script script) (text_of_script (written_script script))
