-- Why a run ends with its status.
use Rattle.std.specs.Prelude.{ℕ, ◌≡◌, ◌<◌, ◌⊎◌, true, false, List, Option, Some, None, Result, Ok, Err, slice_get}
use Rattle.solv_io.specs.declared.status.Status.TheVariants as status
use Rattle.solv_pool.specs.declared.tasks.Task.{Task}
use Rattle.solv_proof.specs.Texts.{proof_text}
use Rattle.solv_proof.specs.declared.kinds.Proof.{Proof}
use Rattle.solv_answers.specs.Answers.{first_limit}
use Rattle.solv_rules.specs.declared.fault.BookFault.{BookFault}
use Rattle.solv_said.specs.Dues.{limit_line}
use Rattle.solv_said.specs.Explained.{HoldScript, IsCalm, IsBad, IsReadFault}
use Rattle.solv_said.specs.Fetches.{IsNamed, WasFetched}
use Rattle.solv_said.specs.Runs.{SinkRun, WroteAll, HasWriteFault}
use Rattle.solv_script.specs.FileRuns.{FilesRun}
use Rattle.solv_script.specs.Grammar.{Bad, script_read}
use Rattle.solv_script.specs.Rounds.{tasks}
use Rattle.solv_script.specs.ScriptsOf.{IsScriptOf}
use Rattle.solv_script.specs.States.{State}
use Rattle.solv_script.specs.declared.scripts.Script.{Script}
use Rattle.solv_verdicts.specs.Verdicts.{NoSetMeetsRound}
use Rattle.solv_proof_run.specs.Cases.{HasAskedScript, HasProof, AreRefuted}
use Rattle.solv_proof_run.specs.Lines.{lines_due, all_yes}
use Rattle.solv_proof_run.specs.Naming.{Pair, program, script_in}
use Rattle.solv_proof_run.specs.ProofFiles.{BadLineOf, file_read, bad_line_due}
use Rattle.solv_proof_run.specs.declared.reports.ProofReport.{ProofReport}

module _ (form : Option Pair) (files : FilesRun) (report : ProofReport) (out err : SinkRun) where
  -- The proofs that are reported are those of the file of proofs, whose text is theirs, and the line of each is written. Where yes is said of one, no set
  -- that holds the system meets the hard rules of its round that it lists.
  pub record HasVerdicts (script : Script) : Type 0 where
    pub pair : Pair
    pub words : form ≡ Some pair
    pub has : HasProof pair files script (proof_text report.proofs)
    pub lines : WroteAll out (lines_due (tasks script) report.proofs)
    pub refuted : AreRefuted (tasks script) report.proofs

  -- every line says yes: no set that holds the system meets what any of the proofs lists
  pub record IsDone : Type 0 where
    pub script : Script
    pub has : HasVerdicts script
    pub each : all_yes (tasks script) report.proofs ≡ true
    pub none : (i : ℕ) (p : Proof) → slice_get report.proofs i ≡ Some p → NoSetMeetsRound (tasks script) p

  -- some line says no
  pub record IsDiffering : Type 0 where
    pub script : Script
    pub has : HasVerdicts script
    pub some_no : all_yes (tasks script) report.proofs ≡ false

  -- the first limit that the clauses of a round pass, which is the one line on `err`
  pub record IsLimited : Type 0 where
    pub script : Script
    pub fault : BookFault
    pub fetched : WasFetched (script_in form) files script
    pub passed : first_limit (tasks script) ≡ Some fault
    pub line : WroteAll err (limit_line program script.task fault)

  -- the first bad line of the file of proofs, which is the one line on `err`
  pub record IsBadProof : Type 0 where
    pub pair : Pair
    pub script : Script
    pub text : List ℕ
    pub bad : BadLineOf
    pub words : form ≡ Some pair
    pub has : HasProof pair files script text
    pub first_bad : file_read text ≡ Err bad
    pub line : WroteAll err (bad_line_due pair.proof bad).err

  -- what the text of the file of proofs decides
  pub record IsDecidedByText (given : List Task) (text : List ℕ) : Type 0 where
    pub bad_text : (bad : BadLineOf) → file_read text ≡ Err bad → report.status ≡ status.Refused
    pub good_text : (proofs : List Proof) → file_read text ≡ Ok proofs → report.proofs ≡ proofs
    pub yes_to_all : (proofs : List Proof) → file_read text ≡ Ok proofs → all_yes given proofs ≡ true → report.status ≡ status.Done
    pub no_to_some : (proofs : List Proof) → file_read text ≡ Ok proofs → all_yes given proofs ≡ false → report.status ≡ status.Differs

  -- the file of proofs was asked for and has a text, which decides
  pub record HasDecidingText (pair : Pair) (script : Script) : Type 0 where
    pub text : List ℕ
    pub has : HasProof pair files script text
    pub by : IsDecidedByText (tasks script) text

  -- what becomes of a script that the grammar accepts: the clauses of a round pass a limit, or the file of proofs decides
  pub record IsComplete (pair : Pair) (state : State) : Type 0 where
    pub script : Script
    pub of_state : IsScriptOf state script
    pub limited : (fault : BookFault) → first_limit (tasks script) ≡ Some fault → report.status ≡ status.Refused
    pub within : first_limit (tasks script) ≡ None → HasDecidingText pair script

  -- what the grammar says of the script decides first
  pub record IsDecidedBy (pair : Pair) (given : Result State Bad) : Type 0 where
    pub bad_script : (bad : Bad) → given ≡ Err bad → report.status ≡ status.Refused
    pub good_script : (state : State) → given ≡ Ok state → IsComplete pair state

  -- the same for the bytes that were fetched, whether or not the files expose their contents
  pub record IsDecided (pair : Pair) : Type 0 where
    pub bytes : List ℕ
    pub fetched : List (List ℕ)
    pub named : IsNamed (script_in form) files pair.script bytes
    pub asked : HasAskedScript pair files bytes fetched
    pub by : IsDecidedBy pair (script_read pair.script fetched bytes)

  -- what each status says, and which status must come
  pub record IsExplained : Type 0 where
    pub done : report.status ≡ status.Done → IsDone
    pub differs : report.status ≡ status.Differs → IsDiffering
    pub refused : report.status ≡ status.Refused → IsBad program (script_in form) files err ⊎ (IsLimited ⊎ IsBadProof)
    pub read_fault : report.status ≡ status.ReadFault → IsReadFault program files err
    pub write_fault : report.status ≡ status.WriteFault → HasWriteFault out err
    pub unspent : report.status ≡ status.Spent → ⊥
    pub memory : report.status ≡ status.Memory → ⊥
    pub usage : report.status ≡ status.Usage → form ≡ None
    pub file_fault : files.faults_before < files.faults_after → (report.status ≡ status.ReadFault) ⊎ (report.status ≡ status.WriteFault)
    pub out_fault : out.faults_before < out.faults_after → report.status ≡ status.WriteFault
    pub err_fault : err.faults_before < err.faults_after → report.status ≡ status.WriteFault
    pub bad_words : form ≡ None → (report.status ≡ status.Usage) ⊎ (report.status ≡ status.WriteFault)
    pub decided : (pair : Pair) → form ≡ Some pair → IsCalm files out err → IsDecided pair
    pub told : (pair : Pair) (bytes : List ℕ) (fetched : List (List ℕ)) (held : List ℕ → Option (List ℕ)) → form ≡ Some pair → files.contents ≡ Some held
        → HoldScript held pair.script bytes fetched → IsCalm files out err → IsDecidedBy pair (script_read pair.script fetched bytes)
