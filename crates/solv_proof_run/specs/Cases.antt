-- What is due in each case of a run.
use Rattle.std.specs.Prelude.{ℕ, ◌≡◌, ◌⊎◌, true, List, [], ◌∷◌, ◌++◌, Option, Some, None, Ok, Err, IfSome, IsOkAnd, slice_get}
use Rattle.solv_io.specs.Counters.{Rose}
use Rattle.solv_io.specs.declared.status.Status.TheVariants as status
use Rattle.solv_pool.specs.declared.tasks.Task.{Task}
use Rattle.solv_proof.specs.Texts.{proof_text, are_listed}
use Rattle.solv_proof.specs.declared.kinds.Proof.{Proof}
use Rattle.solv_answers.specs.Answers.{first_limit}
use Rattle.solv_rules.specs.declared.fault.BookFault.{BookFault}
use Rattle.solv_said.specs.Dues.{line_due, read_fault_due, limit_due}
use Rattle.solv_said.specs.Fetches.{IsNamed, WasFetched, HasAskedFront, IsUnreadDue}
use Rattle.solv_said.specs.Runs.{SinkRun, WroteAll, WrotePart, IsSaid}
use Rattle.solv_said.specs.declared.dues.Due.{Due}
use Rattle.solv_script.specs.FileRuns.{FilesRun, AskedBesides, AreFetched}
use Rattle.solv_script.specs.Grammar.{script_due, script_read}
use Rattle.solv_script.specs.ScriptsOf.{IsScriptOf}
use Rattle.solv_script.specs.Rounds.{tasks}
use Rattle.solv_script.specs.declared.scripts.Script.{Script}
use Rattle.solv_verdicts.specs.Verdicts.{verdict_of, NoSetMeetsRound}
use Rattle.solv_verdicts.specs.declared.verdicts.Verdict.TheVariants.{Yes}
use Rattle.solv_proof_run.specs.Lines.{verdicts_due}
use Rattle.solv_proof_run.specs.Naming.{Pair, program, usage_line, script_in}
use Rattle.solv_proof_run.specs.ProofFiles.{BadLineOf, file_read, bad_line_due}
use Rattle.solv_proof_run.specs.declared.reports.ProofReport.{ProofReport}

-- where yes is said of a proof, no set that holds the system meets the rules of its round that it lists
abbrev pub AreRefuted : List Task → List Proof → Type 0
AreRefuted tasks proofs = (i : ℕ) (p : Proof) → slice_get proofs i ≡ Some p → verdict_of tasks p ≡ Yes → NoSetMeetsRound tasks p

-- the proofs of a text are judged against the tasks of rounds: the text is theirs, and a yes says what it should
pub record AreJudged (given : List Task) (text : List ℕ) (proofs : List Proof) : Type 0 where
  pub read : file_read text ≡ Ok proofs
  pub is_text : text ≡ proof_text proofs
  pub listed : are_listed proofs ≡ true
  pub refuted : AreRefuted given proofs

module _ (pair : Pair) (files : FilesRun) where
  -- the script was asked for and all files that are due by it, which gave these bytes, and after them at most the file of proofs; and no fault was counted
  pub record HasAskedScript (bytes : List ℕ) (fetched : List (List ℕ)) : Type 0 where
    pub names : List (List ℕ)
    pub asked : AskedBesides files (pair.script ∷ names) ⊎ AskedBesides files (pair.script ∷ (names ++ pair.proof ∷ []))
    pub are : AreFetched files names fetched
    pub all_due : names ≡ script_due pair.script fetched bytes
    pub no_fault : files.faults_after ≡ files.faults_before

  -- the script was read with all files that it names, the clauses of no round pass a limit, and then the file of proofs was asked for
  pub record HasAskedProof (script : Script) : Type 0 where
    pub bytes : List ℕ
    pub fetched : List (List ℕ)
    pub names : List (List ℕ)
    pub named : IsNamed (Some pair.script) files pair.script bytes
    pub asked : AskedBesides files (pair.script ∷ (names ++ pair.proof ∷ []))
    pub are : AreFetched files names fetched
    pub all_due : names ≡ script_due pair.script fetched bytes
    pub script_is : IsOkAnd (script_read pair.script fetched bytes) (λ s. IsScriptOf s script)
    pub fits : first_limit (tasks script) ≡ None

  -- and it has this text, and no fault was counted
  pub record HasProof (script : Script) (text : List ℕ) : Type 0 where
    pub asked_for : HasAskedProof script
    pub holds : IfSome files.contents (λ held. held pair.proof ≡ Some text)
    pub no_fault : files.faults_after ≡ files.faults_before

module _ (form : Option Pair) (files : FilesRun) where
  -- What is due, with the proofs that were read: the words name no pair of files; or the script is not read; or the clauses of a round pass a limit; or the file
  -- of proofs cannot be read; or it has a bad line; or what is said of its proofs.
  pub data IsDueRun : Due → List Proof → Type 0 where
    no_pair : form ≡ None → AskedBesides files [] → files.faults_after ≡ files.faults_before → IsDueRun (line_due status.Usage usage_line) []
    unread : (pair : Pair) (due : Due) → form ≡ Some pair → IsUnreadDue (Some pair.script) files program due → IsDueRun due []
    passes : (pair : Pair) (script : Script) (fault : BookFault) → form ≡ Some pair → WasFetched (Some pair.script) files script
        → first_limit (tasks script) ≡ Some fault → IsDueRun (limit_due program script.task fault) []
    no_proof : (pair : Pair) (script : Script) → form ≡ Some pair → HasAskedProof pair files script → Rose files.faults_before files.faults_after → IsDueRun (read_fault_due program pair.proof) []
    bad_proof : (pair : Pair) (script : Script) (text : List ℕ) (bad : BadLineOf) → form ≡ Some pair → HasProof pair files script text → file_read text ≡ Err bad → IsDueRun (bad_line_due pair.proof bad) []
    judged : (pair : Pair) (script : Script) (text : List ℕ) (proofs : List Proof) → form ≡ Some pair → HasProof pair files script text → AreJudged (tasks script) text proofs
        → IsDueRun (verdicts_due (tasks script) proofs) proofs

  -- a run: what is due is said, and the proofs are reported
  pub record IsRun (report : ProofReport) (out err : SinkRun) : Type 0 where
    pub due : Due
    pub is_due : IsDueRun due report.proofs
    pub said : IsSaid due report.status out err

  -- what may be asked for before a run ends for lack of memory: a front of what reading the script asks for; or all of it, and then the file of proofs
  pub data HasAskedPart : Type 0 where
    script_part : HasAskedFront (script_in form) files → HasAskedPart
    proof_part : (pair : Pair) (script : Script) → form ≡ Some pair → HasAskedProof pair files script → HasAskedPart

  -- what may be written before such a run ends: nothing, or a prefix of each text that is due, whatever proofs were read
  pub data HasWrittenPart (out err : SinkRun) : Type 0 where
    wrote_nothing : WroteAll out [] → WroteAll err [] → HasWrittenPart out err
    wrote_part : (due : Due) (proofs : List Proof) → IsDueRun due proofs → WrotePart out due.out → WrotePart err due.err → HasWrittenPart out err
