-- A script that is read from files: what was asked for, and what is due where none is read.
use Rattle.std.specs.Prelude.{ℕ, ◌≡◌, ◌≤◌, ◌+◌, List, [], ◌∷◌, ◌++◌, length, take, Option, Some, IfSome, Err, IsOkAnd}
use Rattle.solv_io.specs.Counters.{Rose}
use Rattle.solv_script.specs.FileRuns.{FilesRun, AskedBesides, AreFetched, IsFront}
use Rattle.solv_script.specs.Grammar.{Bad, script_due, script_read}
use Rattle.solv_script.specs.ScriptsOf.{IsScriptOf}
use Rattle.solv_script.specs.declared.scripts.Script.{Script}
use Rattle.solv_said.specs.Dues.{read_fault_due, bad_line_due}
use Rattle.solv_said.specs.declared.dues.Due.{Due}

module _ (named : Option (List ℕ)) (files : FilesRun) where
  -- this file is named, which holds these bytes where the files expose their contents
  pub record IsNamed (file bytes : List ℕ) : Type 0 where
    pub is_named : named ≡ Some file
    pub holds : IfSome files.contents (λ held. held file ≡ Some bytes)

  -- the files asked for are the script's own and all those that are due, which gave these bytes, and no fault was counted
  pub record HasAskedAll (file bytes : List ℕ) (fetched : List (List ℕ)) : Type 0 where
    pub names : List (List ℕ)
    pub asked : AskedBesides files (file ∷ names)
    pub are : AreFetched files names fetched
    pub all_due : names ≡ script_due file fetched bytes
    pub no_fault : files.faults_after ≡ files.faults_before

  -- a file that the script names could not be read: it is the one asked for last, and the count of faults rose
  pub record HasStopped (file bytes name : List ℕ) : Type 0 where
    pub before : List (List ℕ)
    pub fetched : List (List ℕ)
    pub asked : AskedBesides files (file ∷ (before ++ name ∷ []))
    pub are : AreFetched files before fetched
    pub due : IsFront (before ++ name ∷ []) (script_due file fetched bytes)
    pub rose : Rose files.faults_before files.faults_after

  -- what may be asked for before a run ends for lack of memory: nothing; the script; or the script and then a front of the files that are due, of
  -- which all but the last, at most, gave these bytes
  pub data HasAskedFront : Type 0 where
    asked_none : AskedBesides files [] → HasAskedFront
    asked_script : (file : List ℕ) → named ≡ Some file → AskedBesides files (file ∷ []) → HasAskedFront
    asked_more : (file bytes : List ℕ) (names fetched : List (List ℕ)) → IsNamed file bytes → AskedBesides files (file ∷ names) → AreFetched files (take (length fetched) names) fetched
        → length names ≤ length fetched + 1 → IsFront names (script_due file fetched bytes) → HasAskedFront

  -- the file that is named holds this script, which all its lines give, and all files that they name were fetched
  pub record WasFetched (script : Script) : Type 0 where
    pub file : List ℕ
    pub bytes : List ℕ
    pub fetched : List (List ℕ)
    pub is_named : IsNamed file bytes
    pub asked : HasAskedAll file bytes fetched
    pub read : IsOkAnd (script_read file fetched bytes) (λ s. IsScriptOf s script)

  -- what is due where no script is read: its file cannot be, or one that it names, or its first bad line is refused
  pub data IsUnreadDue (program : List ℕ) : Due → Type 0 where
    not_read : (file : List ℕ) → named ≡ Some file → AskedBesides files (file ∷ []) → Rose files.faults_before files.faults_after → IsUnreadDue program (read_fault_due program file)
    stopped : (file bytes name : List ℕ) → IsNamed file bytes → HasStopped file bytes name → IsUnreadDue program (read_fault_due program name)
    refused : (file bytes : List ℕ) (fetched : List (List ℕ)) (b : Bad) → IsNamed file bytes → HasAskedAll file bytes fetched → script_read file fetched bytes ≡ Err b → IsUnreadDue program (bad_line_due program b)
