-- Why a run ends so, where programs share it.
use Rattle.std.specs.Prelude.{ℕ, ◌≡◌, List, [], ◌∷◌, ◌++◌, map, Option, Some, Err}
use Rattle.solv_io.specs.Counters.{Rose}
use Rattle.solv_script.specs.FileRuns.{FilesRun, AskedBesides, bytes_in}
use Rattle.solv_script.specs.Grammar.{Bad, script_due, script_read}
use Rattle.solv_said.specs.Dues.{read_fault_due, bad_line_due}
use Rattle.solv_said.specs.Fetches.{IsNamed, HasAskedAll}
use Rattle.solv_said.specs.Runs.{SinkRun, WroteAll, HasWriteFault}

-- the files hold a script with these bytes, and these bytes under the names that are due by it
pub record HoldScript (held : List ℕ → Option (List ℕ)) (file bytes : List ℕ) (fetched : List (List ℕ)) : Type 0 where
  pub script : held file ≡ Some bytes
  pub others : fetched ≡ map (bytes_in held) (script_due file fetched bytes)

-- no fault was counted in the run
pub record IsCalm (files : FilesRun) (out err : SinkRun) : Type 0 where
  pub files_calm : Rose files.faults_before files.faults_after → ⊥
  pub sinks_calm : HasWriteFault out err → ⊥

-- the script's first bad line, which is the one line on `err`
pub record IsBad (program : List ℕ) (named : Option (List ℕ)) (files : FilesRun) (err : SinkRun) : Type 0 where
  pub file : List ℕ
  pub bytes : List ℕ
  pub fetched : List (List ℕ)
  pub bad : Bad
  pub is_named : IsNamed named files file bytes
  pub asked : HasAskedAll named files file bytes fetched
  pub first_bad : script_read file fetched bytes ≡ Err bad
  pub line : WroteAll err (bad_line_due program bad).err

-- a file that could not be read: it is the one asked for last, the count of the files rose, and the one line on `err` names it
pub record IsReadFault (program : List ℕ) (files : FilesRun) (err : SinkRun) : Type 0 where
  pub before : List (List ℕ)
  pub name : List ℕ
  pub asked : AskedBesides files (before ++ name ∷ [])
  pub rose : Rose files.faults_before files.faults_after
  pub line : WroteAll err (read_fault_due program name).err
