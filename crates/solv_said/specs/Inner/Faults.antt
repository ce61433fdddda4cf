-- Why no script was read, and what is due for it. Contracts between layers alone speak of it.
use Rattle.std.specs.Prelude.{ℕ, ◌≡◌, List, ⊤, Option}
use Rattle.solv_script.specs.FileRuns.{FilesRun}
use Rattle.solv_script.specs.declared.scripts.ScriptFault.{ScriptFault}
use Rattle.solv_script.specs.declared.scripts.ScriptFault.TheVariants.{Refused, ReadFault, Memory}
use Rattle.solv_said.specs.Dues.{read_fault_due, bad_line_due}
use Rattle.solv_said.specs.Fetches.{HasAskedFront, IsUnreadDue}
use Rattle.solv_said.specs.declared.dues.Due.{Due}

-- what is due for a fault; running out of memory has nothing
abbrev pub IsFaultDue : List ℕ → ScriptFault → Due → Type 0
IsFaultDue program (Refused file line cause) due = due ≡ bad_line_due program (record { file = file; line = line; cause = cause })
IsFaultDue program (ReadFault name) due = due ≡ read_fault_due program name
IsFaultDue program Memory due = ⊥

-- it is that a file cannot be read, or running out of memory
abbrev pub IsReadFaultOf : List ℕ → ScriptFault → Type 0
IsReadFaultOf file (Refused name line cause) = ⊥
IsReadFaultOf file (ReadFault name) = name ≡ file
IsReadFaultOf file Memory = ⊤

-- where a script's reading ends with a fault, what is due for it is due for the files; and in any case no file was asked for that the script did not ask for
pub record HasNoScript (named : Option (List ℕ)) (files : FilesRun) (fault : ScriptFault) : Type 0 where
  pub due : (program : List ℕ) (due : Due) → IsFaultDue program fault due → IsUnreadDue named files program due
  pub front : HasAskedFront named files
