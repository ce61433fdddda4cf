-- What is said of a call that was to build. Contracts between functions alone speak of it.
use Rattle.std.specs.Prelude.{ℕ, ◌≡◌, List, [], Result, Ok, Err}
use Rattle.solv_commands.specs.Causes.{cause_name}
use Rattle.solv_said.specs.Dues.{line_at}
use Rattle.solv_draft.specs.declared.draft_fault.DraftFault.{DraftFault}
use Rattle.solv_draft.specs.declared.draft_fault.DraftFault.TheVariants as fault
use Rattle.solv_solved.specs.Solvings.{program}
use Rattle.solv_solved.specs.declared.building.Given.{Given}
use Rattle.solv_solved.specs.declared.building.Given.TheVariants.{Done, Refuses, Misused}

-- the line on a call of this name that ended so, and how it ended; running out of memory is none of them
abbrev pub IsTold : {A : Type 0} → List ℕ → Result A DraftFault → List ℕ → Given → Type 0
IsTold name (Ok x) said Done = said ≡ []
IsTold name (Err (fault.Refused line cause)) said Refuses = said ≡ line_at program name line (cause_name cause)
IsTold name (Err fault.Misused) said Misused = said ≡ []
IsTold name ended said how = ⊥
