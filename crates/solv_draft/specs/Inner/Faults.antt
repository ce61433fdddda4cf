-- Why nothing is given, as functions answer it. Contracts between functions alone speak of it.
use Rattle.std.specs.Prelude.{ℕ, ◌≡◌, Result, Err}
use Rattle.solv_deps.specs.declared.fault.DepFault.{DepFault}
use Rattle.solv_deps.specs.declared.fault.DepFault.TheVariants as of_dep
use Rattle.solv_tags.specs.declared.tag_fault.TagCause.{TagCause}
use Rattle.solv_tags.specs.declared.tag_fault.TagCause.TheVariants as of_tag
use Rattle.solv_script.specs.LineCauses.{cause_of_text, cause_of_tag}
use Rattle.solv_draft.specs.declared.draft_fault.DraftFault.{DraftFault}
use Rattle.solv_draft.specs.declared.draft_fault.DraftFault.TheVariants.{Refused, Memory}

-- this is why nothing is given; memory may run out at any time
abbrev pub IsFault : {A : Type 0} → DraftFault → Result A DraftFault → Type 0
IsFault Memory given = Unit {0}
IsFault fault given = given ≡ Err fault

-- the fault at a line whose dependency or text is refused so, and at a line that the reader of testtags refuses so
abbrev pub fault_of_text : ℕ → DepFault → DraftFault
fault_of_text line of_dep.Memory = Memory
fault_of_text line fault = Refused line (cause_of_text fault)

abbrev pub fault_of_tag : ℕ → TagCause → DraftFault
fault_of_tag line (of_tag.Dep fault) = fault_of_text line fault
fault_of_tag line of_tag.Memory = Memory
fault_of_tag line cause = Refused line (cause_of_tag cause)
