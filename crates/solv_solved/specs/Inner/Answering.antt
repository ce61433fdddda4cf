-- What is held where a script was not read. Contracts between functions alone speak of it.
use Rattle.solv_script.specs.declared.scripts.ScriptFault.{ScriptFault}
use Rattle.solv_said.specs.Inner.Faults.{IsFaultDue}
use Rattle.solv_solved.specs.Solvings.{program}
use Rattle.solv_solved.specs.declared.outcomes.Held.{Held}
use Rattle.solv_solved.specs.declared.outcomes.Held.TheVariants.{Answered, Refused, Open}

-- it is what is due for a fault
abbrev pub IsRefusalOf : ScriptFault → Held → Type 0
IsRefusalOf fault (Answered solved) = ⊥
IsRefusalOf fault (Open opened) = ⊥
IsRefusalOf fault (Refused due) = IsFaultDue program fault due
