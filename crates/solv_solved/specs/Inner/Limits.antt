-- What is said of a limit. Contracts between functions alone speak of it.
use Rattle.std.specs.Prelude.{ℕ, ◌≡◌, List}
use Rattle.solv_pool.specs.declared.tasks.Task.{Task}
use Rattle.solv_rules.specs.declared.fault.BookFault.{BookFault}
use Rattle.solv_rules.specs.declared.fault.BookFault.TheVariants.{Memory}
use Rattle.solv_said.specs.Dues.{limit_line}
use Rattle.solv_solved.specs.Solvings.{program}

-- it is the line on this limit; running out of memory is none
abbrev pub IsLimitSaid : Task → BookFault → List ℕ → Type 0
IsLimitSaid task Memory said = ⊥
IsLimitSaid task limit said = said ≡ limit_line program task limit
