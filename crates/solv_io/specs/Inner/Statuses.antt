-- The exit statuses of the programs.
use Rattle.std.specs.Prelude.{ℕ}
use Rattle.solv_io.specs.declared.status.Status.{Status}
use Rattle.solv_io.specs.declared.status.Status.TheVariants.{Done, Differs, Refused, ReadFault, WriteFault, Spent, Memory, Usage}

-- the exit status of a program
abbrev pub status_number : Status → ℕ
status_number Done = 0
status_number Differs = 1
status_number Refused = 2
status_number ReadFault = 3
status_number WriteFault = 4
status_number Spent = 5
status_number Memory = 6
status_number Usage = 7
