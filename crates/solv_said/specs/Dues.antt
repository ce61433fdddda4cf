-- What is due at the end of a run, where programs share it: a status, and one line on `err` after the program's name.
use Rattle.std.specs.Prelude.{ℕ, List, [], ◌++◌, codes}
use Rattle.std.specs.Fmt.{decimal}
use Rattle.solv_io.specs.declared.status.Status.{Status}
use Rattle.solv_io.specs.declared.status.Status.TheVariants as status
use Rattle.solv_commands.specs.Causes.{cause_name}
use Rattle.solv_pool.specs.PackageText.{package_text}
use Rattle.solv_pool.specs.declared.tasks.Task.{Task}
use Rattle.solv_rules.specs.declared.fault.BookFault.{BookFault}
use Rattle.solv_rules.specs.declared.fault.BookFault.TheVariants.{TooRich, TooManyWords, Memory}
use Rattle.solv_script.specs.Grammar.{Bad}
use Rattle.solv_said.specs.declared.dues.Due.{Due}

-- one line, and nothing else
abbrev pub line_due : Status → List ℕ → Due
line_due status line = record { status = status; out = []; err = line }

module _ (program : List ℕ) where
  -- a file that cannot be read
  abbrev pub read_fault_due : List ℕ → Due
  read_fault_due file = line_due status.ReadFault (program ++ (codes ": cannot read " ++ (file ++ codes "\n")))

  -- what is wrong at a line of a file: the file, the line's number and the name of the cause
  abbrev pub line_at : List ℕ → ℕ → List ℕ → List ℕ
  line_at file line cause = program ++ (codes ": " ++ (file ++ (codes ":" ++ (decimal line ++ (codes ": " ++ (cause ++ codes "\n"))))))

  -- a bad line of a script, or of a file that it names
  abbrev pub bad_line_due : Bad → Due
  bad_line_due b = line_due status.Refused (line_at b.file b.line (cause_name b.cause))

  -- a limit that the clauses of a task pass
  abbrev pub limit_line : Task → BookFault → List ℕ
  limit_line task (TooRich pack dep count) = program ++ (codes ": " ++ (package_text task.pool task.universe pack ++ (codes ": TooRich " ++ (decimal count ++ codes "\n"))))
  limit_line task (TooManyWords words) = program ++ (codes ": TooManyWords " ++ (decimal words ++ codes "\n"))
  limit_line task Memory = []

  abbrev pub limit_due : Task → BookFault → Due
  limit_due task fault = line_due status.Refused (limit_line task fault)
