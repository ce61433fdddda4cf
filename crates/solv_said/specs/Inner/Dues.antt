-- What is due for words that are not of the form, and the line on a file that cannot be read. Contracts between layers alone speak of it.
use Rattle.std.specs.Prelude.{ℕ, List, ◌++◌, codes}
use Rattle.solv_io.specs.declared.status.Status.TheVariants as status
use Rattle.solv_said.specs.Dues.{line_due}
use Rattle.solv_said.specs.declared.dues.Due.{Due}

-- words that are not of the form that this line shows
abbrev pub usage_due : List ℕ → Due
usage_due usage = line_due status.Usage usage

-- a file that cannot be read, after the program's name
abbrev pub read_fault_line : List ℕ → List ℕ → List ℕ
read_fault_line program file = program ++ (codes ": cannot read " ++ (file ++ codes "\n"))
