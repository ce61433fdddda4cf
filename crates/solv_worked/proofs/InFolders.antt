-- What scripts with files give, and the files that are due, line by line.
use Rattle.std.proofs.Common.{◌≡◌, ℕ, List, length, codes, Result}
use Rattle.solv_io.specs.Lines.{lines_of}
use Rattle.solv_commands.specs.Commands.{and_then}
use Rattle.solv_script.specs.Grammar.{Bad}
use Rattle.solv_script.specs.Inner.LineRows.{begun, due_behind, lines_due, lines_given}
use Rattle.solv_script.specs.ScriptLines.{script_lines}
use Rattle.solv_script.specs.States.{State}
use Rattle.solv_script.proofs.RowsInTurn.{due_in_turn, given_in_turn}
use Rattle.solv_worked.specs.Scripts.{due_in_folder, given_in_folder}

abbrev pub given_by_rows : List (List ℕ) → List ℕ → Result State Bad
given_by_rows fetched text = and_then (begun (codes "d/case.t") (length text)) (λ s. lines_given (codes "d/case.t") s (script_lines 1 (lines_of text)) fetched)

abbrev pub due_by_rows : List (List ℕ) → List ℕ → List (List ℕ)
due_by_rows fetched text = due_behind (begun (codes "d/case.t") (length text)) (λ s. lines_due (codes "d/case.t") s (script_lines 1 (lines_of text)) fetched)

pub due_is : (fetched : List (List ℕ)) (text : List ℕ) → due_in_folder fetched text ≡ due_by_rows fetched text
due_is fetched text = due_in_turn (codes "d/case.t") text fetched

pub given_is : (fetched : List (List ℕ)) (text : List ℕ) → given_in_folder fetched text ≡ given_by_rows fetched text
given_is fetched text = given_in_turn (codes "d/case.t") text fetched
