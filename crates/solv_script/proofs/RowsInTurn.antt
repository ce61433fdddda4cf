-- What a script gives is what its rows give in turn.
use Rattle.std.proofs.Common.{◌≡◌, ℕ, Bool, true, false, List, [], ◌∷◌, ◌++◌, length, Some, None, Result, Ok, Err, refl, ap, ◌∙◌}
use Rattle.std.proofs.Math.Path.{fun_ext}
use Rattle.std.specs.Prelude.{if◌then◌else◌}
use Rattle.std.specs.Option.{option_map_or}
use Rattle.std.specs.Str.{bytes_eq, is_utf8}
use Rattle.solv_io.specs.Lines.{lines_of, numbered_lines}
use Rattle.solv_commands.specs.Commands.{Command, and_then, repo, system, solverflags, namespace, disable, evrcmp, results, job, next_round, command}
use Rattle.solv_commands.specs.declared.causes.Cause.{Cause}
use Rattle.solv_commands.specs.declared.causes.Cause.TheVariants.{AfterNextjob, Compressed, BadFileName}
use Rattle.solv_script.specs.FileNames.{fetched_name, is_compressed}
use Rattle.solv_script.specs.Grammar.{Bad, Reading, counted, done, asks, inline, lines_for, then_read, unless_bad, file_read, words_read, lines_read, given_by, due_by, script_read, script_due}
use Rattle.solv_script.specs.Grammar as grammar
use Rattle.solv_script.specs.Inner.LineRows as rows
use Rattle.solv_script.specs.Inner.LineRows.{Row, Purpose, of_packages, of_result, with_lines, answered, fetched_behind, asked_by, then_row, due_behind, at_line, fetched_given, lines_row, command_row, said_row, words_row, row, begun, lines_given, lines_due}
use Rattle.solv_script.specs.Rows.{is_too_late, plain_row}
use Rattle.solv_script.specs.ScriptLines.{ScriptLine, script_lines, own_words}
use Rattle.solv_script.specs.States.{State, no_line}

-- a row as what is read
abbrev read_of : Row → Reading
read_of (rows.done given) = done given
read_of (rows.asks name next) = asks name (λ bytes. done (next bytes))

module _ (script : List ℕ) where
  fetched_is : (c : Command) (purpose : Purpose) → ((s : State) (file : List ℕ) (ls : List (ℕ × List ℕ)) → lines_for c s file ls ≡ with_lines purpose s file ls) → (s : State) (n : ℕ) (name bytes : List ℕ)
      → unless_bad script n (counted s (length bytes)) (λ t. done (lines_for c t name (numbered_lines bytes))) ≡ done (fetched_given script purpose s n name bytes)
  fetched_is c purpose same s n name bytes = by (counted s (length bytes))
    where
      by : (r : Result State Cause) → unless_bad script n r (λ t. done (lines_for c t name (numbered_lines bytes))) ≡ done (and_then (at_line script n r) (λ t. with_lines purpose t name (numbered_lines bytes)))
      by (Ok t) = ap done (same t name (numbered_lines bytes))
      by (Err x) = refl

  file_is : (c : Command) (purpose : Purpose) → ((s : State) (file : List ℕ) (ls : List (ℕ × List ℕ)) → lines_for c s file ls ≡ with_lines purpose s file ls) → (s : State) (line : ScriptLine) (file : List ℕ)
      → file_read script s line c file ≡ read_of (lines_row script s line (Some (record { purpose = purpose; file = file })))
  file_is c purpose same s line file = by (bytes_eq file inline) (is_compressed file) (is_utf8 file)
    where
      name : List ℕ
      name = fetched_name script file

      by : (here compressed utf8 : Bool)
          → (if here then done (lines_for c s script line.block) else unless_bad script line.number (if compressed then Err Compressed else (if utf8 then Ok name else Err BadFileName)) (λ name. asks name (λ bytes. unless_bad script line.number (counted s (length bytes)) (λ t. done (lines_for c t name (numbered_lines bytes))))))
          ≡ read_of (if here then rows.done (with_lines purpose s script line.block) else (if compressed then rows.done (at_line script line.number (Err Compressed)) else (if utf8 then rows.asks name (fetched_given script purpose s line.number name) else rows.done (at_line script line.number (Err BadFileName)))))
      by true x y = ap done (same s script line.block)
      by false true y = refl
      by false false true = ap (asks name) (fun_ext (λ bytes. fetched_is c purpose same s line.number name bytes))
      by false false false = refl

  command_is : (s : State) (line : ScriptLine) (c : Command) → option_map_or (file_read script s line c) (grammar.file_named c) (done (Ok s)) ≡ read_of (lines_row script s line (rows.file_named c))
  command_is s line (repo text priority None) = refl
  command_is s line (repo text priority (Some file)) = file_is (repo text priority (Some file)) of_packages (λ t f ls. refl) s line file
  command_is s line (results kinds file) = file_is (results kinds file) of_result (λ t f ls. refl) s line file
  command_is s line (system arch type name) = refl
  command_is s line (solverflags words) = refl
  command_is s line (namespace name words) = refl
  command_is s line (disable text) = refl
  command_is s line (evrcmp left op right) = refl
  command_is s line (job action asked flags text) = refl
  command_is s line next_round = refl

  plain_is : (s : State) (line : ScriptLine) (c : Command) → unless_bad script line.number (plain_row s c) (λ t. option_map_or (file_read script t line c) (grammar.file_named c) (done (Ok t))) ≡ read_of (command_row script s line c)
  plain_is s line c = by (plain_row s c)
    where
      by : (r : Result State Cause) → unless_bad script line.number r (λ t. option_map_or (file_read script t line c) (grammar.file_named c) (done (Ok t))) ≡ read_of (then_row (at_line script line.number r) (λ t. lines_row script t line (rows.file_named c)))
      by (Ok t) = command_is t line c
      by (Err x) = refl

  words_are : (s : State) (line : ScriptLine) (words : List (List ℕ)) → words_read script s line words ≡ read_of (words_row script s line words)
  words_are s line [] = refl
  words_are s line (first ∷ words) = by (is_too_late s first) (command first words) _ (plain_is s line)
    where
      by : (late : Bool) (r : Result Command Cause) (next : Command → Reading) → ((c : Command) → next c ≡ read_of (command_row script s line c))
          → unless_bad script line.number (if late then Err AfterNextjob else r) next ≡ read_of (if late then rows.done (at_line script line.number (Err AfterNextjob)) else said_row script s line r)
      by true r next same = refl
      by false (Ok c) next same = same c
      by false (Err x) next same = refl

  module _ (next : State → Reading) where
    then_given : (r : Row) (fetched : List (List ℕ)) → given_by fetched (then_read (read_of r) next) ≡ and_then (answered fetched r) (λ t. given_by (fetched_behind fetched r) (next t))
    then_given (rows.done (Ok s)) fetched = refl
    then_given (rows.done (Err b)) fetched = refl
    then_given (rows.asks name get) [] = by (get [])
      where
        by : (r : Result State Bad) → given_by [] (then_read (done r) next) ≡ and_then r (λ t. given_by [] (next t))
        by (Ok s) = refl
        by (Err b) = refl
    then_given (rows.asks name get) (bytes ∷ others) = by (get bytes)
      where
        by : (r : Result State Bad) → given_by others (then_read (done r) next) ≡ and_then r (λ t. given_by others (next t))
        by (Ok s) = refl
        by (Err b) = refl

    then_due : (r : Row) (fetched : List (List ℕ)) → due_by fetched (then_read (read_of r) next) ≡ asked_by r ++ due_behind (answered fetched r) (λ t. due_by (fetched_behind fetched r) (next t))
    then_due (rows.done (Ok s)) fetched = refl
    then_due (rows.done (Err b)) fetched = refl
    then_due (rows.asks name get) [] = by (get [])
      where
        by : (r : Result State Bad) → name ∷ due_by [] (then_read (done r) next) ≡ name ∷ due_behind r (λ t. due_by [] (next t))
        by (Ok s) = refl
        by (Err b) = refl
    then_due (rows.asks name get) (bytes ∷ others) = by (get bytes)
      where
        by : (r : Result State Bad) → name ∷ due_by others (then_read (done r) next) ≡ name ∷ due_behind r (λ t. due_by others (next t))
        by (Ok s) = refl
        by (Err b) = refl

  lines_given_are : (lines : List ScriptLine) (s : State) (fetched : List (List ℕ)) → given_by fetched (lines_read script s lines) ≡ lines_given script s lines fetched
  lines_given_are [] s fetched = refl
  lines_given_are (line ∷ others) s fetched =
      ap (λ r. given_by fetched (then_read r (λ t. lines_read script t others))) (words_are s line (own_words line.text))
      ∙ then_given (λ t. lines_read script t others) (row script s line) fetched
      ∙ ap (and_then (answered fetched (row script s line))) (fun_ext (λ t. lines_given_are others t (fetched_behind fetched (row script s line))))

  lines_due_are : (lines : List ScriptLine) (s : State) (fetched : List (List ℕ)) → due_by fetched (lines_read script s lines) ≡ lines_due script s lines fetched
  lines_due_are [] s fetched = refl
  lines_due_are (line ∷ others) s fetched =
      ap (λ r. due_by fetched (then_read r (λ t. lines_read script t others))) (words_are s line (own_words line.text))
      ∙ then_due (λ t. lines_read script t others) (row script s line) fetched
      ∙ ap (λ due. asked_by (row script s line) ++ due_behind (answered fetched (row script s line)) due) (fun_ext (λ t. lines_due_are others t (fetched_behind fetched (row script s line))))

  -- what a script gives, and the names that are due, by its rows
  pub given_in_turn : (bytes : List ℕ) (fetched : List (List ℕ)) → script_read script fetched bytes ≡ and_then (begun script (length bytes)) (λ s. lines_given script s (script_lines 1 (lines_of bytes)) fetched)
  given_in_turn bytes fetched = by (counted no_line (length bytes))
    where
      by : (r : Result State Cause) → given_by fetched (unless_bad script 1 r (λ s. lines_read script s (script_lines 1 (lines_of bytes)))) ≡ and_then (at_line script 1 r) (λ s. lines_given script s (script_lines 1 (lines_of bytes)) fetched)
      by (Ok s) = lines_given_are (script_lines 1 (lines_of bytes)) s fetched
      by (Err x) = refl

  pub due_in_turn : (bytes : List ℕ) (fetched : List (List ℕ)) → script_due script fetched bytes ≡ due_behind (begun script (length bytes)) (λ s. lines_due script s (script_lines 1 (lines_of bytes)) fetched)
  due_in_turn bytes fetched = by (counted no_line (length bytes))
    where
      by : (r : Result State Cause) → due_by fetched (unless_bad script 1 r (λ s. lines_read script s (script_lines 1 (lines_of bytes)))) ≡ due_behind (at_line script 1 r) (λ s. lines_due script s (script_lines 1 (lines_of bytes)) fetched)
      by (Ok s) = lines_due_are (script_lines 1 (lines_of bytes)) s fetched
      by (Err x) = refl
