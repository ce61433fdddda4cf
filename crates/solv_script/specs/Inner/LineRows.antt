-- What a line gives, by the names of its parts: a row. What a script gives is what its rows give in turn (proofs/RowsInTurn).
use Rattle.std.specs.Prelude.{ℕ, ◌-◌, List, [], ◌∷◌, ◌++◌, map, drop, length, Option, Some, None, Result, Ok, Err, if◌then◌else◌}
use Rattle.std.specs.Option.{option_map}
use Rattle.std.specs.Str.{bytes_eq, is_utf8}
use Rattle.solv_io.specs.Lines.{numbered_lines}
use Rattle.solv_tags.specs.Testtags.{testtags}
use Rattle.solv_commands.specs.Commands.{Command, and_then, repo, results, command}
use Rattle.solv_commands.specs.declared.causes.Cause.{Cause}
use Rattle.solv_commands.specs.declared.causes.Cause.TheVariants.{AfterNextjob, Compressed, BadFileName}
use Rattle.solv_script.specs.FileNames.{fetched_name, is_compressed}
use Rattle.solv_script.specs.Grammar.{Bad, counted, inline, repository_given}
use Rattle.solv_script.specs.Results.{expected}
use Rattle.solv_script.specs.Rows.{is_too_late, plain_row}
use Rattle.solv_script.specs.ScriptLines.{ScriptLine, own_words}
use Rattle.solv_script.specs.States.{State, no_line}

-- what a line gives: at once, or when the bytes of a file are there, which is asked for by its name
pub data Row : Type 0 where
  done : Result State Bad → Row
  asks : List ℕ → (List ℕ → Result State Bad) → Row

-- what a file is for that a line names: its lines are the packages of the last repository, or what is expected of the result
pub data Purpose : Type 0 where
  of_packages of_result : Purpose

-- these numbered lines are there for this purpose
abbrev pub with_lines : Purpose → State → List ℕ → List (ℕ × List ℕ) → Result State Bad
with_lines of_packages s file lines = repository_given s file (testtags s.held (length s.task.packages) (length s.task.repos - 1) lines)
with_lines of_result s file lines = Ok (record s { wanted = Some (expected (map (λ line. line.1) lines)) })

-- a file that a line names, and what it is for
pub record Named : Type 0 where
  pub purpose : Purpose
  pub file : List ℕ

-- the file that a command names, if any
abbrev pub file_named : Command → Option Named
file_named (repo text priority file) = option_map (λ name. record { purpose = of_packages; file = name }) file
file_named (results kinds file) = Some (record { purpose = of_result; file = file })
file_named c = None

-- the bytes of the file that is fetched next, of those that are fetched in this order; where there are none, it is empty
abbrev pub next_bytes : List (List ℕ) → List ℕ
next_bytes [] = []
next_bytes (bytes ∷ others) = bytes

-- what a line gives where files with these bytes are fetched
abbrev pub answered : List (List ℕ) → Row → Result State Bad
answered fetched (done given) = given
answered fetched (asks name next) = next (next_bytes fetched)

-- the files that are fetched after a line
abbrev pub fetched_behind : List (List ℕ) → Row → List (List ℕ)
fetched_behind fetched (done given) = fetched
fetched_behind fetched (asks name next) = drop 1 fetched

-- the name that a line asks for, if any
abbrev pub asked_by : Row → List (List ℕ)
asked_by (done given) = []
asked_by (asks name next) = name ∷ []

-- what follows a line that is not bad so far
abbrev pub then_row : Result State Bad → (State → Row) → Row
then_row (Ok s) next = next s
then_row (Err b) next = done (Err b)

-- the names after a line that is not bad
abbrev pub due_behind : Result State Bad → (State → List (List ℕ)) → List (List ℕ)
due_behind (Ok s) due = due s
due_behind (Err b) due = []

module _ (script : List ℕ) where
  -- what a line of the script gives
  abbrev pub at_line : ℕ → Result State Cause → Result State Bad
  at_line n (Ok s) = Ok s
  at_line n (Err c) = Err (record { file = script; line = n; cause = c })

  module _ (purpose : Purpose) where
    -- the lines of a file with these bytes
    abbrev pub fetched_given : State → ℕ → List ℕ → List ℕ → Result State Bad
    fetched_given s n file bytes = and_then (at_line n (counted s (length bytes))) (λ t. with_lines purpose t file (numbered_lines bytes))

    -- the lines of a file: the causes before it is fetched, and what its bytes give
    abbrev pub file_row : State → ℕ → List ℕ → Row
    file_row s n file =
        if is_compressed file then done (at_line n (Err Compressed))
        else (if is_utf8 file then asks (fetched_name script file) (fetched_given s n (fetched_name script file))
        else done (at_line n (Err BadFileName)))

  -- the lines of the file that is named, if one is, or those that follow
  abbrev pub lines_row : State → ScriptLine → Option Named → Row
  lines_row s line None = done (Ok s)
  lines_row s line (Some named) = if bytes_eq named.file inline then done (with_lines named.purpose s script line.block) else file_row named.purpose s line.number named.file

  -- a command, and then the lines of the file that it names
  abbrev pub command_row : State → ScriptLine → Command → Row
  command_row s line c = then_row (at_line line.number (plain_row s c)) (λ t. lines_row t line (file_named c))

  -- what a line says, or its cause
  abbrev pub said_row : State → ScriptLine → Result Command Cause → Row
  said_row s line (Ok c) = command_row s line c
  said_row s line (Err c) = done (at_line line.number (Err c))

  -- the words of a line; a comment has none. That a line of packages comes after `nextjob` is tried first
  abbrev pub words_row : State → ScriptLine → List (List ℕ) → Row
  words_row s line [] = done (Ok s)
  words_row s line (first ∷ words) = if is_too_late s first then done (at_line line.number (Err AfterNextjob)) else said_row s line (command first words)

  -- a line
  abbrev pub row : State → ScriptLine → Row
  row s line = words_row s line (own_words line.text)

  -- before the first line, of a script of so many bytes: its own size is tried at line 1, before the causes of that line
  abbrev pub begun : ℕ → Result State Bad
  begun size = at_line 1 (counted no_line size)

  -- what lines give where files with these bytes are fetched in this order, or the first bad one
  abbrev pub lines_given : State → List ScriptLine → List (List ℕ) → Result State Bad
  lines_given s [] fetched = Ok s
  lines_given s (line ∷ others) fetched = and_then (answered fetched (row s line)) (λ t. lines_given t others (fetched_behind fetched (row s line)))

  -- the names that lines ask for, up to the first bad one; a name that stands twice is asked for twice
  abbrev pub lines_due : State → List ScriptLine → List (List ℕ) → List (List ℕ)
  lines_due s [] fetched = []
  lines_due s (line ∷ others) fetched = asked_by (row s line) ++ due_behind (answered fetched (row s line)) (λ t. lines_due t others (fetched_behind fetched (row s line)))
