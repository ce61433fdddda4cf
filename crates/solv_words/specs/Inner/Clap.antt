-- The form of a command line, and the arguments of one, as `clap` sees them.
use Rattle.std.specs.Prelude.{◌≡◌, true, None, pos, List, [], ◌∷◌, map, codes, Some, None}
use Rattle.clap.specs.Walk.{Row, Rule, Text, rows_of, with_default}
use Rattle.clap.specs.Matches.{found_of}
use Rattle.clap.specs.Simple.{App, new_app, new_rule, with_rule}
use Rattle.clap.specs.declared.builder.action.ArgAction.TheVariants.{SetTrue}
use Rattle.clap.specs.declared.builder.value_parser.Reading.{Reading}
use Rattle.clap.specs.declared.builder.value_parser.Reading.TheVariants.{AsWritten, WithoutMinus}
use Rattle.clap.specs.declared.builder.value_parser.ValueParser.TheVariants.{Signed}
use Rattle.clap.specs.declared.parser.matches.ArgMatches.{ArgMatches}
use Rattle.clap.specs.declared.parser.matches.ValueSource.TheVariants.{CommandLine}
use Rattle.clap.specs.Simple as simple
use Rattle.solv_words.specs.Inner.ByKinds.{Argument, Kind, lines, budget, proofs, written, seed, file}

abbrev pub id_of : Kind → Text
id_of lines = codes "lines"
id_of budget = codes "budget"
id_of proofs = codes "proof"
id_of written = codes "write"
id_of seed = codes "grow"
id_of file = codes "FILE"

-- what `clap` is given of an argument of each kind
abbrev pub told_of : Kind → Rule
told_of lines = record (new_rule (codes "lines")) { short = Some 114; action = Some SetTrue }
told_of budget = record (new_rule (codes "budget")) { long = Some (codes "budget"); parser = Some (Signed (pos 0) (pos 1000000)) }
told_of proofs = record (new_rule (codes "proof")) { long = Some (codes "proof"); action = Some SetTrue }
told_of written = record (new_rule (codes "write")) { long = Some (codes "write"); action = Some SetTrue }
told_of seed = record (new_rule (codes "grow")) { long = Some (codes "grow"); parser = Some (Signed (pos 0) (pos 4294967295)) }
told_of file = new_rule (codes "FILE")

abbrev pub without_help : App
without_help = record (new_app (codes "testsolv")) { top = record (new_app (codes "testsolv")).top { disable_help_flag = true } }

abbrev pub form : App
form = with_rule (with_rule (with_rule (with_rule (with_rule (with_rule without_help (told_of lines)) (told_of budget)) (told_of proofs)) (told_of written)) (told_of seed)) (told_of file)

-- the same, as a parse reads them
abbrev pub rules : List Rule
rules = (simple.built form).top.rules

-- the row of an argument
abbrev pub reading_of_kind : Kind → Reading
reading_of_kind lines = AsWritten
reading_of_kind budget = WithoutMinus
reading_of_kind proofs = AsWritten
reading_of_kind written = AsWritten
reading_of_kind seed = WithoutMinus
reading_of_kind file = AsWritten

abbrev pub values_of : Argument → List Text
values_of a = elim a.kind [
  | lines ↦ codes "true" ∷ []
  | budget ↦ a.value ∷ []
  | proofs ↦ codes "true" ∷ []
  | written ↦ codes "true" ∷ []
  | seed ↦ a.value ∷ []
  | file ↦ a.value ∷ []
]

abbrev pub row_of : Argument → Row
row_of a = record { id = id_of a.kind; values = values_of a; count = None; source = Some CommandLine; reading = reading_of_kind a.kind }

abbrev pub rows_by : List Argument → List Row
rows_by arguments = map row_of arguments

-- the rows of arguments, and of each flag that is not given
abbrev pub rows_with_flags : List Argument → List Row
rows_with_flags arguments = with_default (with_default (with_default (rows_by arguments) (simple.filled (told_of lines))) (simple.filled (told_of proofs))) (simple.filled (told_of written))

-- the matches are those of these arguments
abbrev pub HasRows : List Argument → ArgMatches → Type 0
HasRows arguments matches = rows_of (found_of matches) ≡ rows_with_flags arguments
