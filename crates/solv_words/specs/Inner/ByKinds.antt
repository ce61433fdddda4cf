-- The words of a command line by the kinds of its arguments, which say the same as their names (proofs/NamedArguments).
use Rattle.std.specs.Prelude.{ℕ, ◌&&◌, not, Bool, true, false, List, [], ◌∷◌, map, take, drop, find, codes, Option, Some, None, is_some, option_map, option_and_then, unwrap_or, if◌then◌else◌}
use Rattle.std.specs.List.{list_all, list_any}
use Rattle.std.specs.Str.{bytes_eq}
use Rattle.solv_words.specs.declared.command_line.Command.{Command}
use Rattle.solv_words.specs.declared.command_line.Output.{Output}
use Rattle.solv_words.specs.declared.command_line.Source.{Source}
use Rattle.solv_words.specs.CommandLine.{is_value, is_number, number_of, output_of, source_of}

-- what an argument gives: `-r` asks for the result lines, `--proof` for proofs and `--write` for the script; `--budget N` and `--grow SEED` have a number; FILE names a script
pub data Kind : Type 0 where
  lines budget proofs written seed file : Kind

abbrev pub is_same : Kind → Kind → Bool
is_same lines lines = true
is_same budget budget = true
is_same proofs proofs = true
is_same written written = true
is_same seed seed = true
is_same file file = true
is_same a b = false

-- an argument with its value, which is empty for `-r`, `--proof` and `--write`
pub record Argument : Type 0 where
  pub kind : Kind
  pub value : List ℕ

abbrev pub argument : Kind → List ℕ → Argument
argument kind value = record { kind = kind; value = value }

-- what a word is, where no option waits for its value: an argument; an option whose value is the next word; `--`, after which each word is a FILE; or unknown
pub data Word : Type 0 where
  whole : Argument → Word
  option : Kind → Word
  end_of_options unknown : Word

abbrev pub word_of : List ℕ → Word
word_of word =
    if bytes_eq word (codes "--") then end_of_options
    else (if bytes_eq word (codes "-r") then whole (argument lines [])
    else (if bytes_eq word (codes "--proof") then whole (argument proofs [])
    else (if bytes_eq word (codes "--write") then whole (argument written [])
    else (if bytes_eq word (codes "--budget") then option budget
    else (if bytes_eq word (codes "--grow") then option seed
    else (if bytes_eq (take 9 word) (codes "--budget=") then whole (argument budget (drop 9 word))
    else (if bytes_eq (take 7 word) (codes "--grow=") then whole (argument seed (drop 7 word))
    else (if is_value word then whole (argument file word) else unknown))))))))

-- the arguments that words are, the first of which may be the value that an option waits for; none where some word is unknown or a value is missing
abbrev pub arguments_from : Option Kind → List (List ℕ) → Option (List Argument)
arguments_from None [] = Some []
arguments_from (Some kind) [] = None
arguments_from (Some kind) (word ∷ words) = if is_value word then option_map (λ behind. argument kind word ∷ behind) (arguments_from None words) else None
arguments_from None (word ∷ words) = elim (word_of word) [
  | whole a ↦ option_map (λ behind. a ∷ behind) (arguments_from None words)
  | option kind ↦ arguments_from (Some kind) words
  | end_of_options ↦ Some (map (argument file) words)
  | unknown ↦ None
]

-- the value of `--budget` and that of `--grow` are numbers in their ranges
abbrev pub is_in_range : Argument → Bool
is_in_range a = elim a.kind [ budget ↦ is_number 1000000 a.value | seed ↦ is_number 4294967295 a.value | other ↦ true ]

-- no two arguments give the same
abbrev pub is_each_once : List Argument → Bool
is_each_once [] = true
is_each_once (a ∷ behind) = not (list_any (λ b. is_same a.kind b.kind) behind) && is_each_once behind

-- the value that an argument gives
abbrev pub value_of : Kind → List Argument → Option (List ℕ)
value_of kind arguments = option_map (λ a. a.value) (find (λ a. is_same kind a.kind) arguments)

abbrev pub is_given : Kind → List Argument → Bool
is_given kind arguments = is_some (value_of kind arguments)

-- the number that an argument gives
abbrev pub number_by : Kind → List Argument → Option ℕ
number_by kind arguments = option_map number_of (value_of kind arguments)

-- the command of arguments that ask for this output, from this source
abbrev pub command_from : List Argument → Output → Source → Command
command_from arguments output source = record {
  shows = is_given lines arguments;
  budget = unwrap_or (number_by budget arguments) 100000;
  output = output;
  source = source;
}

-- the command of arguments, where they ask for one output and name one source
abbrev pub command_by : List Argument → Option Command
command_by arguments =
    option_and_then (λ output. option_map (command_from arguments output) (source_of output (value_of file arguments) (number_by seed arguments)))
    (output_of (is_given proofs arguments) (is_given written arguments))

-- what the words say
abbrev pub command_by_kinds : List (List ℕ) → Option Command
command_by_kinds words =
    option_and_then (λ arguments. if is_each_once arguments && list_all is_in_range arguments then command_by arguments else None) (arguments_from None (drop 1 words))
