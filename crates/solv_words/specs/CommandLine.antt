-- The words of a command line: `testsolv [-r] [--budget N] [--proof] [--write] [--grow SEED] FILE`.
use Rattle.std.specs.Prelude.{ℕ, ◌==◌, ◌&&◌, ◌||◌, not, Bool, true, false, List, [], ◌∷◌, map, take, drop, length, find, codes, nat_lt, nat_le, Option, Some, None, is_some, option_map, option_and_then, unwrap_or, if◌then◌else◌}
use Rattle.std.specs.Char.{digit_value}
use Rattle.std.specs.List.{list_all, list_any}
use Rattle.std.specs.Str.{bytes_eq}
use Rattle.std.specs.Str.Parse.{digits_value, starts_with_minus, without_leading_sign}
use Rattle.solv_words.specs.declared.command_line.Command.{Command}
use Rattle.solv_words.specs.declared.command_line.Output.{Output}
use Rattle.solv_words.specs.declared.command_line.Output.TheVariants.{Lines, Proofs, Script}
use Rattle.solv_words.specs.declared.command_line.Source.{Source}
use Rattle.solv_words.specs.declared.command_line.Source.TheVariants.{File, Seed}

-- an argument: the name of its option, which is empty for FILE, and its value, which is empty for `-r`, `--proof` and `--write`
pub record Argument : Type 0 where
  pub name : List ℕ
  pub value : List ℕ

abbrev pub argument : List ℕ → List ℕ → Argument
argument name value = record { name = name; value = value }

-- what a word is, where no option waits for its value: an argument; an option whose value is the next word; `--`, after which each word is a FILE; or unknown
pub data Word : Type 0 where
  whole : Argument → Word
  option : List ℕ → Word
  end_of_options unknown : Word

-- a word that may be a value or a FILE: it does not begin with `-`, or is `-`
abbrev pub is_value : List ℕ → Bool
is_value word = not (bytes_eq (take 1 word) (codes "-")) || bytes_eq word (codes "-")

abbrev pub word_of : List ℕ → Word
word_of word =
    if bytes_eq word (codes "--") then end_of_options
    else (if list_any (bytes_eq word) (codes "-r" ∷ codes "--proof" ∷ codes "--write" ∷ []) then whole (argument word [])
    else (if list_any (bytes_eq word) (codes "--budget" ∷ codes "--grow" ∷ []) then option word
    else (if bytes_eq (take 9 word) (codes "--budget=") then whole (argument (codes "--budget") (drop 9 word))
    else (if bytes_eq (take 7 word) (codes "--grow=") then whole (argument (codes "--grow") (drop 7 word))
    else (if is_value word then whole (argument [] word) else unknown)))))

-- the arguments that words are, the first of which may be the value that an option waits for; none where some word is unknown or a value is missing
abbrev pub arguments_from : Option (List ℕ) → List (List ℕ) → Option (List Argument)
arguments_from None [] = Some []
arguments_from (Some name) [] = None
arguments_from (Some name) (word ∷ words) = if is_value word then option_map (λ behind. argument name word ∷ behind) (arguments_from None words) else None
arguments_from None (word ∷ words) = elim (word_of word) [
  | whole a ↦ option_map (λ behind. a ∷ behind) (arguments_from None words)
  | option name ↦ arguments_from (Some name) words
  | end_of_options ↦ Some (map (argument []) words)
  | unknown ↦ None
]

-- a number as it may be written: digits, after a sign or none
abbrev pub number_of : List ℕ → ℕ
number_of text = digits_value 10 (without_leading_sign text)

abbrev pub are_digits : List ℕ → Bool
are_digits text = nat_lt 0 (length text) && list_all (λ d. nat_lt (digit_value d) 10) text

-- it is one, up to a most, and only 0 has the sign `-`
abbrev pub is_number : ℕ → List ℕ → Bool
is_number most text = are_digits (without_leading_sign text) && (nat_le (number_of text) most && (not (starts_with_minus text) || number_of text == 0))

-- the value of `--budget` and that of `--grow` are numbers in their ranges
abbrev pub is_in_range : Argument → Bool
is_in_range a =
    if bytes_eq a.name (codes "--budget") then is_number 1000000 a.value else (if bytes_eq a.name (codes "--grow") then is_number 4294967295 a.value else true)

-- no two arguments give the same
abbrev pub is_each_once : List Argument → Bool
is_each_once [] = true
is_each_once (a ∷ behind) = not (list_any (λ b. bytes_eq a.name b.name) behind) && is_each_once behind

-- the value that the argument of this name gives
abbrev pub value_of : List ℕ → List Argument → Option (List ℕ)
value_of name arguments = option_map (λ a. a.value) (find (λ a. bytes_eq name a.name) arguments)

-- what is printed: result lines, or proofs where `--proof` is given, or the script where `--write` is; not both
abbrev pub output_of : Bool → Bool → Option Output
output_of false false = Some Lines
output_of true false = Some Proofs
output_of false true = Some Script
output_of true true = None

-- either a FILE, or a seed, of which lines alone are printed
abbrev pub source_of : Output → Option (List ℕ) → Option ℕ → Option Source
source_of output (Some name) None = Some (File name)
source_of Lines None (Some number) = Some (Seed number)
source_of output named grown = None

-- the command of arguments that ask for this output, from this source: `-r` asks for result lines
abbrev pub command_from : List Argument → Output → Source → Command
command_from arguments output source = record {
  shows = is_some (value_of (codes "-r") arguments);
  budget = unwrap_or (option_map number_of (value_of (codes "--budget") arguments)) 100000;
  output = output;
  source = source;
}

-- the command of arguments, where they ask for one output and name one source
abbrev pub command_by : List Argument → Option Command
command_by arguments =
    option_and_then (λ output. option_map (command_from arguments output) (source_of output (value_of [] arguments) (option_map number_of (value_of (codes "--grow") arguments))))
    (output_of (is_some (value_of (codes "--proof") arguments)) (is_some (value_of (codes "--write") arguments)))

-- What the words say, the first of which is the program's name. Each argument is given at most once, in any order, with a number in its range; and either FILE
-- or a seed. Of `--proof`, `--write` and a seed only one stands. Without `--budget` the budget is 100000.
abbrev pub command_of : List (List ℕ) → Option Command
command_of words =
    option_and_then (λ arguments. if is_each_once arguments && list_all is_in_range arguments then command_by arguments else None) (arguments_from None (drop 1 words))
