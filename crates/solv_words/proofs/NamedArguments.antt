-- What words say by the names of options is what they say by the kinds of arguments.
use Rattle.std.proofs.Common.{◌≡◌, ◌∙◌, ℕ, ◌&&◌, ◌||◌, Bool, true, false, not, refl, ap, ap₂, List, [], ◌∷◌, map, take, drop, cond, codes, Option, Some, None}
use Rattle.std.specs.Prelude.{find, option_map, option_and_then, is_some, unwrap_or, if◌then◌else◌}
use Rattle.std.specs.List.{list_all, list_any}
use Rattle.std.specs.Str.{bytes_eq}
use Rattle.solv_list.proofs.Lists.{same_bytes}
use Rattle.solv_words.specs.declared.command_line.Command.{Command}
use Rattle.solv_words.specs.CommandLine.{Argument, Word, argument, arguments_from, command_by, command_of, end_of_options, is_each_once, is_in_range, is_value, number_of, option, output_of, source_of, unknown, value_of, whole, word_of}
use Rattle.solv_words.specs.Inner.ByKinds as kinds
use Rattle.solv_words.specs.Inner.ByKinds.{Kind, budget, command_by_kinds, file, is_same, lines, proofs, seed, written}

-- the name of the option of each kind
abbrev option_name : Kind → List ℕ
option_name lines = codes "-r"
option_name budget = codes "--budget"
option_name proofs = codes "--proof"
option_name written = codes "--write"
option_name seed = codes "--grow"
option_name file = []

abbrev named : kinds.Argument → Argument
named a = argument (option_name a.kind) a.value

abbrev word_named : kinds.Word → Word
word_named (kinds.whole a) = whole (named a)
word_named (kinds.option kind) = option (option_name kind)
word_named kinds.end_of_options = end_of_options
word_named kinds.unknown = unknown

same_name : (a b : Kind) → bytes_eq (option_name a) (option_name b) ≡ is_same a b
same_name lines lines = refl
same_name lines budget = refl
same_name lines proofs = refl
same_name lines written = refl
same_name lines seed = refl
same_name lines file = refl
same_name budget lines = refl
same_name budget budget = refl
same_name budget proofs = refl
same_name budget written = refl
same_name budget seed = refl
same_name budget file = refl
same_name proofs lines = refl
same_name proofs budget = refl
same_name proofs proofs = refl
same_name proofs written = refl
same_name proofs seed = refl
same_name proofs file = refl
same_name written lines = refl
same_name written budget = refl
same_name written proofs = refl
same_name written written = refl
same_name written seed = refl
same_name written file = refl
same_name seed lines = refl
same_name seed budget = refl
same_name seed proofs = refl
same_name seed written = refl
same_name seed seed = refl
same_name seed file = refl
same_name file lines = refl
same_name file budget = refl
same_name file proofs = refl
same_name file written = refl
same_name file seed = refl
same_name file file = refl

-- ---- words

word_is : (word : List ℕ) → word_of word ≡ word_named (kinds.word_of word)
word_is word =
    by (bytes_eq word (codes "--")) (bytes_eq word (codes "-r")) (bytes_eq word (codes "--proof")) (bytes_eq word (codes "--write")) (bytes_eq word (codes "--budget")) (bytes_eq word (codes "--grow"))
    (bytes_eq (take 9 word) (codes "--budget=")) (bytes_eq (take 7 word) (codes "--grow=")) (is_value word)
    (same_bytes word (codes "-r")) (same_bytes word (codes "--proof")) (same_bytes word (codes "--write")) (same_bytes word (codes "--budget")) (same_bytes word (codes "--grow"))
  where
    by : (ends r proof write budgets grow budget_is grow_is value : Bool)
        → (r ≡ true → word ≡ codes "-r") → (proof ≡ true → word ≡ codes "--proof") → (write ≡ true → word ≡ codes "--write") → (budgets ≡ true → word ≡ codes "--budget") → (grow ≡ true → word ≡ codes "--grow")
        → (if ends then end_of_options
        else (if r || (proof || (write || false)) then whole (argument word [])
        else (if budgets || (grow || false) then option word
        else (if budget_is then whole (argument (codes "--budget") (drop 9 word))
        else (if grow_is then whole (argument (codes "--grow") (drop 7 word))
        else (if value then whole (argument [] word) else unknown))))))
        ≡ word_named (if ends then kinds.end_of_options
        else (if r then kinds.whole (kinds.argument lines [])
        else (if proof then kinds.whole (kinds.argument proofs [])
        else (if write then kinds.whole (kinds.argument written [])
        else (if budgets then kinds.option budget
        else (if grow then kinds.option seed
        else (if budget_is then kinds.whole (kinds.argument budget (drop 9 word))
        else (if grow_is then kinds.whole (kinds.argument seed (drop 7 word))
        else (if value then kinds.whole (kinds.argument file word) else kinds.unknown)))))))))
    by true r p w b g t u v hr hp hw hb hg = refl
    by false true p w b g t u v hr hp hw hb hg = ap (λ name. whole (argument name [])) (hr refl)
    by false false true w b g t u v hr hp hw hb hg = ap (λ name. whole (argument name [])) (hp refl)
    by false false false true b g t u v hr hp hw hb hg = ap (λ name. whole (argument name [])) (hw refl)
    by false false false false true g t u v hr hp hw hb hg = ap option (hb refl)
    by false false false false false true t u v hr hp hw hb hg = ap option (hg refl)
    by false false false false false false true u v hr hp hw hb hg = refl
    by false false false false false false false true v hr hp hw hb hg = refl
    by false false false false false false false false true hr hp hw hb hg = refl
    by false false false false false false false false false hr hp hw hb hg = refl

-- ---- arguments

one_more : (a : kinds.Argument) (o : Option (List kinds.Argument)) → option_map (λ behind. named a ∷ behind) (option_map (map named) o) ≡ option_map (map named) (option_map (λ behind. a ∷ behind) o)
one_more a None = refl
one_more a (Some behind) = refl

files_are : (words : List (List ℕ)) → map (argument []) words ≡ map named (map (kinds.argument file) words)
files_are [] = refl
files_are (word ∷ words) = ap (λ behind. argument [] word ∷ behind) (files_are words)

arguments_are : (o : Option Kind) (words : List (List ℕ)) → arguments_from (option_map option_name o) words ≡ option_map (map named) (kinds.arguments_from o words)
arguments_are None [] = refl
arguments_are (Some kind) [] = refl
arguments_are (Some kind) (word ∷ words) = by (is_value word) (ap (option_map (λ behind. argument (option_name kind) word ∷ behind)) (arguments_are None words) ∙ one_more (kinds.argument kind word) (kinds.arguments_from None words))
  where
    by : (b : Bool) → option_map (λ behind. argument (option_name kind) word ∷ behind) (arguments_from None words) ≡ option_map (map named) (option_map (λ behind. kinds.argument kind word ∷ behind) (kinds.arguments_from None words))
        → (if b then option_map (λ behind. argument (option_name kind) word ∷ behind) (arguments_from None words) else None)
        ≡ option_map (map named) (if b then option_map (λ behind. kinds.argument kind word ∷ behind) (kinds.arguments_from None words) else None)
    by true h = h
    by false h = refl
arguments_are None (word ∷ words) =
    ap (λ (w : Word). elim w [
      | whole a ↦ option_map (λ behind. a ∷ behind) (arguments_from None words)
      | option name ↦ arguments_from (Some name) words
      | end_of_options ↦ Some (map (argument []) words)
      | unknown ↦ None
    ]) (word_is word)
    ∙ by (kinds.word_of word) (arguments_are None words) (λ kind. arguments_are (Some kind) words)
  where
    by : (w : kinds.Word) → arguments_from None words ≡ option_map (map named) (kinds.arguments_from None words) → ((kind : Kind) → arguments_from (Some (option_name kind)) words ≡ option_map (map named) (kinds.arguments_from (Some kind) words))
        → (elim (word_named w) as (λ x. Option (List Argument)) [
          | whole a ↦ option_map (λ behind. a ∷ behind) (arguments_from None words)
          | option name ↦ arguments_from (Some name) words
          | end_of_options ↦ Some (map (argument []) words)
          | unknown ↦ None
        ])
        ≡ option_map (map named) (elim w as (λ x. Option (List kinds.Argument)) [
          | kinds.whole a ↦ option_map (λ behind. a ∷ behind) (kinds.arguments_from None words)
          | kinds.option kind ↦ kinds.arguments_from (Some kind) words
          | kinds.end_of_options ↦ Some (map (kinds.argument file) words)
          | kinds.unknown ↦ None
        ])
    by (kinds.whole a) h k = ap (option_map (λ behind. named a ∷ behind)) h ∙ one_more a (kinds.arguments_from None words)
    by (kinds.option kind) h k = k kind
    by kinds.end_of_options h k = ap Some (files_are words)
    by kinds.unknown h k = refl

any_same : (a : kinds.Argument) (arguments : List kinds.Argument) → list_any (λ b. bytes_eq (option_name a.kind) b.name) (map named arguments) ≡ list_any (λ b. is_same a.kind b.kind) arguments
any_same a [] = refl
any_same a (b ∷ arguments) = ap₂ (λ x y. x || y) (same_name a.kind b.kind) (any_same a arguments)

each_once : (arguments : List kinds.Argument) → is_each_once (map named arguments) ≡ kinds.is_each_once arguments
each_once [] = refl
each_once (a ∷ arguments) = ap₂ (λ x y. not x && y) (any_same a arguments) (each_once arguments)

in_range : (kind : Kind) (value : List ℕ) → is_in_range (argument (option_name kind) value) ≡ kinds.is_in_range (kinds.argument kind value)
in_range lines value = refl
in_range budget value = refl
in_range proofs value = refl
in_range written value = refl
in_range seed value = refl
in_range file value = refl

all_in_range : (arguments : List kinds.Argument) → list_all is_in_range (map named arguments) ≡ list_all kinds.is_in_range arguments
all_in_range [] = refl
all_in_range (a ∷ arguments) = ap₂ (λ x y. x && y) (in_range a.kind a.value) (all_in_range arguments)

value_is : (kind : Kind) (arguments : List kinds.Argument) → value_of (option_name kind) (map named arguments) ≡ kinds.value_of kind arguments
value_is kind [] = refl
value_is kind (a ∷ arguments) =
    ap (λ b. option_map (λ x. x.value) (cond b (Some (named a)) (find (λ x. bytes_eq (option_name kind) x.name) (map named arguments)))) (same_name kind a.kind) ∙ by (is_same kind a.kind) (value_is kind arguments)
  where
    by : (b : Bool) → value_of (option_name kind) (map named arguments) ≡ kinds.value_of kind arguments
        → option_map (λ x. x.value) (cond b (Some (named a)) (find (λ x. bytes_eq (option_name kind) x.name) (map named arguments))) ≡ option_map (λ x. x.value) (cond b (Some a) (find (λ x. is_same kind x.kind) arguments))
    by true h = refl
    by false h = h

-- ---- the command

-- the command of these values, which arguments of each kind give
abbrev command_with : Option (List ℕ) → Option (List ℕ) → Option (List ℕ) → Option (List ℕ) → Option (List ℕ) → Option (List ℕ) → Option Command
command_with shown budget_value proved wrote seed_value name =
    option_and_then (λ output. option_map (λ source. record { shows = is_some shown; budget = unwrap_or (option_map number_of budget_value) 100000; output = output; source = source }) (source_of output name (option_map number_of seed_value)))
    (output_of (is_some proved) (is_some wrote))

command_is : (arguments : List kinds.Argument) → command_by (map named arguments) ≡ kinds.command_by arguments
command_is arguments = by (value_is lines arguments) (value_is budget arguments) (value_is proofs arguments) (value_is written arguments) (value_is seed arguments) (value_is file arguments)
  where
    by : {a b c d e f a' b' c' d' e' f' : Option (List ℕ)} → a ≡ a' → b ≡ b' → c ≡ c' → d ≡ d' → e ≡ e' → f ≡ f' → command_with a b c d e f ≡ command_with a' b' c' d' e' f'
    by g h i j k l = rw (g, h, i, j, k, l) refl

-- what words say
pub said_by_names : (words : List (List ℕ)) → command_of words ≡ command_by_kinds words
said_by_names words =
    ap (option_and_then (λ arguments. if is_each_once arguments && list_all is_in_range arguments then command_by arguments else None)) (arguments_are None (drop 1 words))
    ∙ by (kinds.arguments_from None (drop 1 words))
  where
    by : (o : Option (List kinds.Argument)) → option_and_then (λ arguments. if is_each_once arguments && list_all is_in_range arguments then command_by arguments else None) (option_map (map named) o)
        ≡ option_and_then (λ arguments. if kinds.is_each_once arguments && list_all kinds.is_in_range arguments then kinds.command_by arguments else None) o
    by None = refl
    by (Some arguments) = rw (each_once arguments, all_in_range arguments, command_is arguments) refl
