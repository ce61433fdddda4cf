-- What `clap` holds of arguments that were given, and what it makes of one more.
use Rattle.std.proofs.Common.{◌≡◌, ◌∙◌, ◌&&◌, ◌||◌, ℕ, Bool, true, false, not, refl, sym, ap, ap₂, arith, List, [], ◌∷◌, ◌++◌, true≢false, append-nil}
use Rattle.std.proofs.lemmas.List.{map-append}
use Rattle.std.specs.Prelude.{pos, if◌then◌else◌}
use Rattle.std.specs.List.{list_any}
use Rattle.std.specs.Str.{bytes_eq}
use Rattle.clap.specs.Faults.{use_fault}
use Rattle.clap.specs.Kinds.{Kinds, or_else}
use Rattle.clap.specs.ValueTests.{is_signed_in}
use Rattle.clap.specs.Walk.{Row, Rule, Text, at_row, has_row, more_values, used, with_values, without}
use Rattle.clap.specs.Simple.{filled, with_index}
use Rattle.clap.specs.declared.error.kind.ErrorKind.TheVariants as kind
use Rattle.clap.specs.declared.parser.matches.ValueSource.TheVariants.{CommandLine}
use Rattle.solv_words.specs.Inner.ByKinds.{Argument, Kind, argument, budget, file, is_in_range, is_same, lines, proofs, seed, written}
use Rattle.solv_words.specs.Inner.Clap.{id_of, reading_of_kind, row_of, rows_by, rules, told_of, values_of}
use Rattle.solv_words.proofs.ClapNumbers.{number_is}

-- ---- the rule of each kind of argument

abbrev pub rule_by : Kind → Rule
rule_by lines = filled (told_of lines)
rule_by budget = filled (told_of budget)
rule_by proofs = filled (told_of proofs)
rule_by written = filled (told_of written)
rule_by seed = filled (told_of seed)
rule_by file = with_index 1 (filled (told_of file))

pub rules_are : rules ≡ rule_by lines ∷ rule_by budget ∷ rule_by proofs ∷ rule_by written ∷ rule_by seed ∷ rule_by file ∷ []
rules_are = refl

-- what a use has after its name
abbrev pub raw_of : Kind → List ℕ → List Text
raw_of lines value = []
raw_of budget value = value ∷ []
raw_of proofs value = []
raw_of written value = []
raw_of seed value = value ∷ []
raw_of file value = value ∷ []

same_id : (a k : Kind) → bytes_eq (id_of a) (id_of k) ≡ is_same k a
same_id lines lines = refl
same_id lines budget = refl
same_id lines proofs = refl
same_id lines written = refl
same_id lines seed = refl
same_id lines file = refl
same_id budget lines = refl
same_id budget budget = refl
same_id budget proofs = refl
same_id budget written = refl
same_id budget seed = refl
same_id budget file = refl
same_id proofs lines = refl
same_id proofs budget = refl
same_id proofs proofs = refl
same_id proofs written = refl
same_id proofs seed = refl
same_id proofs file = refl
same_id written lines = refl
same_id written budget = refl
same_id written proofs = refl
same_id written written = refl
same_id written seed = refl
same_id written file = refl
same_id seed lines = refl
same_id seed budget = refl
same_id seed proofs = refl
same_id seed written = refl
same_id seed seed = refl
same_id seed file = refl
same_id file lines = refl
same_id file budget = refl
same_id file proofs = refl
same_id file written = refl
same_id file seed = refl
same_id file file = refl

pub has_is : (k : Kind) (args : List Argument) → has_row (id_of k) (rows_by args) ≡ list_any (λ a. is_same k a.kind) args
has_is k [] = refl
has_is k (a ∷ args) = ap₂ (λ x y. x || y) (same_id a.kind k) (has_is k args)

-- ---- one use more

-- nothing is wrong
abbrev pub is_calm : Kinds → Bool
is_calm [] = true
is_calm (k ∷ ks) = false

-- it repeats none of these, and its number is in range
abbrev pub fits : List Argument → Argument → Bool
fits args a = not (list_any (λ b. is_same a.kind b.kind) args) && is_in_range a

abbrev once : Bool → Kinds
once has = if has && true then kind.ArgumentConflict ∷ [] else []

flag_use : (has : Bool) → is_calm (or_else (once has) []) ≡ (not has && true)
flag_use true = refl
flag_use false = refl

number_use : (has passes : Bool) → is_calm (or_else (once has) (or_else (if passes then [] else kind.ValueValidation ∷ []) [])) ≡ (not has && passes)
number_use true passes = refl
number_use false true = refl
number_use false false = refl

pub use_is : (args : List Argument) (k : Kind) (value : List ℕ) → is_calm (use_fault false (rule_by k) (raw_of k value) (rows_by args)) ≡ fits args (argument k value)
use_is args lines value = flag_use (has_row (id_of lines) (rows_by args)) ∙ ap (λ b. not b && true) (has_is lines args)
use_is args budget value =
    number_use (has_row (id_of budget) (rows_by args)) (is_signed_in (pos 0) (pos 1000000) value)
    ∙ ap₂ (λ b c. not b && c) (has_is budget args) (number_is 1000000 (omega arith) value)
use_is args proofs value = flag_use (has_row (id_of proofs) (rows_by args)) ∙ ap (λ b. not b && true) (has_is proofs args)
use_is args written value = flag_use (has_row (id_of written) (rows_by args)) ∙ ap (λ b. not b && true) (has_is written args)
use_is args seed value =
    number_use (has_row (id_of seed) (rows_by args)) (is_signed_in (pos 0) (pos 4294967295) value)
    ∙ ap₂ (λ b c. not b && c) (has_is seed args) (number_is 4294967295 (omega arith) value)
use_is args file value = flag_use (has_row (id_of file) (rows_by args)) ∙ ap (λ b. not b && true) (has_is file args)

pub at_missing : (id : Text) (change : Row → List Row) (missing : List Row) (rows : List Row) → has_row id rows ≡ false → at_row id change missing rows ≡ rows ++ missing
at_missing id change missing [] h = refl
at_missing id change missing (r ∷ rs) h = by (bytes_eq r.id id) h (at_missing id change missing rs)
  where
    by : (b : Bool) → (b || has_row id rs) ≡ false → (has_row id rs ≡ false → at_row id change missing rs ≡ rs ++ missing)
        → (if b then change r ++ rs else r ∷ at_row id change missing rs) ≡ r ∷ (rs ++ missing)
    by true k i = absurd (true≢false k)
    by false k i = ap (λ l. r ∷ l) (i k)

-- the rows after it
pub used_is : (args : List Argument) (k : Kind) (value : List ℕ) → list_any (λ b. is_same k b.kind) args ≡ false
    → used (rule_by k) (raw_of k value) (rows_by args) ≡ rows_by (args ++ argument k value ∷ [])
used_is args k value h = by k (has_is k args ∙ h)
  where
    gone : (k : Kind) → has_row (id_of k) (rows_by args) ≡ false → at_row (id_of k) (λ _. []) [] (rows_by args) ≡ rows_by args
    gone k m = at_missing (id_of k) (λ _. []) [] (rows_by args) m ∙ append-nil (rows_by args)

    last : (k : Kind) → rows_by args ++ row_of (argument k value) ∷ [] ≡ rows_by (args ++ argument k value ∷ [])
    last k = sym (map-append row_of args (argument k value ∷ []))

    add : (k : Kind) → has_row (id_of k) (rows_by args) ≡ false
        → with_values (id_of k) (reading_of_kind k) CommandLine (values_of (argument k value)) (without (id_of k) (rows_by args)) ≡ rows_by (args ++ argument k value ∷ [])
    add k m =
        ap (with_values (id_of k) (reading_of_kind k) CommandLine (values_of (argument k value))) (gone k m)
        ∙ at_missing (id_of k) (more_values CommandLine (values_of (argument k value))) (row_of (argument k value) ∷ []) (rows_by args) m
        ∙ last k

    by : (k : Kind) → has_row (id_of k) (rows_by args) ≡ false → used (rule_by k) (raw_of k value) (rows_by args) ≡ rows_by (args ++ argument k value ∷ [])
    by lines m = add lines m
    by budget m = add budget m
    by proofs m = add proofs m
    by written m = add written m
    by seed m = add seed m
    by file m = add file m
