-- What `clap` says of a command line: the command that the definition gives, or a fault where it gives none.
use Rattle.std.proofs.Common.{◌≡◌, ◌∙◌, ◌&&◌, ◌||◌, ◌≤◌, ℕ, Bool, true, false, not, refl, sym, ap, ap₂, subst, arith, List, [], ◌∷◌, ◌++◌, map, drop, codes, cond, Option, Some, None, true≢false, inl, inr, find}
use Rattle.std.specs.Prelude.{IfSome, nat_le, slice_get, is_some, option_map, option_and_then, unwrap_or, if◌then◌else◌}
use Rattle.std.specs.List.{list_all, list_any}
use Rattle.std.specs.Str.{bytes_eq}
use Rattle.clap.specs.Faults.{default_fault, defaults_fault, fault_of, settle_fault, walk_fault}
use Rattle.std.proofs.lemmas.Str.{IsUtf8-string_bytes}
use Rattle.std.proofs.Common.{String, Global}
use Rattle.std.specs.Prelude.{string_bytes}
use Rattle.clap.specs.declared.error.kind.ErrorKind.{ErrorKind}
use Rattle.clap.specs.Kinds.{IsAmong, Kinds, or_else}
use Rattle.clap.specs.Lexer.{without_minus}
use Rattle.clap.specs.Walk.{Row, Text, first_of, has_row, idle, more_values, nothing_held, one_of, row_text, settled, walk, with_default}
use Rattle.clap.specs.Simple.{matches_of}
use Rattle.clap.specs.Simple as simple
use Rattle.clap.specs.declared.builder.value_parser.Reading.TheVariants.{AsWritten}
use Rattle.clap.specs.declared.parser.matches.ValueSource.TheVariants.{DefaultValue}
use Rattle.clap.proofs.FaultLemmas.{leaf_fault}
use Rattle.solv_words.specs.CommandLine.{number_of, output_of, source_of}
use Rattle.solv_words.specs.Inner.ByKinds.{Argument, Kind, argument, arguments_from, budget, command_by, command_from, command_by_kinds, file, is_each_once, is_given, is_in_range, is_same, lines, number_by, proofs, seed, value_of, written}
use Rattle.solv_words.specs.Inner.Accepted.{command_for, command_if_accepted, is_accepted}
use Rattle.solv_words.specs.Inner.Clap.{form, id_of, rows_by, rows_with_flags, rules}
use Rattle.std.proofs.lemmas.Bool.{leb-true}
use Rattle.solv_words.specs.declared.command_line.Command.{Command}
use Rattle.solv_words.specs.declared.command_line.Output.{Output}
use Rattle.solv_words.specs.declared.command_line.Source.{Source}
use Rattle.solv_words.proofs.ClapArguments.{at_missing, fits, has_is, is_calm, rule_by}
use Rattle.solv_words.proofs.ClapWalk.{AllText, Right, accepted, checked, end_fault, end_rows, shape, then_none, walk_by, walk_is}
use Rattle.solv_words.proofs.ClapWords.{is_option, nothing}
use Rattle.solv_list.proofs.Booleans.{and_false, first_of_both, or_assoc, or_false, second_of_both, true_or_false}

-- ---- defaults

no_default_fault : (k : Kind) (rows : List Row) → default_fault rows (rule_by k) ≡ []
no_default_fault k rows = by k (has_row (id_of k) rows) refl
  where
    by : (k : Kind) (b : Bool) → has_row (id_of k) rows ≡ b → default_fault rows (rule_by k) ≡ []
    by lines true e = rw e refl
    by lines false e = rw e refl
    by budget true e = rw e refl
    by budget false e = rw e refl
    by proofs true e = rw e refl
    by proofs false e = rw e refl
    by written true e = rw e refl
    by written false e = rw e refl
    by seed true e = rw e refl
    by seed false e = rw e refl
    by file true e = rw e refl
    by file false e = rw e refl

no_defaults_fault : (rows : List Row) → defaults_fault rows rules ≡ []
unfolding defaults_fault
no_defaults_fault rows =
    let one = with_default rows (rule_by lines) in
    let two = with_default one (rule_by budget) in
    let three = with_default two (rule_by proofs) in
    let four = with_default three (rule_by written) in
    let five = with_default four (rule_by seed) in
    rw (no_default_fault lines rows, no_default_fault budget one, no_default_fault proofs two, no_default_fault written three, no_default_fault seed four, no_default_fault file five) refl

-- an argument with a value, which has no default
abbrev is_valued : Kind → Bool
is_valued lines = false
is_valued budget = true
is_valued proofs = false
is_valued written = false
is_valued seed = true
is_valued file = true

no_default : (k : Kind) (rows : List Row) → is_valued k ≡ true → with_default rows (rule_by k) ≡ rows
no_default k rows h = by k (has_row (id_of k) rows) refl h
  where
    by : (k : Kind) (b : Bool) → has_row (id_of k) rows ≡ b → is_valued k ≡ true → with_default rows (rule_by k) ≡ rows
    by lines b e h = absurd (true≢false (sym h))
    by proofs b e h = absurd (true≢false (sym h))
    by written b e h = absurd (true≢false (sym h))
    by budget true e h = rw e refl
    by budget false e h = rw e refl
    by seed true e h = rw e refl
    by seed false e h = rw e refl
    by file true e h = rw e refl
    by file false e h = rw e refl

-- ---- the whole parse

-- a fault where there are no arguments, and else the rows of these
abbrev pub FormIs : List Text → Option (List Argument) → Type 0
FormIs words None = is_calm (fault_of form words) ≡ false
FormIs words (Some args) = (fault_of form words ≡ []) × (matches_of form words ≡ rows_with_flags args)

whole_fault : (words : List Text) → fault_of form words ≡ end_fault (walk_by [] nothing false false idle) (drop 1 words)
whole_fault words =
    let end = (walk rules [] nothing_held (drop 1 words)).held in
    leaf_fault (simple.built form) nothing_held (drop 1 words) refl
    ∙ ap (λ ks. or_else (walk_fault shape [] (walk_by [] nothing false false idle) (drop 1 words)) (or_else (settle_fault rules false end) (or_else ks []))) (no_defaults_fault (settled rules end).rows)
    ∙ ap (or_else (walk_fault shape [] (walk_by [] nothing false false idle) (drop 1 words))) (then_none (settle_fault rules false end))

-- the flags that are not given are added
abbrev with_flags : List Row → List Row
with_flags rows = with_default (with_default (with_default rows (rule_by lines)) (rule_by proofs)) (rule_by written)

whole_rows : (words : List Text) → matches_of form words ≡ with_flags (end_rows (walk_by [] nothing false false idle) (drop 1 words))
whole_rows words =
    let first = with_default (end_rows (walk_by [] nothing false false idle) (drop 1 words)) (rule_by lines) in
    let rows = with_default (with_default first (rule_by proofs)) (rule_by written) in
    ap (λ r. with_default (with_default (with_default (with_default r (rule_by proofs)) (rule_by written)) (rule_by seed)) (rule_by file)) (no_default budget first refl)
    ∙ ap (λ r. with_default r (rule_by file)) (no_default seed rows refl)
    ∙ no_default file rows refl

pub form_is : (words : List Text) → AllText (drop 1 words) → FormIs words (accepted [] (arguments_from None (drop 1 words)))
form_is words text = by (accepted [] (arguments_from None (drop 1 words))) (walk_is (drop 1 words) text)
  where
    by : (o : Option (List Argument)) → Right (walk_by [] nothing false false idle) (drop 1 words) o → FormIs words o
    by None h = ap is_calm (whole_fault words) ∙ h
    by (Some args) h = (whole_fault words ∙ h.0, whole_rows words ∙ ap with_flags h.1)

-- ---- the arguments that are accepted

same_turned : (a b : Kind) → is_same a b ≡ is_same b a
same_turned lines lines = refl
same_turned lines budget = refl
same_turned lines proofs = refl
same_turned lines written = refl
same_turned lines seed = refl
same_turned lines file = refl
same_turned budget lines = refl
same_turned budget budget = refl
same_turned budget proofs = refl
same_turned budget written = refl
same_turned budget seed = refl
same_turned budget file = refl
same_turned proofs lines = refl
same_turned proofs budget = refl
same_turned proofs proofs = refl
same_turned proofs written = refl
same_turned proofs seed = refl
same_turned proofs file = refl
same_turned written lines = refl
same_turned written budget = refl
same_turned written proofs = refl
same_turned written written = refl
same_turned written seed = refl
same_turned written file = refl
same_turned seed lines = refl
same_turned seed budget = refl
same_turned seed proofs = refl
same_turned seed written = refl
same_turned seed seed = refl
same_turned seed file = refl
same_turned file lines = refl
same_turned file budget = refl
same_turned file proofs = refl
same_turned file written = refl
same_turned file seed = refl
same_turned file file = refl

any_more : (f : Argument → Bool) (xs : List Argument) (a : Argument) → list_any f (xs ++ a ∷ []) ≡ (list_any f xs || f a)
any_more f [] a = or_false (f a)
any_more f (x ∷ xs) a = ap (λ b. f x || b) (any_more f xs a) ∙ sym (or_assoc (f x) (list_any f xs) (f a))

abbrev is_new : List Argument → Argument → Bool
is_new seen a = not (list_any (λ b. is_same a.kind b.kind) seen)

apart : (s t a d : Bool) → (not (s || t) && (a && d)) ≡ ((not s && a) && (not t && d))
apart true t a d = refl
apart false true a d = sym (and_false a)
apart false false a d = refl

not_or : (t d : Bool) → (not t && not d) ≡ not (t || d)
not_or true d = refl
not_or false d = refl

new_behind : (seen : List Argument) (a : Argument) (rest : List Argument) → list_all (is_new (seen ++ a ∷ [])) rest ≡ (list_all (is_new seen) rest && not (list_any (λ b. is_same a.kind b.kind) rest))
new_behind seen a [] = refl
new_behind seen a (x ∷ rest) =
    ap₂ (λ b c. not b && c) (any_more (λ b. is_same x.kind b.kind) seen a ∙ ap (λ b. list_any (λ b. is_same x.kind b.kind) seen || b) (same_turned x.kind a.kind)) (new_behind seen a rest)
    ∙ apart (list_any (λ b. is_same x.kind b.kind) seen) (is_same a.kind x.kind) (list_all (is_new seen) rest) (not (list_any (λ b. is_same a.kind b.kind) rest))
    ∙ ap (λ b. (is_new seen x && list_all (is_new seen) rest) && b) (not_or (is_same a.kind x.kind) (list_any (λ b. is_same a.kind b.kind) rest))

shuffle : (n i a d e l : Bool) → ((n && i) && ((a && d) && (e && l))) ≡ ((n && a) && ((d && e) && (i && l)))
shuffle false i a d e l = refl
shuffle true false a d e l = sym (ap (λ b. a && b) (and_false (d && e)) ∙ and_false a)
shuffle true true false d e l = refl
shuffle true true true false e l = refl
shuffle true true true true e l = refl

checked_behind : (seen rest : List Argument) → checked seen rest ≡ (list_all (is_new seen) rest && is_accepted rest)
checked_behind seen [] = refl
checked_behind seen (a ∷ rest) =
    ap (λ b. fits seen a && b) (checked_behind (seen ++ a ∷ []) rest ∙ ap (λ b. b && is_accepted rest) (new_behind seen a rest))
    ∙ shuffle (is_new seen a) (is_in_range a) (list_all (is_new seen) rest) (not (list_any (λ b. is_same a.kind b.kind) rest)) (is_each_once rest) (list_all is_in_range rest)

all_new : (rest : List Argument) → list_all (is_new []) rest ≡ true
all_new [] = refl
all_new (a ∷ rest) = all_new rest

checked_is : (args : List Argument) → checked [] args ≡ is_accepted args
checked_is args = checked_behind [] args ∙ ap (λ b. b && is_accepted args) (all_new args)

not_none : {X : Type 0} {P : Type 0} (x : X) → None ≡ Some x → P
not_none x h = absurd (true≢false (sym (ap is_some h)))

pub accepted_is : (o : Option (List Argument)) (args : List Argument) → accepted [] o ≡ Some args → (option_and_then command_if_accepted o ≡ command_by args) × (is_accepted args ≡ true)
accepted_is None args h = not_none args h
accepted_is (Some all) args h = by (is_accepted all) refl (sym (ap (λ b. if b then Some all else None) (checked_is all)) ∙ h)
  where
    by : (b : Bool) → is_accepted all ≡ b → (if b then Some all else None) ≡ Some args → (option_and_then command_if_accepted (Some all) ≡ command_by args) × (is_accepted args ≡ true)
    by true e k =
        let is : all ≡ args = ap (λ o. unwrap_or o all) k in
        (ap (λ b. if b then command_by all else None) e ∙ ap command_by is, sym (ap is_accepted is) ∙ e)
    by false e k = not_none args k

pub refused_is : (o : Option (List Argument)) → accepted [] o ≡ None → option_and_then command_if_accepted o ≡ None
refused_is None h = refl
refused_is (Some all) h = by (is_accepted all) refl (sym (ap (λ b. if b then Some all else None) (checked_is all)) ∙ h)
  where
    by : (b : Bool) → is_accepted all ≡ b → (if b then Some all else None) ≡ None → option_and_then command_if_accepted (Some all) ≡ None
    by true e k = not_none all (sym k)
    by false e k = ap (λ b. if b then command_by all else None) e

-- ---- what is read of the rows

abbrev found : Kind → List Row → Option Row
found k rows = find (λ r. bytes_eq r.id (id_of k)) rows

-- the default of a flag has no other name
find_front : (k : Kind) (r : Row) (rows : List Row) → bytes_eq r.id (id_of k) ≡ false → found k (rows ++ r ∷ []) ≡ found k rows
find_front k r [] h = rw h refl
find_front k r (x ∷ rows) h = by (bytes_eq x.id (id_of k)) (find_front k r rows h)
  where
    by : (b : Bool) → found k (rows ++ r ∷ []) ≡ found k rows → cond b (Some x) (found k (rows ++ r ∷ [])) ≡ cond b (Some x) (found k rows)
    by true i = refl
    by false i = i

abbrev is_flag : Kind → Bool
is_flag k = not (is_valued k)

abbrev default_row : Kind → Row
default_row k = record { id = id_of k; values = codes "false" ∷ []; count = None; source = Some DefaultValue; reading = AsWritten }

defaulted : (k : Kind) (rows : List Row) → is_flag k ≡ true → has_row (id_of k) rows ≡ false → with_default rows (rule_by k) ≡ rows ++ default_row k ∷ []
defaulted lines rows f h = rw h (at_missing (id_of lines) (more_values DefaultValue (codes "false" ∷ [])) (default_row lines ∷ []) rows h)
defaulted budget rows f h = absurd (true≢false (sym f))
defaulted proofs rows f h = rw h (at_missing (id_of proofs) (more_values DefaultValue (codes "false" ∷ [])) (default_row proofs ∷ []) rows h)
defaulted written rows f h = rw h (at_missing (id_of written) (more_values DefaultValue (codes "false" ∷ [])) (default_row written ∷ []) rows h)
defaulted seed rows f h = absurd (true≢false (sym f))
defaulted file rows f h = absurd (true≢false (sym f))

present : (k : Kind) (rows : List Row) → has_row (id_of k) rows ≡ true → with_default rows (rule_by k) ≡ rows
present lines rows h = rw h refl
present budget rows h = rw h refl
present proofs rows h = rw h refl
present written rows h = rw h refl
present seed rows h = rw h refl
present file rows h = rw h refl

-- a kind is found as before a flag of another name is added
found_past : (flag k : Kind) (rows : List Row) → is_flag flag ≡ true → bytes_eq (id_of flag) (id_of k) ≡ false → found k (with_default rows (rule_by flag)) ≡ found k rows
found_past flag k rows f h = elim (true_or_false (has_row (id_of flag) rows)) [
  | inl e ↦ ap (found k) (present flag rows e)
  | inr e ↦ ap (found k) (defaulted flag rows f e) ∙ find_front k (default_row flag) rows h
]

has_front : (k : Kind) (r : Row) (rows : List Row) → bytes_eq r.id (id_of k) ≡ false → has_row (id_of k) (rows ++ r ∷ []) ≡ has_row (id_of k) rows
has_front k r [] h = rw h refl
has_front k r (x ∷ rows) h = ap (λ b. bytes_eq x.id (id_of k) || b) (has_front k r rows h)

has_past : (flag k : Kind) (rows : List Row) → is_flag flag ≡ true → bytes_eq (id_of flag) (id_of k) ≡ false → has_row (id_of k) (with_default rows (rule_by flag)) ≡ has_row (id_of k) rows
has_past flag k rows f h = elim (true_or_false (has_row (id_of flag) rows)) [
  | inl e ↦ ap (has_row (id_of k)) (present flag rows e)
  | inr e ↦ ap (has_row (id_of k)) (defaulted flag rows f e) ∙ has_front k (default_row flag) rows h
]

other_id : (flag k : Kind) → is_flag flag ≡ true → is_valued k ≡ true → bytes_eq (id_of flag) (id_of k) ≡ false
other_id flag k f h = by flag k f h
  where
    by : (flag k : Kind) → is_flag flag ≡ true → is_valued k ≡ true → bytes_eq (id_of flag) (id_of k) ≡ false
    by lines lines f h = absurd (true≢false (sym h))
    by lines budget f h = refl
    by lines proofs f h = absurd (true≢false (sym h))
    by lines written f h = absurd (true≢false (sym h))
    by lines seed f h = refl
    by lines file f h = refl
    by proofs lines f h = absurd (true≢false (sym h))
    by proofs budget f h = refl
    by proofs proofs f h = absurd (true≢false (sym h))
    by proofs written f h = absurd (true≢false (sym h))
    by proofs seed f h = refl
    by proofs file f h = refl
    by written lines f h = absurd (true≢false (sym h))
    by written budget f h = refl
    by written proofs f h = absurd (true≢false (sym h))
    by written written f h = absurd (true≢false (sym h))
    by written seed f h = refl
    by written file f h = refl
    by budget k f h = absurd (true≢false (sym f))
    by seed k f h = absurd (true≢false (sym f))
    by file k f h = absurd (true≢false (sym f))

found_past_flags : (k : Kind) (rows : List Row) → is_valued k ≡ true → found k (with_flags rows) ≡ found k rows
found_past_flags k rows h =
    found_past written k (with_default (with_default rows (rule_by lines)) (rule_by proofs)) refl (other_id written k refl h)
    ∙ found_past proofs k (with_default rows (rule_by lines)) refl (other_id proofs k refl h)
    ∙ found_past lines k rows refl (other_id lines k refl h)

abbrev first_value_of : Option Row → Option Text
first_value_of o = option_and_then (λ r. slice_get r.values 0) o

-- the first value of a kind is its argument's
valued : (k : Kind) → is_valued k ≡ true → (args : List Argument) → first_value_of (found k (rows_by args)) ≡ value_of k args
valued k h [] = refl
valued k h (a ∷ args) = by k a.kind h (valued k h args)
  where
    by : (k kind : Kind) → is_valued k ≡ true → first_value_of (found k (rows_by args)) ≡ value_of k args
        → first_value_of (found k (rows_by (argument kind a.value ∷ args))) ≡ value_of k (argument kind a.value ∷ args)
    by lines kind h i = absurd (true≢false (sym h))
    by budget lines h i = i
    by budget budget h i = refl
    by budget proofs h i = i
    by budget written h i = i
    by budget seed h i = i
    by budget file h i = i
    by proofs kind h i = absurd (true≢false (sym h))
    by written kind h i = absurd (true≢false (sym h))
    by seed lines h i = i
    by seed budget h i = i
    by seed proofs h i = i
    by seed written h i = i
    by seed seed h i = refl
    by seed file h i = i
    by file lines h i = i
    by file budget h i = i
    by file proofs h i = i
    by file written h i = i
    by file seed h i = i
    by file file h i = refl

pub first_is : (k : Kind) → is_valued k ≡ true → (args : List Argument) → first_of (id_of k) (rows_with_flags args) ≡ value_of k args
first_is k h args = ap first_value_of (found_past_flags k (rows_by args) h) ∙ valued k h args

-- a number is read without `-`
numbered : (k : Kind) → is_option k ≡ true → (args : List Argument) → option_and_then row_text (found k (rows_by args)) ≡ option_map without_minus (value_of k args)
numbered k h [] = refl
numbered k h (a ∷ args) = by k a.kind h (numbered k h args)
  where
    by : (k kind : Kind) → is_option k ≡ true → option_and_then row_text (found k (rows_by args)) ≡ option_map without_minus (value_of k args)
        → option_and_then row_text (found k (rows_by (argument kind a.value ∷ args))) ≡ option_map without_minus (value_of k (argument kind a.value ∷ args))
    by lines kind h i = absurd (true≢false (sym h))
    by budget lines h i = i
    by budget budget h i = refl
    by budget proofs h i = i
    by budget written h i = i
    by budget seed h i = i
    by budget file h i = i
    by proofs kind h i = absurd (true≢false (sym h))
    by written kind h i = absurd (true≢false (sym h))
    by seed lines h i = i
    by seed budget h i = i
    by seed proofs h i = i
    by seed written h i = i
    by seed seed h i = refl
    by seed file h i = i
    by file kind h i = absurd (true≢false (sym h))

option_valued : (k : Kind) → is_option k ≡ true → is_valued k ≡ true
option_valued lines h = absurd (true≢false (sym h))
option_valued budget h = refl
option_valued proofs h = absurd (true≢false (sym h))
option_valued written h = absurd (true≢false (sym h))
option_valued seed h = refl
option_valued file h = refl

pub one_is : (k : Kind) → is_option k ≡ true → (args : List Argument) → one_of (id_of k) (rows_with_flags args) ≡ option_map without_minus (value_of k args)
one_is k h args = ap (option_and_then row_text) (found_past_flags k (rows_by args) (option_valued k h)) ∙ numbered k h args

-- a flag reads as true where it is given, and else as false
flagged : (k : Kind) → is_flag k ≡ true → (args : List Argument) → has_row (id_of k) (rows_by args) ≡ true → option_and_then row_text (found k (rows_by args)) ≡ Some (codes "true")
flagged k f [] h = absurd (true≢false (sym h))
flagged k f (a ∷ args) h = by k a.kind f h (flagged k f args)
  where
    by : (k kind : Kind) → is_flag k ≡ true → has_row (id_of k) (rows_by (argument kind a.value ∷ args)) ≡ true
        → (has_row (id_of k) (rows_by args) ≡ true → option_and_then row_text (found k (rows_by args)) ≡ Some (codes "true"))
        → option_and_then row_text (found k (rows_by (argument kind a.value ∷ args))) ≡ Some (codes "true")
    by lines lines f h i = refl
    by lines budget f h i = i h
    by lines proofs f h i = i h
    by lines written f h i = i h
    by lines seed f h i = i h
    by lines file f h i = i h
    by budget kind f h i = absurd (true≢false (sym f))
    by proofs lines f h i = i h
    by proofs budget f h i = i h
    by proofs proofs f h i = refl
    by proofs written f h i = i h
    by proofs seed f h i = i h
    by proofs file f h i = i h
    by written lines f h i = i h
    by written budget f h i = i h
    by written proofs f h i = i h
    by written written f h i = refl
    by written seed f h i = i h
    by written file f h i = i h
    by seed kind f h i = absurd (true≢false (sym f))
    by file kind f h i = absurd (true≢false (sym f))

same_flag : (k : Kind) → bytes_eq (id_of k) (id_of k) ≡ true
same_flag lines = refl
same_flag budget = refl
same_flag proofs = refl
same_flag written = refl
same_flag seed = refl
same_flag file = refl

unflagged : (k : Kind) (rows : List Row) → has_row (id_of k) rows ≡ false → found k (rows ++ default_row k ∷ []) ≡ Some (default_row k)
unflagged k [] h = rw (same_flag k) refl
unflagged k (r ∷ rows) h = by (bytes_eq r.id (id_of k)) h (unflagged k rows)
  where
    by : (b : Bool) → (b || has_row (id_of k) rows) ≡ false → (has_row (id_of k) rows ≡ false → found k (rows ++ default_row k ∷ []) ≡ Some (default_row k))
        → cond b (Some r) (found k (rows ++ default_row k ∷ [])) ≡ Some (default_row k)
    by true w i = absurd (true≢false w)
    by false w i = i w

has_value : (k : Kind) (args : List Argument) → list_any (λ a. is_same k a.kind) args ≡ is_some (value_of k args)
has_value k [] = refl
has_value k (a ∷ args) = by (is_same k a.kind) (has_value k args)
  where
    by : (b : Bool) → list_any (λ a. is_same k a.kind) args ≡ is_some (value_of k args)
        → (b || list_any (λ a. is_same k a.kind) args) ≡ is_some (option_map (λ x. x.value) (cond b (Some a) (find (λ x. is_same k x.kind) args)))
    by true i = refl
    by false i = i

-- so a flag reads, of rows with its default among which it is as among those of the arguments
flag_read : (k : Kind) → is_flag k ≡ true → (rows : List Row) (args : List Argument) → has_row (id_of k) rows ≡ has_row (id_of k) (rows_by args) → found k rows ≡ found k (rows_by args)
    → option_and_then row_text (found k (with_default rows (rule_by k))) ≡ Some (if is_given k args then codes "true" else codes "false")
flag_read k f rows args has same = by (has_row (id_of k) (rows_by args)) refl
  where
    given : has_row (id_of k) (rows_by args) ≡ is_given k args
    given = has_is k args ∙ has_value k args

    by : (b : Bool) → has_row (id_of k) (rows_by args) ≡ b → option_and_then row_text (found k (with_default rows (rule_by k))) ≡ Some (if is_given k args then codes "true" else codes "false")
    by true e =
        ap (λ r. option_and_then row_text (found k r)) (present k rows (has ∙ e)) ∙ ap (option_and_then row_text) same ∙ flagged k f args e
        ∙ ap (λ b. Some (if b then codes "true" else codes "false")) (sym e ∙ given)
    by false e =
        ap (λ r. option_and_then row_text (found k r)) (defaulted k rows f (has ∙ e)) ∙ ap (option_and_then row_text) (unflagged k rows (has ∙ e))
        ∙ ap (λ b. Some (if b then codes "true" else codes "false")) (sym e ∙ given)

pub lines_flag_is : (args : List Argument) → one_of (id_of lines) (rows_with_flags args) ≡ Some (if is_given lines args then codes "true" else codes "false")
lines_flag_is args =
    let first = with_default (rows_by args) (rule_by lines) in
    ap (option_and_then row_text) (found_past written lines (with_default first (rule_by proofs)) refl refl ∙ found_past proofs lines first refl refl)
    ∙ flag_read lines refl (rows_by args) args refl refl

pub proofs_flag_is : (args : List Argument) → one_of (id_of proofs) (rows_with_flags args) ≡ Some (if is_given proofs args then codes "true" else codes "false")
proofs_flag_is args =
    let first = with_default (rows_by args) (rule_by lines) in
    ap (option_and_then row_text) (found_past written proofs (with_default first (rule_by proofs)) refl refl)
    ∙ flag_read proofs refl first args (has_past lines proofs (rows_by args) refl refl) (found_past lines proofs (rows_by args) refl refl)

pub written_flag_is : (args : List Argument) → one_of (id_of written) (rows_with_flags args) ≡ Some (if is_given written args then codes "true" else codes "false")
written_flag_is args =
    let first = with_default (rows_by args) (rule_by lines) in
    flag_read written refl (with_default first (rule_by proofs)) args
    (has_past proofs written first refl refl ∙ has_past lines written (rows_by args) refl refl)
    (found_past proofs written first refl refl ∙ found_past lines written (rows_by args) refl refl)

same_kind : (a b : Kind) → is_same a b ≡ true → a ≡ b
same_kind lines lines h = refl
same_kind lines budget h = absurd (true≢false (sym h))
same_kind lines proofs h = absurd (true≢false (sym h))
same_kind lines written h = absurd (true≢false (sym h))
same_kind lines seed h = absurd (true≢false (sym h))
same_kind lines file h = absurd (true≢false (sym h))
same_kind budget lines h = absurd (true≢false (sym h))
same_kind budget budget h = refl
same_kind budget proofs h = absurd (true≢false (sym h))
same_kind budget written h = absurd (true≢false (sym h))
same_kind budget seed h = absurd (true≢false (sym h))
same_kind budget file h = absurd (true≢false (sym h))
same_kind proofs lines h = absurd (true≢false (sym h))
same_kind proofs budget h = absurd (true≢false (sym h))
same_kind proofs proofs h = refl
same_kind proofs written h = absurd (true≢false (sym h))
same_kind proofs seed h = absurd (true≢false (sym h))
same_kind proofs file h = absurd (true≢false (sym h))
same_kind written lines h = absurd (true≢false (sym h))
same_kind written budget h = absurd (true≢false (sym h))
same_kind written proofs h = absurd (true≢false (sym h))
same_kind written written h = refl
same_kind written seed h = absurd (true≢false (sym h))
same_kind written file h = absurd (true≢false (sym h))
same_kind seed lines h = absurd (true≢false (sym h))
same_kind seed budget h = absurd (true≢false (sym h))
same_kind seed proofs h = absurd (true≢false (sym h))
same_kind seed written h = absurd (true≢false (sym h))
same_kind seed seed h = refl
same_kind seed file h = absurd (true≢false (sym h))
same_kind file lines h = absurd (true≢false (sym h))
same_kind file budget h = absurd (true≢false (sym h))
same_kind file proofs h = absurd (true≢false (sym h))
same_kind file written h = absurd (true≢false (sym h))
same_kind file seed h = absurd (true≢false (sym h))
same_kind file file h = refl

-- a number that is accepted is in its range
pub in_range : (k : Kind) (args : List Argument) (v : List ℕ) → list_all is_in_range args ≡ true → value_of k args ≡ Some v → is_in_range (argument k v) ≡ true
in_range k [] v h e = not_none v e
in_range k (a ∷ args) v h e = by (is_same k a.kind) refl e (in_range k args v (second_of_both (is_in_range a) (list_all is_in_range args) h))
  where
    first : is_in_range a ≡ true
    first = first_of_both (is_in_range a) (list_all is_in_range args) h

    by : (b : Bool) → is_same k a.kind ≡ b → option_map (λ x. x.value) (cond b (Some a) (find (λ x. is_same k x.kind) args)) ≡ Some v
        → (value_of k args ≡ Some v → is_in_range (argument k v) ≡ true) → is_in_range (argument k v) ≡ true
    by true s e i =
        let value : a.value ≡ v = ap (λ o. unwrap_or o a.value) e in
        ap₂ (λ kind v. is_in_range (argument kind v)) (same_kind k a.kind s) (sym value) ∙ first
    by false s e i = i e

-- ---- both answers

-- the words are taken: they are arguments that are accepted
pub record Taken (words : List Text) : Type 0 where
  pub args : List Argument
  pub rows : matches_of form words ≡ rows_with_flags args
  pub accepted : is_accepted args ≡ true
  pub command : command_by_kinds words ≡ command_by args

pub taken : (words : List Text) → AllText (drop 1 words) → fault_of form words ≡ [] → Taken words
taken words text calm = by (accepted [] (arguments_from None (drop 1 words))) refl (form_is words text)
  where
    by : (o : Option (List Argument)) → accepted [] (arguments_from None (drop 1 words)) ≡ o → FormIs words o → Taken words
    by None e h = absurd (true≢false (sym (ap is_calm calm) ∙ h))
    by (Some args) e h =
        let is = accepted_is (arguments_from None (drop 1 words)) args e in
        record { args = args; rows = h.1; accepted = is.1; command = is.0 }

pub refused : (words : List Text) → AllText (drop 1 words) → is_calm (fault_of form words) ≡ false → command_by_kinds words ≡ None
refused words text fault = by (accepted [] (arguments_from None (drop 1 words))) refl (form_is words text)
  where
    by : (o : Option (List Argument)) → accepted [] (arguments_from None (drop 1 words)) ≡ o → FormIs words o → command_by_kinds words ≡ None
    by None e h = refused_is (arguments_from None (drop 1 words)) e
    by (Some args) e h = absurd (true≢false (sym (ap is_calm h.0) ∙ fault))

all_text : (words : List (String Global)) → AllText (map string_bytes words)
all_text [] = tt
all_text (word ∷ words) = (IsUtf8-string_bytes word, all_text words)

pub text_behind : (words : List (String Global)) → AllText (drop 1 (map string_bytes words))
text_behind [] = tt
text_behind (word ∷ words) = all_text words

pub among : (k : ErrorKind) (ks : Kinds) → IsAmong k ks → is_calm ks ≡ false
among k [] h = absurd h
among k (x ∷ xs) h = refl

-- the budget of arguments that are accepted is in its range
pub small_budget : (args : List Argument) (command : Option Command) → is_accepted args ≡ true → command ≡ command_by args → IfSome command (λ said. said.budget ≤ 1000000)
small_budget args command h e = let P : Option Command → Type 0 = λ o. IfSome o (λ said. said.budget ≤ 1000000) in subst P (sym e) (printed (output_of (is_given proofs args) (is_given written args)))
  where
    number : (o : Option (List ℕ)) → value_of budget args ≡ o → unwrap_or (option_map number_of o) 100000 ≤ 1000000
    number None is = omega arith
    number (Some v) is =
        let passed = in_range budget args v (second_of_both (is_each_once args) (list_all is_in_range args) h) is in
        leb-true (number_of v) 1000000 (first_of_both (nat_le (number_of v) 1000000) _ (second_of_both _ _ passed))

    by : (output : Output) (o : Option Source) → IfSome (option_map (command_from args output) o) (λ (said : Command). said.budget ≤ 1000000)
    by output None = tt
    by output (Some source) = number (value_of budget args) refl

    printed : (o : Option Output) → IfSome (option_and_then (command_for args) o) (λ (said : Command). said.budget ≤ 1000000)
    printed None = tt
    printed (Some output) = by output (source_of output (value_of file args) (number_by seed args))
