-- What a text or lines give is never running out of memory, which is no cause of their own.
use Rattle.std.proofs.Common.{◌≡◌, ℕ, ◌+◌, Bool, true, false, List, [], ◌∷◌, length, Option, Some, None, Result, Ok, Err, refl}
use Rattle.std.specs.Prelude.{◌&&◌, ◌||◌, nat_le, nat_lt, is_some, IfErr}
use Rattle.std.specs.Str.{bytes_eq}
use Rattle.solv_base.specs.Dependency.{Dep, plain, versioned, one, namespace, and, or, with, without, if_holds, unless_holds, joined, under, under_else, missing}
use Rattle.solv_base.specs.Pool.{Held, most, is_name}
use Rattle.solv_base.specs.declared.comparison.Cmp.{Cmp}
use Rattle.solv_base.specs.declared.relation.DepNode.{DepNode}
use Rattle.solv_base.specs.declared.relation.DepNode.TheVariants.{Simple, Versioned, Namespace, And, Or, With, Without, If, IfElse, Unless, UnlessElse}
use Rattle.solv_io.specs.Words.{words_of}
use Rattle.solv_pool.specs.Contents.{most_packages}
use Rattle.solv_pool.specs.Prelude.{WrittenPackage}
use Rattle.solv_deps.specs.Entering.{Entered, text_entered, relation_entered, pair_entered, triple_entered, dependency_entered}
use Rattle.solv_deps.specs.Inner.Entering.{is_relation}
use Rattle.solv_deps.specs.Inner.Signs.{operator, opens, closes}
use Rattle.solv_deps.specs.Grammar.{comparison, is_plain}
use Rattle.solv_deps.specs.Inner.Reading.{Hand, Due, operand_due, evr_due, operator_due, Point, goes_on, refused_operator, close, go_on, at_operator, comparison_due, step_due, step, end_due, reading_from, beginning}
use Rattle.solv_deps.specs.Reading.{and_then, reading, dependency}
use Rattle.solv_deps.specs.Table.{stands_at}
use Rattle.solv_deps.specs.Words.{words}
use Rattle.solv_deps.specs.declared.fault.DepFault.{DepFault}
use Rattle.solv_deps.specs.declared.fault.DepFault.TheVariants as of_text
use Rattle.solv_deps.specs.declared.place.Place.{Place}
use Rattle.solv_deps.specs.declared.sign.Operator.{Operator}
use Rattle.solv_deps.specs.declared.sign.Operator.TheVariants as sign
use Rattle.solv_tags.specs.Entries.{evr_text}
use Rattle.solv_tags.specs.Inner.Tags.{entry_sign, opening_sign, closing_sign, after_heading, tag, place_of}
use Rattle.solv_tags.specs.Headings.{is_heading, letters, trimmed}
use Rattle.solv_tags.specs.Testtags.{Tagged, Repository, packages_so_far, cause_of, or_cause, testtags}
use Rattle.solv_tags.specs.Inner.Lines.{texts_entered, begun, package_entry, vendor_entry, path_entry, dependency_entry, entry_of, entry_of_hand, entry, entry_if_tag, opens_block, with_block, outside_block, block_entry, inside_block, line_by_block, line_read, end_read, or_bad, lines_read, no_line}
use Rattle.solv_tags.specs.declared.tag.Tag.{Tag}
use Rattle.solv_tags.specs.declared.tag.Tag.TheVariants.{Pkg, Prv, Req, Prq, Con, Obs, Rec, Sug, Sup, Enh, Vnd, Fls}
use Rattle.solv_tags.specs.declared.tag_fault.TagCause.{TagCause}
use Rattle.solv_tags.specs.declared.tag_fault.TagCause.TheVariants as of_tag
use Rattle.solv_tags.specs.declared.tag_fault.TagFault.{TagFault}
use Rattle.solv_deps.proofs.SameReading.{same_reading}
use Rattle.solv_tags.proofs.SameLines.{testtags_same}
use Rattle.solv_list.proofs.Answers.{either}

-- is it running out of memory?
abbrev pub is_want : DepFault → Bool
is_want of_text.Memory = true
is_want fault = false

abbrev pub is_tag_want : TagCause → Bool
is_tag_want of_tag.Memory = true
is_tag_want (of_tag.Dep fault) = is_want fault
is_tag_want c = false

abbrev pub IsOwn : DepFault → Type 0
IsOwn fault = is_want fault ≡ false

abbrev pub IsOwnCause : TagCause → Type 0
IsOwnCause c = is_tag_want c ≡ false

both_steps : {A B : Type 0} (r : Result A DepFault) (next : A → Result B DepFault) → IfErr r IsOwn → ((x : A) → IfErr (next x) IsOwn) → IfErr (and_then r next) IsOwn
both_steps (Ok x) next h k = k x
both_steps (Err e) next h k = h

-- reading
operator_own : (o : Operator) → IsOwn (refused_operator o)
operator_own (sign.Link j) = refl
operator_own sign.Minus = refl
operator_own (sign.Condition k) = refl
operator_own sign.Else = refl

go_on_own : (outer : List Hand) (n : ℕ) (o : Operator) (h : Option Hand) → IfErr (go_on outer n o h) IsOwn
go_on_own outer n o None = operator_own o
go_on_own outer n o (Some h) = either IsOwn (nat_le 64 n) _ _ refl tt

close_own : (outer : List Hand) (n : ℕ) (h : Hand) (d : Dep (List ℕ)) → IfErr (close outer n h d) IsOwn
close_own [] n h d = refl
close_own (o ∷ outer) n h d = tt

operator_step : (outer : List Hand) (n : ℕ) (h : Hand) (d : Dep (List ℕ)) (w : List ℕ) (x : Option (List ℕ × Cmp)) (o : Option Operator) → IfErr (at_operator outer n h d w x o) IsOwn
operator_step outer n h d w (Some x) o = tt
operator_step outer n h d w None (Some o) = go_on_own outer n o (goes_on outer h d o)
operator_step outer n h d w None None = either IsOwn (closes w) _ _ (close_own outer n h d) refl

due_own : (outer : List Hand) (n : ℕ) (due : Due) (w : List ℕ) → IfErr (step_due outer n due w) IsOwn
due_own outer n (operand_due h) w = either IsOwn (opens w) _ _ (either IsOwn (nat_le 64 (length outer)) _ _ refl tt) (either IsOwn (is_plain w) _ _ tt refl)
due_own outer n (evr_due h name c) w = either IsOwn (is_plain w) _ _ tt refl
due_own outer n (operator_due h name d) w = operator_step outer n h d w (comparison_due (comparison w) name) (operator w)

end_own : (outer : List Hand) (due : Due) → IfErr (end_due outer due) IsOwn
end_own outer (operand_due h) = refl
end_own outer (evr_due h name c) = refl
end_own [] (operator_due h name d) = tt
end_own (o ∷ outer) (operator_due h name d) = refl

reading_own : (p : Point) (ws : List (List ℕ)) → IfErr (reading_from p ws) IsOwn
reading_own p [] = end_own p.outer p.due
reading_own p (w ∷ ws) = both_steps (step p w) _ (due_own p.outer p.operators p.due w) (λ q. reading_own q ws)

pub dependency_own : (place : Place) (text : List ℕ) → IfErr (dependency place text) IsOwn
dependency_own place text = both_steps (reading (words text)) _ (rw (same_reading (words text)) (reading_own beginning (words text))) (λ d. either IsOwn (stands_at place d) _ _ tt refl)

-- entering
pub text_own : (text : List ℕ) (held : Held) → IfErr (text_entered text held) IsOwn
text_own text held = either IsOwn (is_name held.names text || nat_lt (length held.names) most) _ _ tt refl

relation_own : (node : DepNode) (held : Held) → IfErr (relation_entered node held) IsOwn
relation_own node held = either IsOwn (is_relation held.nodes node || nat_lt (length held.nodes) most) _ _ tt refl

-- what is entered into any pool with causes of its own alone
abbrev EntersOwn : (Held → Result Entered DepFault) → Type 0
EntersOwn enters = (held : Held) → IfErr (enters held) IsOwn

pair_own : (first second : Held → Result Entered DepFault) (node : ℕ → ℕ → DepNode) → EntersOwn first → EntersOwn second → EntersOwn (pair_entered first second node)
pair_own first second node h k held = both_steps (first held) _ (h held) (λ a. both_steps (second a.held) _ (k a.held) (λ b. relation_own (node a.id b.id) b.held))

triple_own : (first second third : Held → Result Entered DepFault) (node : ℕ → ℕ → ℕ → DepNode) → EntersOwn first → EntersOwn second → EntersOwn third → EntersOwn (triple_entered first second third node)
triple_own first second third node h k l held =
    both_steps (first held) _ (h held) (λ a. pair_own second third (node a.id) k l a.held)

pub entered_own : (d : Dep (List ℕ)) (held : Held) → IfErr (dependency_entered d held) IsOwn
entered_own (one (plain name)) held = both_steps (text_entered name held) _ (text_own name held) (λ n. relation_own (Simple n.id) n.held)
entered_own (one (versioned name c evr)) held = pair_own (text_entered name) (text_entered evr) (λ n e. Versioned n c e) (text_own name) (text_own evr) held
entered_own (namespace name) held = both_steps (text_entered name held) _ (text_own name held) (λ n. relation_own (Namespace n.id) n.held)
entered_own (joined and a b) held = pair_own (dependency_entered a) (dependency_entered b) And (entered_own a) (entered_own b) held
entered_own (joined or a b) held = pair_own (dependency_entered a) (dependency_entered b) Or (entered_own a) (entered_own b) held
entered_own (joined with a b) held = pair_own (dependency_entered a) (dependency_entered b) With (entered_own a) (entered_own b) held
entered_own (joined without a b) held = pair_own (dependency_entered a) (dependency_entered b) Without (entered_own a) (entered_own b) held
entered_own (under if_holds a b) held = pair_own (dependency_entered a) (dependency_entered b) If (entered_own a) (entered_own b) held
entered_own (under unless_holds a b) held = pair_own (dependency_entered a) (dependency_entered b) Unless (entered_own a) (entered_own b) held
entered_own (under_else if_holds a b c) held = triple_own (dependency_entered a) (dependency_entered b) (dependency_entered c) IfElse (entered_own a) (entered_own b) (entered_own c) held
entered_own (under_else unless_holds a b c) held = triple_own (dependency_entered a) (dependency_entered b) (dependency_entered c) UnlessElse (entered_own a) (entered_own b) (entered_own c) held
entered_own missing held = refl

-- the lines of a repository
cause_own : (fault : DepFault) → IsOwn fault → IsOwnCause (cause_of fault)
cause_own of_text.BadOperator h = refl
cause_own of_text.MissingOperand h = refl
cause_own of_text.MixedOperators h = refl
cause_own of_text.UnclosedParenthesis h = refl
cause_own of_text.TooDeep h = refl
cause_own of_text.OperatorNotHere h = refl
cause_own of_text.FullNames h = refl
cause_own of_text.FullRelations h = refl
cause_own of_text.Memory h = absurd (cc)

text_then : {A B : Type 0} (r : Result A DepFault) (next : A → Result B TagCause) → IfErr r IsOwn → ((x : A) → IfErr (next x) IsOwnCause) → IfErr (or_cause r next) IsOwnCause
text_then (Ok x) next h k = k x
text_then (Err fault) next h k = cause_own fault h

texts_then : (texts : List (List ℕ)) (held : Held) (next : Held → Result Tagged TagCause) → ((h : Held) → IfErr (next h) IsOwnCause) → IfErr (texts_entered texts held next) IsOwnCause
texts_then [] held next h = h held
texts_then (text ∷ texts) held next h = text_then (text_entered text held) _ (text_own text held) (λ e. texts_then texts e.held next h)

begun_own : (s : Tagged) (name evr arch : List ℕ) → IfErr (begun s name evr arch) IsOwnCause
begun_own s name evr arch =
    either IsOwnCause (nat_le most_packages (s.before + length (packages_so_far s))) _ _ refl (texts_then (name ∷ evr ∷ arch ∷ []) s.held _ (λ held. tt))

package_own : (s : Tagged) (words : List (List ℕ)) → IfErr (package_entry s words) IsOwnCause
package_own s (name ∷ version ∷ release ∷ arch ∷ []) = begun_own s name (evr_text version release) arch
package_own s [] = refl
package_own s (a ∷ []) = refl
package_own s (a ∷ b ∷ []) = refl
package_own s (a ∷ b ∷ c ∷ []) = refl
package_own s (a ∷ b ∷ c ∷ d ∷ e ∷ words) = refl

vendor_own : (s : Tagged) (a : WrittenPackage) (text : List ℕ) → IfErr (vendor_entry s a text) IsOwnCause
vendor_own s a [] = tt
vendor_own s a (x ∷ xs) = text_then (text_entered (x ∷ xs) s.held) _ (text_own (x ∷ xs) s.held) (λ e. tt)

path_own : (s : Tagged) (a : WrittenPackage) (text : List ℕ) → IfErr (path_entry s a text) IsOwnCause
path_own s a [] = tt
path_own s a (x ∷ xs) = text_then (text_entered (x ∷ xs) s.held) _ (text_own (x ∷ xs) s.held) (λ e. tt)

entry_dependency_own : (s : Tagged) (a : WrittenPackage) (t : Tag) (text : List ℕ) → IfErr (dependency_entry s a t text) IsOwnCause
entry_dependency_own s a t text =
    text_then (dependency (place_of t) text) _ (dependency_own (place_of t) text) (λ d. text_then (dependency_entered d s.held) _ (entered_own d s.held) (λ e. tt))

entry_own : (s : Tagged) (a : WrittenPackage) (t : Tag) (text : List ℕ) → IfErr (entry_of s a t text) IsOwnCause
entry_own s a Vnd text = vendor_own s a (trimmed text)
entry_own s a Fls text = path_own s a (trimmed text)
entry_own s a Pkg text = entry_dependency_own s a Pkg text
entry_own s a Prv text = entry_dependency_own s a Prv text
entry_own s a Req text = entry_dependency_own s a Req text
entry_own s a Prq text = entry_dependency_own s a Prq text
entry_own s a Con text = entry_dependency_own s a Con text
entry_own s a Obs text = entry_dependency_own s a Obs text
entry_own s a Rec text = entry_dependency_own s a Rec text
entry_own s a Sug text = entry_dependency_own s a Sug text
entry_own s a Sup text = entry_dependency_own s a Sup text
entry_own s a Enh text = entry_dependency_own s a Enh text

hand_own : (s : Tagged) (hand : Option WrittenPackage) (t : Tag) (text : List ℕ) → IfErr (entry_of_hand s hand t text) IsOwnCause
hand_own s None t text = refl
hand_own s (Some a) t text = entry_own s a t text

any_entry_own : (s : Tagged) (t : Tag) (text : List ℕ) → IfErr (entry s t text) IsOwnCause
any_entry_own s Pkg text = package_own s (words_of text)
any_entry_own s Prv text = hand_own s s.hand Prv text
any_entry_own s Req text = hand_own s s.hand Req text
any_entry_own s Prq text = hand_own s s.hand Prq text
any_entry_own s Con text = hand_own s s.hand Con text
any_entry_own s Obs text = hand_own s s.hand Obs text
any_entry_own s Rec text = hand_own s s.hand Rec text
any_entry_own s Sug text = hand_own s s.hand Sug text
any_entry_own s Sup text = hand_own s s.hand Sup text
any_entry_own s Enh text = hand_own s s.hand Enh text
any_entry_own s Vnd text = hand_own s s.hand Vnd text
any_entry_own s Fls text = hand_own s s.hand Fls text

tag_own : (s : Tagged) (t : Option Tag) (text : List ℕ) → IfErr (entry_if_tag s t text) IsOwnCause
tag_own s None text = tt
tag_own s (Some t) text = any_entry_own s t text

opening_own : (s : Tagged) (name : List ℕ) (hand : Option WrittenPackage) (t : Option Tag) → IfErr (with_block s name (opens_block hand t)) IsOwnCause
opening_own s name hand None = tt
opening_own s name hand (Some Pkg) = tt
opening_own s name (Some a) (Some Prv) = tt
opening_own s name (Some a) (Some Req) = tt
opening_own s name (Some a) (Some Prq) = tt
opening_own s name (Some a) (Some Con) = tt
opening_own s name (Some a) (Some Obs) = tt
opening_own s name (Some a) (Some Rec) = tt
opening_own s name (Some a) (Some Sug) = tt
opening_own s name (Some a) (Some Sup) = tt
opening_own s name (Some a) (Some Enh) = tt
opening_own s name (Some a) (Some Vnd) = tt
opening_own s name (Some a) (Some Fls) = tt
opening_own s name None (Some Prv) = refl
opening_own s name None (Some Req) = refl
opening_own s name None (Some Prq) = refl
opening_own s name None (Some Con) = refl
opening_own s name None (Some Obs) = refl
opening_own s name None (Some Rec) = refl
opening_own s name None (Some Sug) = refl
opening_own s name None (Some Sup) = refl
opening_own s name None (Some Enh) = refl
opening_own s name None (Some Vnd) = refl
opening_own s name None (Some Fls) = refl

outside_own : (s : Tagged) (line : List ℕ) → IfErr (outside_block s line) IsOwnCause
outside_own s line =
    either IsOwnCause (is_heading entry_sign line) _ _ (tag_own s (tag (letters line)) (after_heading line))
    (either IsOwnCause (is_heading opening_sign line) _ _ (opening_own s (letters line) s.hand (tag (letters line))) tt)

block_own : (s : Tagged) (name line text : List ℕ) → IfErr (block_entry s name line text) IsOwnCause
block_own s name line [] = tt
block_own s name line (x ∷ xs) = tag_own s (tag name) line

inside_own : (s : Tagged) (name line : List ℕ) → IfErr (inside_block s name line) IsOwnCause
inside_own s name line = either IsOwnCause (is_heading closing_sign line && bytes_eq (letters line) name) _ _ tt (block_own s name line (trimmed line))

by_block_own : (s : Tagged) (block : Option (List ℕ)) (line : List ℕ) → IfErr (line_by_block s block line) IsOwnCause
by_block_own s None line = outside_own s line
by_block_own s (Some name) line = inside_own s name line

abbrev IsOwnFault : TagFault → Type 0
IsOwnFault fault = IsOwnCause fault.cause

end_own_cause : (last : ℕ) (s : Tagged) → IfErr (end_read last s) IsOwnFault
end_own_cause last s = either IsOwnFault (is_some s.block) _ _ refl tt

bad_then : (n : ℕ) (r : Result Tagged TagCause) (next : Tagged → Result Repository TagFault) → IfErr r IsOwnCause → ((t : Tagged) → IfErr (next t) IsOwnFault) → IfErr (or_bad n r next) IsOwnFault
bad_then n (Ok t) next h k = k t
bad_then n (Err c) next h k = h

lines_own : (last : ℕ) (s : Tagged) (lines : List (ℕ × List ℕ)) → IfErr (lines_read last s lines) IsOwnFault
lines_own last s [] = end_own_cause last s
lines_own last s (line ∷ others) = bad_then line.0 (line_read s line.1) _ (by_block_own s s.block line.1) (λ t. lines_own line.0 t others)

pub tags_own : (held : Held) (before repo : ℕ) (lines : List (ℕ × List ℕ)) → IfErr (testtags held before repo lines) (λ fault. is_tag_want fault.cause ≡ false)
tags_own held before repo lines = rw (testtags_same held before repo lines) (lines_own 0 (no_line held before repo) lines)
