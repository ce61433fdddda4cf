-- The packages that a testtags file gives have dependencies of forms that may stand at their places.
use Rattle.std.proofs.Common.{◌≡◌, ℕ, ◌+◌, Bool, true, false, List, [], ◌∷◌, ◌++◌, map, length, Option, Some, None, Result, Ok, Err, refl, sym, ◌∙◌, ◌≤◌, arith}
use Rattle.std.specs.Prelude.{◌&&◌, ◌||◌, option_to_list, nat_le, is_some, IfOk, if◌then◌else◌}
use Rattle.std.specs.List.{list_any, list_all}
use Rattle.std.specs.Str.{bytes_eq}
use Rattle.std.proofs.lemmas.Bool.Decides.{nat_tests}
use Rattle.solv_io.specs.Lines.{numbered_lines}
use Rattle.solv_io.specs.Words.{words_of}
use Rattle.solv_base.specs.Dependency.{Dep, operators}
use Rattle.solv_base.specs.Pool.{Held}
use Rattle.solv_pool.specs.Prelude.{WrittenNeed, WrittenPackage}
use Rattle.solv_pool.specs.Contents.{most_packages}
use Rattle.solv_pool.specs.TaskForms.{most_operators}
use Rattle.solv_deps.specs.Entering.{text_entered, dependency_entered}
use Rattle.solv_deps.specs.Reading.{and_then, dependency, reading}
use Rattle.solv_deps.specs.Table.{is_capability, stands_at}
use Rattle.solv_deps.specs.Words.{words}
use Rattle.solv_deps.specs.declared.fault.DepFault.{DepFault}
use Rattle.solv_deps.specs.declared.fault.DepFault.TheVariants.{OperatorNotHere}
use Rattle.solv_deps.specs.declared.place.Place.{Place}
use Rattle.solv_deps.specs.declared.place.Place.TheVariants.{Requires, Conflicts, Plain}
use Rattle.solv_tags.specs.Entries.{is_same, with_dependency, with_need, bare_package, evr_text}
use Rattle.solv_tags.specs.Inner.Tags.{also_pre, with_entry}
use Rattle.solv_tags.specs.EntryForms.{has_written_form, is_written_formed, EntriesHaveForms}
use Rattle.solv_tags.specs.Inner.Tags.{entry_sign, opening_sign, closing_sign, after_heading, tag, place_of}
use Rattle.solv_tags.specs.Headings.{is_heading, letters, trimmed}
use Rattle.solv_tags.specs.Testtags.{Tagged, Repository, packages_so_far, or_cause}
use Rattle.solv_tags.specs.Inner.Lines.{texts_entered, begun, package_entry, vendor_entry, path_entry, dependency_entry, entry_of, entry_of_hand, entry, entry_if_tag, opens_block, with_block, outside_block, block_entry, inside_block, line_by_block, line_read, end_read, or_bad, lines_read, no_line}
use Rattle.solv_tags.specs.Inner.Testtags.{testtags_file}
use Rattle.solv_tags.specs.declared.tag.Tag.{Tag}
use Rattle.solv_tags.specs.declared.tag.Tag.TheVariants.{Pkg, Prv, Req, Prq, Con, Obs, Rec, Sug, Sup, Enh, Vnd, Fls}
use Rattle.solv_tags.specs.declared.tag_fault.TagCause.{TagCause}
use Rattle.solv_tags.specs.declared.tag_fault.TagCause.TheVariants as cause
use Rattle.solv_tags.specs.declared.tag_fault.TagFault.{TagFault}
use Rattle.solv_tags.specs.Inner.Lines.{tags_read}
use Rattle.solv_tags.proofs.SameLines.{testtags_same}
use Rattle.solv_deps.proofs.RoundTrip.{few_operators}
use Rattle.solv_list.proofs.Answers.{one_or}
use Rattle.solv_list.proofs.Booleans.{first_of_both, second_of_both}
use Rattle.solv_list.proofs.Lists.{list_all_join}
use Rattle.std.proofs.lemmas.Bool.{and_from}

-- has a form that may stand at this place
abbrev pub is_placed : Place → Dep (List ℕ) → Bool
is_placed Requires d = has_written_form true d
is_placed Conflicts d = has_written_form false d
is_placed Plain d = is_capability d

stands_placed : (place : Place) (d : Dep (List ℕ)) → stands_at place d ≡ true → nat_le (operators d) most_operators ≡ true → is_placed place d ≡ true
stands_placed Requires d h few = rw (h, few) refl
stands_placed Conflicts d h few = rw (h, few) refl
stands_placed Plain d h few = h

stands_if : (place : Place) (x d : Dep (List ℕ)) (b : Bool) → stands_at place x ≡ b → (let r : Result (Dep (List ℕ)) DepFault = if b then Ok x else Err OperatorNotHere in r) ≡ Ok d → stands_at place d ≡ true
stands_if place x d true e h = let same : x ≡ d = cc in rw (← same) e
stands_if place x d false e h = absurd (cc)

read_if : (place : Place) (r : Result (Dep (List ℕ)) DepFault) (d : Dep (List ℕ)) → and_then r (λ x. if stands_at place x then Ok x else Err OperatorNotHere) ≡ Ok d → stands_at place d ≡ true
read_if place (Ok x) d h = stands_if place x d (stands_at place x) refl h
read_if place (Err e) d h = absurd (cc)

-- what a text gives at a place has such a form
pub read_placed : (place : Place) (text : List ℕ) (d : Dep (List ℕ)) → dependency place text ≡ Ok d → is_placed place d ≡ true
read_placed place text d h =
    let few : operators d ≤ 64 = few_operators place text d h in
    let le : nat_le (operators d) most_operators ≡ true = grind (arith, nat_tests) in
    stands_placed place d (read_if place (reading (words text)) d h) le

-- each dependency of a package has a form that may stand at its place
record IsFormed (a : WrittenPackage) : Type 0 where
  provides : list_all is_capability a.provides ≡ true
  requires_ : list_all (λ (need : WrittenNeed). has_written_form true need.dep) a.requires_ ≡ true
  conflicts : list_all (has_written_form false) a.conflicts ≡ true
  obsoletes : list_all is_capability a.obsoletes ≡ true
  recommends : list_all (has_written_form true) a.recommends ≡ true
  suggests : list_all (has_written_form true) a.suggests ≡ true
  supplements : list_all (has_written_form true) a.supplements ≡ true
  enhances : list_all (has_written_form true) a.enhances ≡ true

formed_is : (a : WrittenPackage) → IsFormed a → is_written_formed a ≡ true
formed_is a f =
    let later = has_written_form true in
    let plain : list_all is_capability (a.provides ++ a.obsoletes) ≡ true = list_all_join is_capability a.provides a.obsoletes f.provides f.obsoletes in
    let k2 : list_all later (a.supplements ++ a.enhances) ≡ true = list_all_join later a.supplements a.enhances f.supplements f.enhances in
    let k1 : list_all later (a.suggests ++ (a.supplements ++ a.enhances)) ≡ true = list_all_join later a.suggests (a.supplements ++ a.enhances) f.suggests k2 in
    let k0 : list_all later (a.recommends ++ (a.suggests ++ (a.supplements ++ a.enhances))) ≡ true = list_all_join later a.recommends (a.suggests ++ (a.supplements ++ a.enhances)) f.recommends k1 in
    rw (f.requires_, f.conflicts, plain, k0) refl

-- a list with a dependency more
dependency_more : (f : Dep (List ℕ) → Bool) (d : Dep (List ℕ)) (l : List (Dep (List ℕ))) → f d ≡ true → list_all f l ≡ true → list_all f (with_dependency d l) ≡ true
dependency_more f d l h k =
    elim (list_any (is_same d) l) as (λ b. list_all f (if b then l else l ++ d ∷ []) ≡ true) [
      | true ↦ k
      | false ↦ list_all_join f l (d ∷ []) k (and_from (f d) true h refl)
    ]

also_form : (f : Dep (List ℕ) → Bool) (d : Dep (List ℕ)) (pre : Bool) (need : WrittenNeed) → f need.dep ≡ true → f (also_pre d pre need).dep ≡ true
also_form f d pre need h = elim (is_same d need.dep) as (λ b. f (if b then record { dep = need.dep; pre = need.pre || pre } else need).dep ≡ true) [ true ↦ h | false ↦ h ]

also_all : (f : Dep (List ℕ) → Bool) (d : Dep (List ℕ)) (pre : Bool) (l : List WrittenNeed) → list_all (λ need. f need.dep) l ≡ true → list_all (λ need. f need.dep) (map (also_pre d pre) l) ≡ true
also_all f d pre [] h = refl
also_all f d pre (need ∷ l) h =
    and_from (f (also_pre d pre need).dep) (list_all (λ n. f n.dep) (map (also_pre d pre) l))
    (also_form f d pre need (first_of_both (f need.dep) (list_all (λ n. f n.dep) l) h)) (also_all f d pre l (second_of_both (f need.dep) (list_all (λ n. f n.dep) l) h))

-- a list with a requirement more
need_more : (f : Dep (List ℕ) → Bool) (d : Dep (List ℕ)) (pre : Bool) (l : List WrittenNeed) → f d ≡ true → list_all (λ need. f need.dep) l ≡ true → list_all (λ need. f need.dep) (with_need d pre l) ≡ true
need_more f d pre l h k =
    elim (list_any (λ (need : WrittenNeed). is_same d need.dep) l) as (λ b. list_all (λ (need : WrittenNeed). f need.dep) (if b then map (also_pre d pre) l else l ++ record { dep = d; pre = pre } ∷ []) ≡ true) [
      | true ↦ also_all f d pre l k
      | false ↦ list_all_join (λ (need : WrittenNeed). f need.dep) l (record { dep = d; pre = pre } ∷ []) k (and_from (f d) true h refl)
    ]

-- a package with a dependency more
entry_formed : (t : Tag) (d : Dep (List ℕ)) (a : WrittenPackage) → is_placed (place_of t) d ≡ true → IsFormed a → IsFormed (with_entry t d a)
entry_formed Prv d a h f = record { provides = dependency_more is_capability d a.provides h f.provides; requires_ = f.requires_; conflicts = f.conflicts; obsoletes = f.obsoletes; recommends = f.recommends; suggests = f.suggests; supplements = f.supplements; enhances = f.enhances }
entry_formed Req d a h f = record { provides = f.provides; requires_ = need_more (has_written_form true) d false a.requires_ h f.requires_; conflicts = f.conflicts; obsoletes = f.obsoletes; recommends = f.recommends; suggests = f.suggests; supplements = f.supplements; enhances = f.enhances }
entry_formed Prq d a h f = record { provides = f.provides; requires_ = need_more (has_written_form true) d true a.requires_ h f.requires_; conflicts = f.conflicts; obsoletes = f.obsoletes; recommends = f.recommends; suggests = f.suggests; supplements = f.supplements; enhances = f.enhances }
entry_formed Con d a h f = record { provides = f.provides; requires_ = f.requires_; conflicts = dependency_more (has_written_form false) d a.conflicts h f.conflicts; obsoletes = f.obsoletes; recommends = f.recommends; suggests = f.suggests; supplements = f.supplements; enhances = f.enhances }
entry_formed Obs d a h f = record { provides = f.provides; requires_ = f.requires_; conflicts = f.conflicts; obsoletes = dependency_more is_capability d a.obsoletes h f.obsoletes; recommends = f.recommends; suggests = f.suggests; supplements = f.supplements; enhances = f.enhances }
entry_formed Rec d a h f = record { provides = f.provides; requires_ = f.requires_; conflicts = f.conflicts; obsoletes = f.obsoletes; recommends = dependency_more (has_written_form true) d a.recommends h f.recommends; suggests = f.suggests; supplements = f.supplements; enhances = f.enhances }
entry_formed Sug d a h f = record { provides = f.provides; requires_ = f.requires_; conflicts = f.conflicts; obsoletes = f.obsoletes; recommends = f.recommends; suggests = dependency_more (has_written_form true) d a.suggests h f.suggests; supplements = f.supplements; enhances = f.enhances }
entry_formed Sup d a h f = record { provides = f.provides; requires_ = f.requires_; conflicts = f.conflicts; obsoletes = f.obsoletes; recommends = f.recommends; suggests = f.suggests; supplements = dependency_more (has_written_form true) d a.supplements h f.supplements; enhances = f.enhances }
entry_formed Enh d a h f = record { provides = f.provides; requires_ = f.requires_; conflicts = f.conflicts; obsoletes = f.obsoletes; recommends = f.recommends; suggests = f.suggests; supplements = f.supplements; enhances = dependency_more (has_written_form true) d a.enhances h f.enhances }
entry_formed Pkg d a h f = f
entry_formed Vnd d a h f = f
entry_formed Fls d a h f = f

-- the package in hand, if any, is such
abbrev HandFormed : Option WrittenPackage → Type 0
HandFormed None = Unit {0}
HandFormed (Some a) = IsFormed a

-- the packages so far are such
record AreFormed (s : Tagged) : Type 0 where
  done : list_all is_written_formed s.done ≡ true
  hand : HandFormed s.hand

hand_is : (hand : Option WrittenPackage) → HandFormed hand → list_all is_written_formed (option_to_list hand) ≡ true
hand_is None h = refl
hand_is (Some a) h = and_from (is_written_formed a) true (formed_is a h) refl

so_far_formed : (s : Tagged) → AreFormed s → list_all is_written_formed (packages_so_far s) ≡ true
so_far_formed s f = list_all_join is_written_formed s.done (option_to_list s.hand) f.done (hand_is s.hand f.hand)

pub text_then : {A B : Type 0} (P : B → Type 0) (r : Result A DepFault) (next : A → Result B TagCause) → ((x : A) → r ≡ Ok x → IfOk (next x) P) → IfOk (or_cause r next) P
text_then P (Ok x) next h = h x refl
text_then P (Err e) next h = tt

pub texts_then : (P : Tagged → Type 0) (texts : List (List ℕ)) (held : Held) (next : Held → Result Tagged TagCause) → ((h : Held) → IfOk (next h) P) → IfOk (texts_entered texts held next) P
texts_then P [] held next h = h held
texts_then P (text ∷ texts) held next h = text_then P (text_entered text held) (λ e. texts_entered texts e.held next) (λ e is. texts_then P texts e.held next h)

cause_or : {B : Type 0} (P : B → Type 0) (b : Bool) (c : TagCause) (r : Result B TagCause) → IfOk r P → IfOk (if b then Err c else r) P
cause_or P true c r h = tt
cause_or P false c r h = h

bare_formed : (repo : ℕ) (name evr arch : List ℕ) → IsFormed (bare_package repo name evr arch)
bare_formed repo name evr arch = record { provides = refl; requires_ = refl; conflicts = refl; obsoletes = refl; recommends = refl; suggests = refl; supplements = refl; enhances = refl }

begun_formed : (s : Tagged) (name evr arch : List ℕ) → AreFormed s → IfOk (begun s name evr arch) AreFormed
begun_formed s name evr arch f =
    cause_or AreFormed (nat_le most_packages (s.before + length (packages_so_far s))) cause.TooManyPackages _ (texts_then AreFormed (name ∷ evr ∷ arch ∷ []) s.held
    (λ held. Ok (record s { held = held; done = packages_so_far s; hand = Some (bare_package s.repo name evr arch) }))
    (λ held. record { done = so_far_formed s f; hand = bare_formed s.repo name evr arch }))

package_formed : (s : Tagged) (words : List (List ℕ)) → AreFormed s → IfOk (package_entry s words) AreFormed
package_formed s (name ∷ version ∷ release ∷ arch ∷ []) f = begun_formed s name (evr_text version release) arch f
package_formed s [] f = tt
package_formed s (a ∷ []) f = tt
package_formed s (a ∷ b ∷ []) f = tt
package_formed s (a ∷ b ∷ c ∷ []) f = tt
package_formed s (a ∷ b ∷ c ∷ d ∷ e ∷ words) f = tt

vendor_formed : (s : Tagged) (a : WrittenPackage) (text : List ℕ) → AreFormed s → IsFormed a → IfOk (vendor_entry s a text) AreFormed
vendor_formed s a [] f g = f
vendor_formed s a (x ∷ xs) f g =
    text_then AreFormed (text_entered (x ∷ xs) s.held) _
    (λ e is. record { done = f.done; hand = record { provides = g.provides; requires_ = g.requires_; conflicts = g.conflicts; obsoletes = g.obsoletes; recommends = g.recommends; suggests = g.suggests; supplements = g.supplements; enhances = g.enhances } })

path_formed : (s : Tagged) (a : WrittenPackage) (text : List ℕ) → AreFormed s → IsFormed a → IfOk (path_entry s a text) AreFormed
path_formed s a [] f g = f
path_formed s a (x ∷ xs) f g =
    text_then AreFormed (text_entered (x ∷ xs) s.held) _
    (λ e is. record { done = f.done; hand = record { provides = g.provides; requires_ = g.requires_; conflicts = g.conflicts; obsoletes = g.obsoletes; recommends = g.recommends; suggests = g.suggests; supplements = g.supplements; enhances = g.enhances } })

dependency_formed : (s : Tagged) (a : WrittenPackage) (t : Tag) (text : List ℕ) → AreFormed s → IsFormed a → IfOk (dependency_entry s a t text) AreFormed
dependency_formed s a t text f g =
    text_then AreFormed (dependency (place_of t) text) _ (λ d read. text_then AreFormed (dependency_entered d s.held) _
    (λ e is. record { done = f.done; hand = entry_formed t d a (read_placed (place_of t) text d read) g }))

entry_of_formed : (s : Tagged) (a : WrittenPackage) (t : Tag) (text : List ℕ) → AreFormed s → IsFormed a → IfOk (entry_of s a t text) AreFormed
entry_of_formed s a Vnd text f g = vendor_formed s a (trimmed text) f g
entry_of_formed s a Fls text f g = path_formed s a (trimmed text) f g
entry_of_formed s a Pkg text f g = dependency_formed s a Pkg text f g
entry_of_formed s a Prv text f g = dependency_formed s a Prv text f g
entry_of_formed s a Req text f g = dependency_formed s a Req text f g
entry_of_formed s a Prq text f g = dependency_formed s a Prq text f g
entry_of_formed s a Con text f g = dependency_formed s a Con text f g
entry_of_formed s a Obs text f g = dependency_formed s a Obs text f g
entry_of_formed s a Rec text f g = dependency_formed s a Rec text f g
entry_of_formed s a Sug text f g = dependency_formed s a Sug text f g
entry_of_formed s a Sup text f g = dependency_formed s a Sup text f g
entry_of_formed s a Enh text f g = dependency_formed s a Enh text f g

hand_formed : (s : Tagged) (hand : Option WrittenPackage) (t : Tag) (text : List ℕ) → AreFormed s → HandFormed hand → IfOk (entry_of_hand s hand t text) AreFormed
hand_formed s None t text f g = tt
hand_formed s (Some a) t text f g = entry_of_formed s a t text f g

any_entry_formed : (s : Tagged) (t : Tag) (text : List ℕ) → AreFormed s → IfOk (entry s t text) AreFormed
any_entry_formed s Pkg text f = package_formed s (words_of text) f
any_entry_formed s Prv text f = hand_formed s s.hand Prv text f f.hand
any_entry_formed s Req text f = hand_formed s s.hand Req text f f.hand
any_entry_formed s Prq text f = hand_formed s s.hand Prq text f f.hand
any_entry_formed s Con text f = hand_formed s s.hand Con text f f.hand
any_entry_formed s Obs text f = hand_formed s s.hand Obs text f f.hand
any_entry_formed s Rec text f = hand_formed s s.hand Rec text f f.hand
any_entry_formed s Sug text f = hand_formed s s.hand Sug text f f.hand
any_entry_formed s Sup text f = hand_formed s s.hand Sup text f f.hand
any_entry_formed s Enh text f = hand_formed s s.hand Enh text f f.hand
any_entry_formed s Vnd text f = hand_formed s s.hand Vnd text f f.hand
any_entry_formed s Fls text f = hand_formed s s.hand Fls text f f.hand

tag_formed : (s : Tagged) (t : Option Tag) (text : List ℕ) → AreFormed s → IfOk (entry_if_tag s t text) AreFormed
tag_formed s None text f = f
tag_formed s (Some t) text f = any_entry_formed s t text f

with_block_formed : (s : Tagged) (name : List ℕ) (c : Option TagCause) → AreFormed s → IfOk (with_block s name c) AreFormed
with_block_formed s name None f = record { done = f.done; hand = f.hand }
with_block_formed s name (Some c) f = tt

outside_formed : (s : Tagged) (line : List ℕ) → AreFormed s → IfOk (outside_block s line) AreFormed
outside_formed s line f =
    one_or AreFormed (is_heading entry_sign line) _ _ (tag_formed s (tag (letters line)) (after_heading line) f)
    (one_or AreFormed (is_heading opening_sign line) _ _ (with_block_formed s (letters line) (opens_block s.hand (tag (letters line))) f) f)

block_formed : (s : Tagged) (name line text : List ℕ) → AreFormed s → IfOk (block_entry s name line text) AreFormed
block_formed s name line [] f = f
block_formed s name line (x ∷ xs) f = tag_formed s (tag name) line f

inside_formed : (s : Tagged) (name line : List ℕ) → AreFormed s → IfOk (inside_block s name line) AreFormed
inside_formed s name line f =
    one_or AreFormed (is_heading closing_sign line && bytes_eq (letters line) name) _ _ (record { done = f.done; hand = f.hand }) (block_formed s name line (trimmed line) f)

by_block_formed : (s : Tagged) (block : Option (List ℕ)) (line : List ℕ) → AreFormed s → IfOk (line_by_block s block line) AreFormed
by_block_formed s None line f = outside_formed s line f
by_block_formed s (Some name) line f = inside_formed s name line f

-- what numbered lines give is such
abbrev GivesFormed : Result Repository TagFault → Type 0
GivesFormed given = IfOk given (λ r. list_all is_written_formed r.packages ≡ true)

end_formed : (last : ℕ) (s : Tagged) → AreFormed s → GivesFormed (end_read last s)
end_formed last s f = one_or (λ (r : Repository). list_all is_written_formed r.packages ≡ true) (is_some s.block) _ _ tt (so_far_formed s f)

bad_then : (n : ℕ) (r : Result Tagged TagCause) (next : Tagged → Result Repository TagFault) → IfOk r AreFormed → ((t : Tagged) → AreFormed t → GivesFormed (next t)) → GivesFormed (or_bad n r next)
bad_then n (Ok t) next f h = h t f
bad_then n (Err c) next f h = tt

lines_formed : (last : ℕ) (s : Tagged) (lines : List (ℕ × List ℕ)) → AreFormed s → GivesFormed (lines_read last s lines)
lines_formed last s [] f = end_formed last s f
lines_formed last s (line ∷ others) f =
    bad_then line.0 (line_read s line.1) (λ t. lines_read line.0 t others) (by_block_formed s s.block line.1 f) (λ t g. lines_formed line.0 t others g)

given_formed : (given : Result Repository TagFault) (r : Repository) → given ≡ Ok r → GivesFormed given → list_all is_written_formed r.packages ≡ true
given_formed given r is h = rw is at h

pub entries_formed : EntriesHaveForms
entries_formed = λ held before repo lines r is. given_formed (tags_read held before repo lines) r (sym (testtags_same held before repo lines) ∙ is) (lines_formed 0 (no_line held before repo) lines (record { done = refl; hand = tt }))

-- what a whole file gives is such
pub file_formed : (held : Held) (before repo : ℕ) (bytes : List ℕ) → IfOk (testtags_file held before repo bytes) (λ r. list_all is_written_formed r.packages ≡ true)
file_formed held before repo bytes = rw (testtags_same held before repo (numbered_lines bytes)) (lines_formed 0 (no_line held before repo) (numbered_lines bytes) (record { done = refl; hand = tt }))
