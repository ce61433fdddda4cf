-- The packages that a testtags file gives can be written again.
use Rattle.std.proofs.Common.{◌≡◌, ℕ, zero, suc, ◌+◌, ◌<◌, ◌≤◌, Bool, true, false, not, ◌&&◌, ◌||◌, List, [], ◌∷◌, ◌++◌, map, drop, length, Option, Some, None, Result, Ok, Err, refl, sym, ap, subst, ◌∙◌, arith, append_assoc, append-nil, All}
use Rattle.std.specs.Prelude.{codes, nat_le, is_some, IfOk, option_to_list, if◌then◌else◌}
use Rattle.std.specs.List.{list_any, list_all}
use Rattle.std.specs.Str.{bytes_eq}
use Rattle.std.proofs.lemmas.Bool.{and_from}
use Rattle.std.proofs.lemmas.Bool.Decides.{nat_tests}
use Rattle.std.proofs.lemmas.List.{length-append, map-append}
use Rattle.std.proofs.lemmas.List.Elements.{All-nil, All-cons, All-push, All-append}
use Rattle.solv_io.specs.Words.{words_of}
use Rattle.solv_base.specs.Dependency.{Dep}
use Rattle.solv_base.specs.Pool.{Held}
use Rattle.solv_deps.specs.Entering.{text_entered, dependency_entered}
use Rattle.solv_deps.specs.Laws.{PrintedIsReadAgain, ReadIsWritten}
use Rattle.solv_deps.specs.Reading.{dependency}
use Rattle.solv_deps.specs.declared.place.Place.{Place}
use Rattle.solv_deps.specs.declared.place.Place.TheVariants.{Requires, Conflicts, Plain}
use Rattle.solv_pool.specs.Contents.{most_packages}
use Rattle.solv_pool.specs.Prelude.{WrittenPackage, WrittenNeed}
use Rattle.solv_tags.specs.Entries.{is_same, with_dependency, with_need, bare_package, evr_text}
use Rattle.solv_tags.specs.Inner.Tags.{also_pre, with_path, with_entry}
use Rattle.solv_tags.specs.Inner.Tags.{entry_sign, opening_sign, closing_sign, after_heading, tag, place_of}
use Rattle.solv_tags.specs.Headings.{is_heading, letters, trimmed}
use Rattle.solv_tags.proofs.SameLines.{testtags_same}
use Rattle.solv_tags.specs.Testtags.{Tagged, Repository, packages_so_far, testtags}
use Rattle.solv_tags.specs.Inner.Lines.{begun, package_entry, vendor_entry, path_entry, dependency_entry, entry_of, entry_of_hand, entry, entry_if_tag, opens_block, with_block, outside_block, block_entry, inside_block, line_by_block, line_read, end_read, or_bad, lines_read, no_line}
use Rattle.solv_tags.specs.declared.tag.Tag.{Tag}
use Rattle.solv_tags.specs.declared.tag.Tag.TheVariants.{Pkg, Prv, Req, Prq, Con, Obs, Rec, Sug, Sup, Enh, Vnd, Fls}
use Rattle.solv_tags.specs.declared.tag_fault.TagCause.{TagCause}
use Rattle.solv_tags.specs.declared.tag_fault.TagCause.TheVariants as cause
use Rattle.solv_list.proofs.Answers.{one_or}
use Rattle.solv_list.proofs.Booleans.{first_of_both, second_of_both}
use Rattle.solv_list.proofs.Lists.{list_all_join, list_any_map}
use Rattle.solv_io.specs.JoinedWords.{is_solid, is_inner, is_word, is_line}
use Rattle.solv_writing.specs.Inner.ReadPackages.{are_apart, ReadsBack, AreEntries, IsKept, IsReadPackage}
use Rattle.solv_deps.proofs.OneLine.{printed_line}
use Rattle.solv_writing.proofs.Trimmed.{trimmed_kept}
use Rattle.solv_io.proofs.WordsAgain.{line_words, solid_word}
use Rattle.solv_tags.proofs.EntriesFormed.{text_then, texts_then}

-- lists in which all is apart
pub apart_behind : {A : Type 0} (same : A → A → Bool) (before xs : List A) (x : A) → are_apart same before xs ≡ true → list_any (same x) (before ++ xs) ≡ false → are_apart same before (xs ++ x ∷ []) ≡ true
apart_behind same before [] x h new = and_from (not (list_any (same x) before)) true (ap not (ap (list_any (same x)) (sym (append-nil before)) ∙ new)) refl
apart_behind same before (y ∷ xs) x h new =
    and_from (not (list_any (same y) before)) (are_apart same (before ++ y ∷ []) (xs ++ x ∷ [])) (first_of_both (not (list_any (same y) before)) (are_apart same (before ++ y ∷ []) xs) h)
    (apart_behind same (before ++ y ∷ []) xs x (second_of_both (not (list_any (same y) before)) (are_apart same (before ++ y ∷ []) xs) h) (ap (list_any (same x)) (append_assoc before (y ∷ []) xs) ∙ new))

pub all_drop : (f : ℕ → Bool) (n : ℕ) (xs : List ℕ) → list_all f xs ≡ true → list_all f (drop n xs) ≡ true
all_drop f zero xs h = h
all_drop f (suc n) [] h = refl
all_drop f (suc n) (x ∷ xs) h = all_drop f n xs (second_of_both (f x) (list_all f xs) h)

no_entries : (place : Place) → AreEntries place []
no_entries place = record { each = All-nil (ReadsBack place); once = refl }

entries_more : (place : Place) (d : Dep (List ℕ)) (l : List (Dep (List ℕ))) → ReadsBack place d → AreEntries place l → AreEntries place (with_dependency d l)
entries_more place d l b are =
    (elim (list_any (is_same d) l) as (λ x. list_any (is_same d) l ≡ x → AreEntries place (if x then l else l ++ d ∷ [])) [
      | true ↦ λ e. are
      | false ↦ λ e. record { each = All-push (ReadsBack place) l d are.each b; once = apart_behind is_same [] l d are.once e }
    ]) refl

also_dep : (d : Dep (List ℕ)) (pre : Bool) (need : WrittenNeed) → (also_pre d pre need).dep ≡ need.dep
also_dep d pre need = elim (is_same d need.dep) as (λ b. (let n : WrittenNeed = if b then record { dep = need.dep; pre = need.pre || pre } else need in n).dep ≡ need.dep) [ true ↦ refl | false ↦ refl ]

also_deps : (d : Dep (List ℕ)) (pre : Bool) (l : List WrittenNeed) → map (λ need. need.dep) (map (also_pre d pre) l) ≡ map (λ need. need.dep) l
also_deps d pre [] = refl
also_deps d pre (need ∷ l) = ap (λ x. x ∷ map (λ n. n.dep) (map (also_pre d pre) l)) (also_dep d pre need) ∙ ap (λ ds. need.dep ∷ ds) (also_deps d pre l)

abbrev deps_of : List WrittenNeed → List (Dep (List ℕ))
deps_of l = map (λ need. need.dep) l

need_more : (d : Dep (List ℕ)) (pre : Bool) (l : List WrittenNeed) → ReadsBack Requires d → AreEntries Requires (deps_of l) → AreEntries Requires (deps_of (with_need d pre l))
need_more d pre l b are =
    (elim (list_any (λ (need : WrittenNeed). is_same d need.dep) l) as (λ x. list_any (λ (need : WrittenNeed). is_same d need.dep) l ≡ x → AreEntries Requires (deps_of (if x then map (also_pre d pre) l else l ++ record { dep = d; pre = pre } ∷ []))) [
      | true ↦ λ e. subst (AreEntries Requires) (sym (also_deps d pre l)) are
      | false ↦ λ e.
          let new : list_any (is_same d) (deps_of l) ≡ false = list_any_map (is_same d) (λ (need : WrittenNeed). need.dep) l ∙ e in
          subst (AreEntries Requires) (sym (map-append (λ (need : WrittenNeed). need.dep) l (record { dep = d; pre = pre } ∷ [])))
          (record { each = All-push (ReadsBack Requires) (deps_of l) d are.each b; once = apart_behind is_same [] (deps_of l) d are.once new })
    ]) refl

-- a package with a dependency more
entry_kept : (t : Tag) (d : Dep (List ℕ)) (a : WrittenPackage) → ReadsBack (place_of t) d → IsReadPackage a → IsReadPackage (with_entry t d a)
entry_kept Prv d a b f = record { name = f.name; evr = f.evr; arch = f.arch; vendor = f.vendor; provides = entries_more Plain d a.provides b f.provides; requires_ = f.requires_; conflicts = f.conflicts; obsoletes = f.obsoletes; recommends = f.recommends; suggests = f.suggests; supplements = f.supplements; enhances = f.enhances; files = f.files; files_once = f.files_once }
entry_kept Req d a b f = record { name = f.name; evr = f.evr; arch = f.arch; vendor = f.vendor; provides = f.provides; requires_ = need_more d false a.requires_ b f.requires_; conflicts = f.conflicts; obsoletes = f.obsoletes; recommends = f.recommends; suggests = f.suggests; supplements = f.supplements; enhances = f.enhances; files = f.files; files_once = f.files_once }
entry_kept Prq d a b f = record { name = f.name; evr = f.evr; arch = f.arch; vendor = f.vendor; provides = f.provides; requires_ = need_more d true a.requires_ b f.requires_; conflicts = f.conflicts; obsoletes = f.obsoletes; recommends = f.recommends; suggests = f.suggests; supplements = f.supplements; enhances = f.enhances; files = f.files; files_once = f.files_once }
entry_kept Con d a b f = record { name = f.name; evr = f.evr; arch = f.arch; vendor = f.vendor; provides = f.provides; requires_ = f.requires_; conflicts = entries_more Conflicts d a.conflicts b f.conflicts; obsoletes = f.obsoletes; recommends = f.recommends; suggests = f.suggests; supplements = f.supplements; enhances = f.enhances; files = f.files; files_once = f.files_once }
entry_kept Obs d a b f = record { name = f.name; evr = f.evr; arch = f.arch; vendor = f.vendor; provides = f.provides; requires_ = f.requires_; conflicts = f.conflicts; obsoletes = entries_more Plain d a.obsoletes b f.obsoletes; recommends = f.recommends; suggests = f.suggests; supplements = f.supplements; enhances = f.enhances; files = f.files; files_once = f.files_once }
entry_kept Rec d a b f = record { name = f.name; evr = f.evr; arch = f.arch; vendor = f.vendor; provides = f.provides; requires_ = f.requires_; conflicts = f.conflicts; obsoletes = f.obsoletes; recommends = entries_more Requires d a.recommends b f.recommends; suggests = f.suggests; supplements = f.supplements; enhances = f.enhances; files = f.files; files_once = f.files_once }
entry_kept Sug d a b f = record { name = f.name; evr = f.evr; arch = f.arch; vendor = f.vendor; provides = f.provides; requires_ = f.requires_; conflicts = f.conflicts; obsoletes = f.obsoletes; recommends = f.recommends; suggests = entries_more Requires d a.suggests b f.suggests; supplements = f.supplements; enhances = f.enhances; files = f.files; files_once = f.files_once }
entry_kept Sup d a b f = record { name = f.name; evr = f.evr; arch = f.arch; vendor = f.vendor; provides = f.provides; requires_ = f.requires_; conflicts = f.conflicts; obsoletes = f.obsoletes; recommends = f.recommends; suggests = f.suggests; supplements = entries_more Requires d a.supplements b f.supplements; enhances = f.enhances; files = f.files; files_once = f.files_once }
entry_kept Enh d a b f = record { name = f.name; evr = f.evr; arch = f.arch; vendor = f.vendor; provides = f.provides; requires_ = f.requires_; conflicts = f.conflicts; obsoletes = f.obsoletes; recommends = f.recommends; suggests = f.suggests; supplements = f.supplements; enhances = entries_more Requires d a.enhances b f.enhances; files = f.files; files_once = f.files_once }
entry_kept Pkg d a b f = f
entry_kept Vnd d a b f = f
entry_kept Fls d a b f = f

vendor_kept : (v : List ℕ) (a : WrittenPackage) → IsKept v → IsReadPackage a → IsReadPackage (record a { vendor = Some v })
vendor_kept v a k f = record { name = f.name; evr = f.evr; arch = f.arch; vendor = All-cons IsKept v [] k (All-nil IsKept); provides = f.provides; requires_ = f.requires_; conflicts = f.conflicts; obsoletes = f.obsoletes; recommends = f.recommends; suggests = f.suggests; supplements = f.supplements; enhances = f.enhances; files = f.files; files_once = f.files_once }

record AreFiles (fs : List (List ℕ)) : Type 0 where
  each : All IsKept fs
  once : are_apart bytes_eq [] fs ≡ true

files_more : (p : List ℕ) (fs : List (List ℕ)) → IsKept p → AreFiles fs → AreFiles (with_path p fs)
files_more p fs k are =
    (elim (list_any (bytes_eq p) fs) as (λ x. list_any (bytes_eq p) fs ≡ x → AreFiles (if x then fs else fs ++ p ∷ [])) [
      | true ↦ λ e. are
      | false ↦ λ e. record { each = All-push IsKept fs p are.each k; once = apart_behind bytes_eq [] fs p are.once e }
    ]) refl

file_kept : (p : List ℕ) (a : WrittenPackage) → IsKept p → IsReadPackage a → IsReadPackage (record a { files = with_path p a.files })
file_kept p a k f =
    let m = files_more p a.files k (record { each = f.files; once = f.files_once }) in
    record { name = f.name; evr = f.evr; arch = f.arch; vendor = f.vendor; provides = f.provides; requires_ = f.requires_; conflicts = f.conflicts; obsoletes = f.obsoletes; recommends = f.recommends; suggests = f.suggests; supplements = f.supplements; enhances = f.enhances; files = m.each; files_once = m.once }

solid_text : (xs : List ℕ) (c : ℕ) (cs : List ℕ) → is_word xs ≡ true → list_all is_solid (c ∷ cs) ≡ true → is_word (xs ++ c ∷ cs) ≡ true
solid_text [] c cs h k = k
solid_text (x ∷ xs) c cs h k = list_all_join is_solid (x ∷ xs) (c ∷ cs) h k

evr_word : (version release : List ℕ) → is_word version ≡ true → is_word release ≡ true → is_word (evr_text version release) ≡ true
evr_word version release h k =
    elim (bytes_eq release (codes "-")) as (λ b. is_word (if b then version else version ++ (codes "-" ++ release)) ≡ true) [
      | true ↦ h
      | false ↦ solid_text version 45 release h (solid_word release k)
    ]

bare_kept : (repo : ℕ) (name evr arch : List ℕ) → is_word name ≡ true → is_word evr ≡ true → is_word arch ≡ true → IsReadPackage (bare_package repo name evr arch)
bare_kept repo name evr arch h k l = record {
  name = h;
  evr = k;
  arch = l;
  vendor = All-nil IsKept;
  provides = no_entries Plain;
  requires_ = no_entries Requires;
  conflicts = no_entries Conflicts;
  obsoletes = no_entries Plain;
  recommends = no_entries Requires;
  suggests = no_entries Requires;
  supplements = no_entries Requires;
  enhances = no_entries Requires;
  files = All-nil IsKept;
  files_once = refl;
}

-- a package of this repository that can be written again
pub record IsGiven (repo : ℕ) (a : WrittenPackage) : Type 0 where
  pub read : IsReadPackage a
  pub own : a.repo ≡ repo

abbrev HandGiven : ℕ → Option WrittenPackage → Type 0
HandGiven repo None = Unit {0}
HandGiven repo (Some a) = IsGiven repo a

-- the packages so far are such, and they are not too many
record AreGiven (repo before : ℕ) (s : Tagged) : Type 0 where
  done : All (IsGiven repo) s.done
  hand : HandGiven repo s.hand
  own : s.repo ≡ repo
  front : s.before ≡ before
  few : before + length (packages_so_far s) ≤ most_packages

hand_is : (repo : ℕ) (hand : Option WrittenPackage) → HandGiven repo hand → All (IsGiven repo) (option_to_list hand)
hand_is repo None h = All-nil (IsGiven repo)
hand_is repo (Some a) h = All-cons (IsGiven repo) a [] h (All-nil (IsGiven repo))

so_far_given : (repo before : ℕ) (s : Tagged) → AreGiven repo before s → All (IsGiven repo) (packages_so_far s)
so_far_given repo before s f = All-append (IsGiven repo) s.done (option_to_list s.hand) f.done (hand_is repo s.hand f.hand)

cause_or : {B : Type 0} (P : B → Type 0) (b : Bool) (c : TagCause) (r : Result B TagCause) → (b ≡ false → IfOk r P) → IfOk (if b then Err c else r) P
cause_or P true c r h = tt
cause_or P false c r h = h refl

module _ (again : PrintedIsReadAgain) (written : ReadIsWritten) (repo before : ℕ) where
  abbrev P : Tagged → Type 0
  P s = AreGiven repo before s

  begun_given : (s : Tagged) (name evr arch : List ℕ) → is_word name ≡ true → is_word evr ≡ true → is_word arch ≡ true → P s → IfOk (begun s name evr arch) P
  begun_given s name evr arch h k l f =
      cause_or P (nat_le most_packages (s.before + length (packages_so_far s))) cause.TooManyPackages _ (λ room. texts_then P (name ∷ evr ∷ arch ∷ []) s.held
      (λ held. Ok (record s { held = held; done = packages_so_far s; hand = Some (bare_package s.repo name evr arch) }))
      (λ held. record {
        done = so_far_given repo before s f;
        hand = record { read = bare_kept s.repo name evr arch h k l; own = f.own };
        own = f.own;
        front = f.front;
        few =
            let e = f.front in
            let one : length (packages_so_far s ++ bare_package s.repo name evr arch ∷ []) ≡ length (packages_so_far s) + 1 = length-append (packages_so_far s) (bare_package s.repo name evr arch ∷ []) in
            let less : s.before + length (packages_so_far s) < most_packages = grind (arith, nat_tests) in
            omega (arith, one, less, e);
      }))

  package_given : (s : Tagged) (words : List (List ℕ)) → list_all is_word words ≡ true → P s → IfOk (package_entry s words) P
  package_given s (name ∷ version ∷ release ∷ arch ∷ []) h f =
      let r1 = second_of_both (is_word name) _ h in
      let r2 = second_of_both (is_word version) _ r1 in
      let r3 = second_of_both (is_word release) _ r2 in
      begun_given s name (evr_text version release) arch (first_of_both (is_word name) _ h) (evr_word version release (first_of_both (is_word version) _ r1) (first_of_both (is_word release) _ r2)) (first_of_both (is_word arch) true r3) f
  package_given s [] h f = tt
  package_given s (a ∷ []) h f = tt
  package_given s (a ∷ b ∷ []) h f = tt
  package_given s (a ∷ b ∷ c ∷ []) h f = tt
  package_given s (a ∷ b ∷ c ∷ d ∷ e ∷ words) h f = tt

  -- the package in hand becomes another one
  handed : (s : Tagged) (a b : WrittenPackage) (held : Held) → P s → s.hand ≡ Some a → IsGiven repo b → P (record s { held = held; hand = Some b })
  handed s a b held f e g = record {
    done = f.done;
    hand = g;
    own = f.own;
    front = f.front;
    few =
        let one : length (s.done ++ a ∷ []) ≡ length s.done + 1 = length-append s.done (a ∷ []) in
        let two : length (s.done ++ b ∷ []) ≡ length s.done + 1 = length-append s.done (b ∷ []) in
        let few : before + length (s.done ++ a ∷ []) ≤ most_packages = subst (λ (o : Option WrittenPackage). before + length (s.done ++ option_to_list o) ≤ most_packages) e f.few in
        omega (arith, one, two, few);
  }

  vendor_given : (s : Tagged) (a : WrittenPackage) (t v : List ℕ) → is_line t ≡ true → trimmed t ≡ v → P s → s.hand ≡ Some a → IsGiven repo a → IfOk (vendor_entry s a v) P
  vendor_given s a t [] l e f h g = f
  vendor_given s a t (x ∷ xs) l e f h g =
      text_then P (text_entered (x ∷ xs) s.held) _ (λ i is. handed s a (record a { vendor = Some (x ∷ xs) }) i.held f h (record { read = vendor_kept (x ∷ xs) a (trimmed_kept t x xs l e) g.read; own = g.own }))

  path_given : (s : Tagged) (a : WrittenPackage) (t v : List ℕ) → is_line t ≡ true → trimmed t ≡ v → P s → s.hand ≡ Some a → IsGiven repo a → IfOk (path_entry s a v) P
  path_given s a t [] l e f h g = f
  path_given s a t (x ∷ xs) l e f h g =
      text_then P (text_entered (x ∷ xs) s.held) _ (λ i is. handed s a (record a { files = with_path (x ∷ xs) a.files }) i.held f h (record { read = file_kept (x ∷ xs) a (trimmed_kept t x xs l e) g.read; own = g.own }))

  own_kept : (t : Tag) (d : Dep (List ℕ)) (a : WrittenPackage) → (with_entry t d a).repo ≡ a.repo
  own_kept Prv d a = refl
  own_kept Req d a = refl
  own_kept Prq d a = refl
  own_kept Con d a = refl
  own_kept Obs d a = refl
  own_kept Rec d a = refl
  own_kept Sug d a = refl
  own_kept Sup d a = refl
  own_kept Enh d a = refl
  own_kept Pkg d a = refl
  own_kept Vnd d a = refl
  own_kept Fls d a = refl

  dependency_given : (s : Tagged) (a : WrittenPackage) (t : Tag) (x : List ℕ) → is_line x ≡ true → P s → s.hand ≡ Some a → IsGiven repo a → IfOk (dependency_entry s a t x) P
  dependency_given s a t x l f h g =
      text_then P (dependency (place_of t) x) _ (λ d read. text_then P (dependency_entered d s.held) _
      (λ e is. handed s a (with_entry t d a) e.held f h
      (record { read = entry_kept t d a (record { again = again (place_of t) x d read; line = printed_line written (place_of t) x d l read }) g.read; own = own_kept t d a ∙ g.own })))

  entry_of_given : (s : Tagged) (a : WrittenPackage) (t : Tag) (x : List ℕ) → is_line x ≡ true → P s → s.hand ≡ Some a → IsGiven repo a → IfOk (entry_of s a t x) P
  entry_of_given s a Vnd x l f h g = vendor_given s a x (trimmed x) l refl f h g
  entry_of_given s a Fls x l f h g = path_given s a x (trimmed x) l refl f h g
  entry_of_given s a Prv x l f h g = dependency_given s a Prv x l f h g
  entry_of_given s a Req x l f h g = dependency_given s a Req x l f h g
  entry_of_given s a Prq x l f h g = dependency_given s a Prq x l f h g
  entry_of_given s a Con x l f h g = dependency_given s a Con x l f h g
  entry_of_given s a Obs x l f h g = dependency_given s a Obs x l f h g
  entry_of_given s a Rec x l f h g = dependency_given s a Rec x l f h g
  entry_of_given s a Sug x l f h g = dependency_given s a Sug x l f h g
  entry_of_given s a Sup x l f h g = dependency_given s a Sup x l f h g
  entry_of_given s a Enh x l f h g = dependency_given s a Enh x l f h g
  entry_of_given s a Pkg x l f h g = dependency_given s a Pkg x l f h g

  of_hand_given : (s : Tagged) (hand : Option WrittenPackage) (t : Tag) (x : List ℕ) → s.hand ≡ hand → is_line x ≡ true → P s → IfOk (entry_of_hand s hand t x) P
  of_hand_given s None t x e l f = tt
  of_hand_given s (Some a) t x e l f = entry_of_given s a t x l f e (subst (HandGiven repo) e f.hand)

  entry_given : (s : Tagged) (t : Tag) (x : List ℕ) → is_line x ≡ true → P s → IfOk (entry s t x) P
  entry_given s Pkg x l f = package_given s (words_of x) (line_words x l) f
  entry_given s Vnd x l f = of_hand_given s s.hand Vnd x refl l f
  entry_given s Fls x l f = of_hand_given s s.hand Fls x refl l f
  entry_given s Prv x l f = of_hand_given s s.hand Prv x refl l f
  entry_given s Req x l f = of_hand_given s s.hand Req x refl l f
  entry_given s Prq x l f = of_hand_given s s.hand Prq x refl l f
  entry_given s Con x l f = of_hand_given s s.hand Con x refl l f
  entry_given s Obs x l f = of_hand_given s s.hand Obs x refl l f
  entry_given s Rec x l f = of_hand_given s s.hand Rec x refl l f
  entry_given s Sug x l f = of_hand_given s s.hand Sug x refl l f
  entry_given s Sup x l f = of_hand_given s s.hand Sup x refl l f
  entry_given s Enh x l f = of_hand_given s s.hand Enh x refl l f

  if_tag_given : (s : Tagged) (t : Option Tag) (x : List ℕ) → is_line x ≡ true → P s → IfOk (entry_if_tag s t x) P
  if_tag_given s None x l f = f
  if_tag_given s (Some t) x l f = entry_given s t x l f

  block_given : (s : Tagged) (name : List ℕ) (c : Option TagCause) → P s → IfOk (with_block s name c) P
  block_given s name None f = record { done = f.done; hand = f.hand; own = f.own; front = f.front; few = f.few }
  block_given s name (Some c) f = tt

  outside_given : (s : Tagged) (line : List ℕ) → is_line line ≡ true → P s → IfOk (outside_block s line) P
  outside_given s line l f =
      one_or P (is_heading entry_sign line) (entry_if_tag s (tag (letters line)) (after_heading line))
      (if is_heading opening_sign line then with_block s (letters line) (opens_block s.hand (tag (letters line))) else Ok s)
      (if_tag_given s (tag (letters line)) (after_heading line) (all_drop is_inner 5 line l) f)
      (one_or P (is_heading opening_sign line) (with_block s (letters line) (opens_block s.hand (tag (letters line)))) (Ok s) (block_given s (letters line) (opens_block s.hand (tag (letters line))) f) f)

  block_entry_given : (s : Tagged) (name line x : List ℕ) → is_line line ≡ true → P s → IfOk (block_entry s name line x) P
  block_entry_given s name line [] l f = f
  block_entry_given s name line (x ∷ xs) l f = if_tag_given s (tag name) line l f

  inside_given : (s : Tagged) (name line : List ℕ) → is_line line ≡ true → P s → IfOk (inside_block s name line) P
  inside_given s name line l f =
      one_or P (is_heading closing_sign line && bytes_eq (letters line) name) (Ok (record s { block = None })) (block_entry s name line (trimmed line))
      (record { done = f.done; hand = f.hand; own = f.own; front = f.front; few = f.few }) (block_entry_given s name line (trimmed line) l f)

  by_block_given : (s : Tagged) (b : Option (List ℕ)) (line : List ℕ) → is_line line ≡ true → P s → IfOk (line_by_block s b line) P
  by_block_given s None line l f = outside_given s line l f
  by_block_given s (Some name) line l f = inside_given s name line l f

  -- what was read of a repository
  pub record IsReadRepository (r : Repository) : Type 0 where
    pub packages : All (IsGiven repo) r.packages
    pub few : before + length r.packages ≤ most_packages

  end_given : (last : ℕ) (s : Tagged) → P s → IfOk (end_read last s) IsReadRepository
  end_given last s f =
      one_or IsReadRepository (is_some s.block) (Err (record { line = last; cause = cause.UnclosedBlock })) (Ok (record { held = s.held; packages = packages_so_far s })) tt
      (record { packages = so_far_given repo before s f; few = f.few })

  lines_given : (lines : List (ℕ × List ℕ)) (last : ℕ) (s : Tagged) → list_all (λ line. is_line line.1) lines ≡ true → P s → IfOk (lines_read last s lines) IsReadRepository
  lines_given [] last s l f = end_given last s f
  lines_given (line ∷ lines) last s l f =
      on (line_read s line.1) (by_block_given s s.block line.1 (first_of_both (is_line line.1) (list_all (λ x. is_line x.1) lines) l) f)
      (λ t g. lines_given lines line.0 t (second_of_both (is_line line.1) (list_all (λ x. is_line x.1) lines) l) g)
    where
      on : (r : Result Tagged TagCause) → IfOk r P → ((t : Tagged) → P t → IfOk (lines_read line.0 t lines) IsReadRepository) → IfOk (or_bad line.0 r (λ t. lines_read line.0 t lines)) IsReadRepository
      on (Ok t) g more = more t g
      on (Err e) g more = tt

  pub tags_given : (lines : List (ℕ × List ℕ)) (held : Held) → list_all (λ line. is_line line.1) lines ≡ true → before ≤ most_packages → IfOk (testtags held before repo lines) IsReadRepository
  tags_given lines held l few =
      rw (testtags_same held before repo lines) (lines_given lines 0 (no_line held before repo) l (record { done = All-nil (IsGiven repo); hand = tt; own = refl; front = refl; few = omega (arith, few) }))
