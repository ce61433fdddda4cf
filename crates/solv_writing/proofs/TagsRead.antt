-- The testtags lines of packages are read as these packages.
use Rattle.std.proofs.Common.{◌≡◌, ℕ, ◌+◌, ◌<◌, ◌≤◌, Bool, true, false, not, List, [], ◌∷◌, ◌++◌, map, length, Option, Some, None, Result, Ok, Err, refl, sym, ap, subst, ◌∙◌, arith, append_assoc, append-nil, All}
use Rattle.std.specs.Prelude.{nat_le, IsOkAnd, option_to_list}
use Rattle.std.specs.List.{list_any, enumerate_from}
use Rattle.std.specs.Str.{bytes_eq}
use Rattle.std.proofs.lemmas.Bool.{and_from}
use Rattle.std.proofs.lemmas.Bool.Decides.{nat_tests}
use Rattle.std.proofs.lemmas.List.{length-append, map-append}
use Rattle.std.proofs.lemmas.List.Elements.{All-head, All-tail}
use Rattle.solv_io.specs.Words.{words_of}
use Rattle.solv_base.specs.Dependency.{Dep}
use Rattle.solv_base.specs.Pool.{Held, IsPool}
use Rattle.solv_deps.specs.Canonical.{text}
use Rattle.solv_deps.specs.Entering.{text_entered, dependency_entered}
use Rattle.solv_deps.specs.Laws.{HeldIsEntered}
use Rattle.solv_deps.specs.Reading.{dependency}
use Rattle.solv_deps.specs.declared.place.Place.TheVariants.{Requires}
use Rattle.solv_pool.specs.Contents.{most_packages}
use Rattle.solv_pool.specs.Prelude.{WrittenPackage, WrittenNeed}
use Rattle.solv_tags.specs.Entries.{is_same, with_dependency, with_need, bare_package}
use Rattle.solv_tags.specs.Inner.Tags.{with_path, with_entry}
use Rattle.solv_tags.specs.Inner.Tags.{place_of}
use Rattle.solv_tags.proofs.SameLines.{testtags_same}
use Rattle.solv_tags.specs.Testtags.{Tagged, Repository, packages_so_far, testtags}
use Rattle.solv_tags.specs.Inner.Lines.{begun, package_entry as package_read, dependency_entry, vendor_entry, path_entry, line_read, line_by_block, end_read, or_bad, lines_read, no_line}
use Rattle.solv_tags.specs.declared.tag.Tag.{Tag}
use Rattle.solv_tags.specs.declared.tag.Tag.TheVariants.{Prv, Req, Prq, Con, Obs, Rec, Sug, Sup, Enh, Vnd, Fls}
use Rattle.solv_tags.specs.declared.tag_fault.TagCause.{TagCause}
use Rattle.solv_list.proofs.Booleans.{first_of_both, second_of_both, false_of_not}
use Rattle.solv_io.specs.JoinedWords.{is_word, joined}
use Rattle.solv_writing.specs.TagLines.{evr_words}
use Rattle.solv_writing.specs.Inner.TagParts.{Entry, entry_line, text_entry, dep_entry, entries_of, package_lines, tag_lines}
use Rattle.solv_writing.specs.Inner.LineNames.{package_entry, need_entry}
use Rattle.solv_deps.specs.Parts.{HoldsTree, IsPart, IsEnteredText, IsEnteredTree}
use Rattle.solv_writing.specs.Inner.ReadPackages.{are_apart, ReadsBack, IsKept, IsReadPackage, HoldsText, HoldsPackage}
use Rattle.solv_writing.proofs.EvrWords.{evr_parts}
use Rattle.solv_deps.proofs.PartEntered.{texts_entered, trees_entered}
use Rattle.solv_io.proofs.WordsAgain.{words_again}
use Rattle.solv_list.proofs.Lists.{list_any_map}
use Rattle.solv_tags.proofs.InTurn.{tags_then, then_lines, lines_all, all_behind}

-- entries in turn
abbrev pub entries_all : Tagged → List Entry → Result Tagged TagCause
entries_all s [] = Ok s
entries_all s (e ∷ es) = then_lines (line_read s (entry_line e)) (λ t. entries_all t es)

lines_are : (es : List Entry) (s : Tagged) → lines_all s (map entry_line es) ≡ entries_all s es
lines_are [] s = refl
lines_are (e ∷ es) s = on (line_read s (entry_line e)) (λ t. lines_are es t)
  where
    on : (r : Result Tagged TagCause) → ((t : Tagged) → lines_all t (map entry_line es) ≡ entries_all t es) → then_lines r (λ t. lines_all t (map entry_line es)) ≡ then_lines r (λ t. entries_all t es)
    on (Ok t) same = same t
    on (Err e) same = refl

one_line : (P Q : Tagged → Type 0) (r : Result Tagged TagCause) (next : Tagged → Result Tagged TagCause) → IsOkAnd r P → ((t : Tagged) → P t → IsOkAnd (next t) Q) → IsOkAnd (then_lines r next) Q
one_line P Q (Ok t) next h k = k t h
one_line P Q (Err e) next h k = absurd h

entries_behind : (P Q : Tagged → Type 0) (xs ys : List Entry) (s : Tagged) → IsOkAnd (entries_all s xs) P → ((t : Tagged) → P t → IsOkAnd (entries_all t ys) Q) → IsOkAnd (entries_all s (xs ++ ys)) Q
entries_behind P Q [] ys s h k = k s h
entries_behind P Q (x ∷ xs) ys s h k = on (line_read s (entry_line x)) h (λ t g. entries_behind P Q xs ys t g k)
  where
    on : (r : Result Tagged TagCause) → IsOkAnd (then_lines r (λ t. entries_all t xs)) P → ((t : Tagged) → IsOkAnd (entries_all t xs) P → IsOkAnd (entries_all t (xs ++ ys)) Q) → IsOkAnd (then_lines r (λ t. entries_all t (xs ++ ys))) Q
    on (Ok t) h more = more t h
    on (Err e) h more = absurd h

module _ (again : HeldIsEntered) (whole : Held) (p : IsPool whole) (repo before : ℕ) (done : List WrittenPackage) where
  -- the pool holds this, and this package is in hand
  abbrev at : Held → WrittenPackage → Tagged
  at held a = record { repo = repo; before = before; held = held; done = done; hand = Some a; block = None }

  -- a part of the whole is held, and this package is in hand
  record Reached (a : WrittenPackage) (s : Tagged) : Type 0 where
    held : Held
    part : IsPart held whole
    is : s ≡ at held a

  abbrev Reaches : WrittenPackage → List Entry → WrittenPackage → Type 0
  Reaches a es b = (held : Held) → IsPart held whole → IsOkAnd (entries_all (at held a) es) (Reached b)

  nothing_more : (a : WrittenPackage) → Reaches a [] a
  nothing_more a held part = record { held = held; part = part; is = refl }

  one_reaches : (a b c : WrittenPackage) (e : Entry) (es : List Entry) → ((held : Held) → IsPart held whole → IsOkAnd (line_read (at held a) (entry_line e)) (Reached b)) → Reaches b es c → Reaches a (e ∷ es) c
  one_reaches a b c e es first rest held part =
      one_line (Reached b) (Reached c) (line_read (at held a) (entry_line e)) (λ t. entries_all t es) (first held part)
      (λ t r. subst (λ s. IsOkAnd (entries_all s es) (Reached c)) (sym r.is) (rest r.held r.part))

  both_reach : (a b c : WrittenPackage) (xs ys : List Entry) → Reaches a xs b → Reaches b ys c → Reaches a (xs ++ ys) c
  both_reach a b c xs ys first rest held part =
      entries_behind (Reached b) (Reached c) xs ys (at held a) (first held part)
      (λ t r. subst (λ s. IsOkAnd (entries_all s ys) (Reached c)) (sym r.is) (rest r.held r.part))

  -- an entry with a dependency
  dep_read : (t : Tag) (d : Dep (List ℕ)) (a : WrittenPackage)
      → ((held : Held) → line_read (at held a) (entry_line (dep_entry t d)) ≡ dependency_entry (at held a) a t (32 ∷ text d))
      → ReadsBack (place_of t) d → HoldsTree whole d → (held : Held) → IsPart held whole → IsOkAnd (line_read (at held a) (entry_line (dep_entry t d))) (Reached (with_entry t d a))
  dep_read t d a line back is held part =
      let read : dependency (place_of t) (32 ∷ text d) ≡ Ok d = back.again in
      rw (line held, read) (tags_then (IsEnteredTree whole held d) (Reached (with_entry t d a)) (dependency_entered d held) _ (trees_entered again whole held d p part is)
      (λ e ie. record { held = e.held; part = ie.part; is = refl }))

  -- a list of dependencies of a tag: of the package it is this field
  module _ (t : Tag) (get : WrittenPackage → List (Dep (List ℕ))) (put : WrittenPackage → List (Dep (List ℕ)) → WrittenPackage)
      (line : (held : Held) (a : WrittenPackage) (d : Dep (List ℕ)) → line_read (at held a) (entry_line (dep_entry t d)) ≡ dependency_entry (at held a) a t (32 ∷ text d))
      (entered : (d : Dep (List ℕ)) (a : WrittenPackage) → with_entry t d a ≡ put a (with_dependency d (get a)))
      (get_put : (a : WrittenPackage) (l : List (Dep (List ℕ))) → get (put a l) ≡ l)
      (put_put : (a : WrittenPackage) (l m : List (Dep (List ℕ))) → put (put a l) m ≡ put a m)
      (put_get : (a : WrittenPackage) → put a (get a) ≡ a) where
    deps_reach : (ds : List (Dep (List ℕ))) (a : WrittenPackage) → All (ReadsBack (place_of t)) ds → All (HoldsTree whole) ds → are_apart is_same (get a) ds ≡ true
        → Reaches a (map (dep_entry t) ds) (put a (get a ++ ds))
    deps_reach [] a backs holds apart = subst (λ b. Reaches a [] b) (sym (ap (put a) (append-nil (get a)) ∙ put_get a)) (nothing_more a)
    deps_reach (d ∷ ds) a backs holds apart =
        let new : list_any (is_same d) (get a) ≡ false = false_of_not (list_any (is_same d) (get a)) (first_of_both (not (list_any (is_same d) (get a))) (are_apart is_same (get a ++ d ∷ []) ds) apart) in
        let later : are_apart is_same (get a ++ d ∷ []) ds ≡ true = second_of_both (not (list_any (is_same d) (get a))) (are_apart is_same (get a ++ d ∷ []) ds) apart in
        let b : WrittenPackage = put a (get a ++ d ∷ []) in
        let added : with_entry t d a ≡ b = entered d a ∙ ap (put a) (let l : with_dependency d (get a) ≡ get a ++ d ∷ [] = rw new refl in l) in
        let rest : Reaches b (map (dep_entry t) ds) (put b (get b ++ ds))
        = deps_reach ds b (All-tail (ReadsBack (place_of t)) d ds backs) (All-tail (HoldsTree whole) d ds holds) (subst (λ l. are_apart is_same l ds ≡ true) (sym (get_put a (get a ++ d ∷ []))) later) in
        let end : put b (get b ++ ds) ≡ put a (get a ++ d ∷ ds)
        = put_put a (get a ++ d ∷ []) (get b ++ ds) ∙ ap (λ l. put a (l ++ ds)) (get_put a (get a ++ d ∷ [])) ∙ ap (put a) (append_assoc (get a) (d ∷ []) ds) in
        one_reaches a b (put a (get a ++ d ∷ ds)) (dep_entry t d) (map (dep_entry t) ds)
        (λ held part. subst (λ x. IsOkAnd (line_read (at held a) (entry_line (dep_entry t d))) (Reached x)) added
        (dep_read t d a (λ h. line h a d) (All-head (ReadsBack (place_of t)) d ds backs) (All-head (HoldsTree whole) d ds holds) held part))
        (subst (Reaches b (map (dep_entry t) ds)) end rest)

  -- requirements
  abbrev with_needs : WrittenPackage → List WrittenNeed → WrittenPackage
  with_needs a l = record a { requires_ = l }

  need_read : (d : Dep (List ℕ)) (pre : Bool) (a : WrittenPackage) → ReadsBack Requires d → HoldsTree whole d → list_any (λ (need : WrittenNeed). is_same d need.dep) a.requires_ ≡ false
      → (held : Held) → IsPart held whole → IsOkAnd (line_read (at held a) (entry_line (need_entry (record { dep = d; pre = pre })))) (Reached (with_needs a (a.requires_ ++ record { dep = d; pre = pre } ∷ [])))
  need_read d true a back is new held part =
      subst (λ (l : List WrittenNeed). IsOkAnd (line_read (at held a) (entry_line (dep_entry Prq d))) (Reached (record a { requires_ = l })))
      (let l : with_need d true a.requires_ ≡ a.requires_ ++ record { dep = d; pre = true } ∷ [] = rw new refl in l)
      (dep_read Prq d a (λ h. refl) back is held part)
  need_read d false a back is new held part =
      subst (λ (l : List WrittenNeed). IsOkAnd (line_read (at held a) (entry_line (dep_entry Req d))) (Reached (record a { requires_ = l })))
      (let l : with_need d false a.requires_ ≡ a.requires_ ++ record { dep = d; pre = false } ∷ [] = rw new refl in l)
      (dep_read Req d a (λ h. refl) back is held part)

  needs_reach : (needs : List WrittenNeed) (a : WrittenPackage) → All (ReadsBack Requires) (map (λ need. need.dep) needs) → All (HoldsTree whole) (map (λ need. need.dep) needs)
      → are_apart is_same (map (λ need. need.dep) a.requires_) (map (λ need. need.dep) needs) ≡ true
      → Reaches a (map need_entry needs) (with_needs a (a.requires_ ++ needs))
  needs_reach [] a backs holds apart = subst (λ (l : List WrittenNeed). Reaches a [] (record a { requires_ = l })) (sym (append-nil a.requires_)) (nothing_more a)
  needs_reach (need ∷ needs) a backs holds apart =
      let ds : List (Dep (List ℕ)) = map (λ n. n.dep) a.requires_ in
      let more : List (Dep (List ℕ)) = map (λ n. n.dep) needs in
      let free : list_any (is_same need.dep) ds ≡ false = false_of_not (list_any (is_same need.dep) ds) (first_of_both (not (list_any (is_same need.dep) ds)) (are_apart is_same (ds ++ need.dep ∷ []) more) apart) in
      let new : list_any (λ (n : WrittenNeed). is_same need.dep n.dep) a.requires_ ≡ false = sym (list_any_map (is_same need.dep) (λ (n : WrittenNeed). n.dep) a.requires_) ∙ free in
      let b : WrittenPackage = record a { requires_ = a.requires_ ++ need ∷ [] } in
      let later : are_apart is_same (map (λ n. n.dep) b.requires_) more ≡ true =
      subst (λ l. are_apart is_same l more ≡ true) (sym (map-append (λ (n : WrittenNeed). n.dep) a.requires_ (need ∷ []))) (second_of_both (not (list_any (is_same need.dep) ds)) (are_apart is_same (ds ++ need.dep ∷ []) more) apart) in
      let rest : Reaches b (map need_entry needs) (record b { requires_ = b.requires_ ++ needs }) = needs_reach needs b (All-tail (ReadsBack Requires) need.dep more backs) (All-tail (HoldsTree whole) need.dep more holds) later in
      one_reaches a b (record a { requires_ = a.requires_ ++ need ∷ needs }) (need_entry need) (map need_entry needs)
      (need_read need.dep need.pre a (All-head (ReadsBack Requires) need.dep more backs) (All-head (HoldsTree whole) need.dep more holds) new)
      (subst (λ (l : List WrittenNeed). Reaches b (map need_entry needs) (record b { requires_ = l })) (append_assoc a.requires_ (need ∷ []) needs) rest)

  -- the vendor
  vendor_reach : (v : Option (List ℕ)) (a : WrittenPackage) → a.vendor ≡ None → All IsKept (option_to_list v) → All (HoldsText whole) (option_to_list v) → Reaches a (map (text_entry Vnd) (option_to_list v)) (record a { vendor = v })
  vendor_reach None a none kept holds = subst (λ (o : Option (List ℕ)). Reaches a [] (record a { vendor = o })) none (nothing_more a)
  vendor_reach (Some v) a none kept holds =
      let k = All-head IsKept v [] kept in
      let h = All-head (HoldsText whole) v [] holds in
      one_reaches a (record a { vendor = Some v }) (record a { vendor = Some v }) (text_entry Vnd v) []
      (λ held part.
      let read : line_read (at held a) (entry_line (text_entry Vnd v)) ≡ vendor_entry (at held a) a (k.first ∷ k.rest) = ap (vendor_entry (at held a) a) (k.trim ∙ k.is) in
      let done : IsOkAnd (vendor_entry (at held a) a (k.first ∷ k.rest)) (Reached (record a { vendor = Some (k.first ∷ k.rest) })) =
      tags_then (IsEnteredText whole held (k.first ∷ k.rest)) (Reached (record a { vendor = Some (k.first ∷ k.rest) })) (text_entered (k.first ∷ k.rest) held) _
      (texts_entered whole held (k.first ∷ k.rest) p part (subst (HoldsText whole) k.is h)) (λ e ie. record { held = e.held; part = ie.part; is = refl }) in
      subst (λ r. IsOkAnd r (Reached (record a { vendor = Some v }))) (sym read) (subst (λ t. IsOkAnd (vendor_entry (at held a) a (k.first ∷ k.rest)) (Reached (record a { vendor = Some t }))) (sym k.is) done))
      (nothing_more (record a { vendor = Some v }))

  -- the files
  file_read : (f : List ℕ) (a : WrittenPackage) → IsKept f → HoldsText whole f → list_any (bytes_eq f) a.files ≡ false
      → (held : Held) → IsPart held whole → IsOkAnd (line_read (at held a) (entry_line (text_entry Fls f))) (Reached (record a { files = a.files ++ f ∷ [] }))
  file_read f a k h new held part =
      let read : line_read (at held a) (entry_line (text_entry Fls f)) ≡ path_entry (at held a) a (k.first ∷ k.rest) = ap (path_entry (at held a) a) (k.trim ∙ k.is) in
      let done : IsOkAnd (path_entry (at held a) a (k.first ∷ k.rest)) (Reached (record a { files = with_path (k.first ∷ k.rest) a.files })) =
      tags_then (IsEnteredText whole held (k.first ∷ k.rest)) (Reached (record a { files = with_path (k.first ∷ k.rest) a.files })) (text_entered (k.first ∷ k.rest) held) _
      (texts_entered whole held (k.first ∷ k.rest) p part (subst (HoldsText whole) k.is h)) (λ e ie. record { held = e.held; part = ie.part; is = refl }) in
      let added : with_path (k.first ∷ k.rest) a.files ≡ a.files ++ f ∷ [] = ap (λ t. with_path t a.files) (sym k.is) ∙ (let l : with_path f a.files ≡ a.files ++ f ∷ [] = rw new refl in l) in
      subst (λ r. IsOkAnd r (Reached (record a { files = a.files ++ f ∷ [] }))) (sym read) (subst (λ l. IsOkAnd (path_entry (at held a) a (k.first ∷ k.rest)) (Reached (record a { files = l }))) added done)

  files_reach : (fs : List (List ℕ)) (a : WrittenPackage) → All IsKept fs → All (HoldsText whole) fs → are_apart bytes_eq a.files fs ≡ true → Reaches a (map (text_entry Fls) fs) (record a { files = a.files ++ fs })
  files_reach [] a kept holds apart = subst (λ (l : List (List ℕ)). Reaches a [] (record a { files = l })) (sym (append-nil a.files)) (nothing_more a)
  files_reach (f ∷ fs) a kept holds apart =
      let new : list_any (bytes_eq f) a.files ≡ false = false_of_not (list_any (bytes_eq f) a.files) (first_of_both (not (list_any (bytes_eq f) a.files)) (are_apart bytes_eq (a.files ++ f ∷ []) fs) apart) in
      let b : WrittenPackage = record a { files = a.files ++ f ∷ [] } in
      let rest : Reaches b (map (text_entry Fls) fs) (record b { files = b.files ++ fs }) = files_reach fs b (All-tail IsKept f fs kept) (All-tail (HoldsText whole) f fs holds) (second_of_both (not (list_any (bytes_eq f) a.files)) (are_apart bytes_eq (a.files ++ f ∷ []) fs) apart) in
      one_reaches a b (record a { files = a.files ++ f ∷ fs }) (text_entry Fls f) (map (text_entry Fls) fs)
      (file_read f a (All-head IsKept f fs kept) (All-head (HoldsText whole) f fs holds) new)
      (subst (λ (l : List (List ℕ)). Reaches b (map (text_entry Fls) fs) (record b { files = l })) (append_assoc a.files (f ∷ []) fs) rest)

  -- all entries of a package
  entries_reach : (a : WrittenPackage) → IsReadPackage a → HoldsPackage whole a → a.repo ≡ repo → Reaches (bare_package repo a.name a.evr a.arch) (entries_of a) a
  entries_reach a is holds own =
      let a0 : WrittenPackage = bare_package repo a.name a.evr a.arch in
      let a1 : WrittenPackage = record a0 { vendor = a.vendor } in
      let a2 : WrittenPackage = record a1 { provides = a.provides } in
      let a3 : WrittenPackage = record a2 { requires_ = a.requires_ } in
      let a4 : WrittenPackage = record a3 { conflicts = a.conflicts } in
      let a5 : WrittenPackage = record a4 { obsoletes = a.obsoletes } in
      let a6 : WrittenPackage = record a5 { recommends = a.recommends } in
      let a7 : WrittenPackage = record a6 { suggests = a.suggests } in
      let a8 : WrittenPackage = record a7 { supplements = a.supplements } in
      let a9 : WrittenPackage = record a8 { enhances = a.enhances } in
      let e10 : List Entry = map (text_entry Fls) a.files in
      let e9 : List Entry = map (dep_entry Enh) a.enhances ++ e10 in
      let e8 : List Entry = map (dep_entry Sup) a.supplements ++ e9 in
      let e7 : List Entry = map (dep_entry Sug) a.suggests ++ e8 in
      let e6 : List Entry = map (dep_entry Rec) a.recommends ++ e7 in
      let e5 : List Entry = map (dep_entry Obs) a.obsoletes ++ e6 in
      let e4 : List Entry = map (dep_entry Con) a.conflicts ++ e5 in
      let e3 : List Entry = map need_entry a.requires_ ++ e4 in
      let e2 : List Entry = map (dep_entry Prv) a.provides ++ e3 in
      let end : record a9 { files = a.files } ≡ a = ap (λ (n : ℕ). record a { repo = n }) (sym own) in
      both_reach a0 a1 a (map (text_entry Vnd) (option_to_list a.vendor)) e2 (vendor_reach a.vendor a0 refl is.vendor holds.vendor)
      (both_reach a1 a2 a (map (dep_entry Prv) a.provides) e3
      (deps_reach Prv (λ x. x.provides) (λ x l. record x { provides = l }) (λ h x d. refl) (λ d x. refl) (λ x l. refl) (λ x l m. refl) (λ x. refl) a.provides a1 is.provides.each holds.provides is.provides.once)
      (both_reach a2 a3 a (map need_entry a.requires_) e4 (needs_reach a.requires_ a2 is.requires_.each holds.requires_ is.requires_.once)
      (both_reach a3 a4 a (map (dep_entry Con) a.conflicts) e5
      (deps_reach Con (λ x. x.conflicts) (λ x l. record x { conflicts = l }) (λ h x d. refl) (λ d x. refl) (λ x l. refl) (λ x l m. refl) (λ x. refl) a.conflicts a3 is.conflicts.each holds.conflicts is.conflicts.once)
      (both_reach a4 a5 a (map (dep_entry Obs) a.obsoletes) e6
      (deps_reach Obs (λ x. x.obsoletes) (λ x l. record x { obsoletes = l }) (λ h x d. refl) (λ d x. refl) (λ x l. refl) (λ x l m. refl) (λ x. refl) a.obsoletes a4 is.obsoletes.each holds.obsoletes is.obsoletes.once)
      (both_reach a5 a6 a (map (dep_entry Rec) a.recommends) e7
      (deps_reach Rec (λ x. x.recommends) (λ x l. record x { recommends = l }) (λ h x d. refl) (λ d x. refl) (λ x l. refl) (λ x l m. refl) (λ x. refl) a.recommends a5 is.recommends.each holds.recommends is.recommends.once)
      (both_reach a6 a7 a (map (dep_entry Sug) a.suggests) e8
      (deps_reach Sug (λ x. x.suggests) (λ x l. record x { suggests = l }) (λ h x d. refl) (λ d x. refl) (λ x l. refl) (λ x l m. refl) (λ x. refl) a.suggests a6 is.suggests.each holds.suggests is.suggests.once)
      (both_reach a7 a8 a (map (dep_entry Sup) a.supplements) e9
      (deps_reach Sup (λ x. x.supplements) (λ x l. record x { supplements = l }) (λ h x d. refl) (λ d x. refl) (λ x l. refl) (λ x l m. refl) (λ x. refl) a.supplements a7 is.supplements.each holds.supplements is.supplements.once)
      (both_reach a8 a9 a (map (dep_entry Enh) a.enhances) e10
      (deps_reach Enh (λ x. x.enhances) (λ x l. record x { enhances = l }) (λ h x d. refl) (λ d x. refl) (λ x l. refl) (λ x l m. refl) (λ x. refl) a.enhances a8 is.enhances.each holds.enhances is.enhances.once)
      (subst (Reaches a9 e10) end (files_reach a.files a9 is.files holds.files is.files_once))))))))))

-- what the lines of packages give after other packages
record Between (whole : Held) (repo before : ℕ) (packages : List WrittenPackage) (s : Tagged) : Type 0 where
  part : IsPart s.held whole
  no_block : s.block ≡ None
  own : s.repo ≡ repo
  front : s.before ≡ before
  is : packages_so_far s ≡ packages

module _ (again : HeldIsEntered) (whole : Held) (p : IsPool whole) (repo before : ℕ) where
  -- its package line begins a package
  module _ (a : WrittenPackage) (is : IsReadPackage a) (holds : HoldsPackage whole a) where
    line_of_words : words_of (32 ∷ joined (a.name ∷ (evr_words a.evr ++ a.arch ∷ []))) ≡ a.name ∷ (evr_words a.evr ++ a.arch ∷ [])
    line_of_words =
        let e = evr_parts a.evr is.evr in
        subst (λ ws. words_of (joined (a.name ∷ (ws ++ a.arch ∷ []))) ≡ a.name ∷ (ws ++ a.arch ∷ [])) (sym e.words)
        (words_again (a.name ∷ e.version ∷ e.release ∷ a.arch ∷ [])
        (and_from (is_word a.name) _ is.name (and_from (is_word e.version) _ e.are.version_word (and_from (is_word e.release) _ e.are.release_word (and_from (is_word a.arch) true is.arch refl)))))

    -- a package of these texts is in hand, after those before
    record Begun (s t : Tagged) : Type 0 where
      held : Held
      part : IsPart held whole
      state : t ≡ record { repo = s.repo; before = s.before; held = held; done = packages_so_far s; hand = Some (bare_package s.repo a.name a.evr a.arch); block = s.block }

    begun_is : (s : Tagged) → IsPart s.held whole → nat_le most_packages (s.before + length (packages_so_far s)) ≡ false → IsOkAnd (begun s a.name a.evr a.arch) (Begun s)
    begun_is s part fits =
        rw fits (tags_then (IsEnteredText whole s.held a.name) (Begun s) (text_entered a.name s.held) _ (texts_entered whole s.held a.name p part holds.name)
        (λ x ix. tags_then (IsEnteredText whole x.held a.evr) (Begun s) (text_entered a.evr x.held) _ (texts_entered whole x.held a.evr p ix.part holds.evr)
        (λ y iy. tags_then (IsEnteredText whole y.held a.arch) (Begun s) (text_entered a.arch y.held) _ (texts_entered whole y.held a.arch p iy.part holds.arch)
        (λ z iz. record { held = z.held; part = iz.part; state = refl }))))

    package_begins : (s : Tagged) → s.block ≡ None → IsPart s.held whole → nat_le most_packages (s.before + length (packages_so_far s)) ≡ false
        → IsOkAnd (line_read s (entry_line (package_entry a))) (Begun s)
    package_begins s none part fits =
        let e = evr_parts a.evr is.evr in
        let words : words_of (32 ∷ joined (a.name ∷ (evr_words a.evr ++ a.arch ∷ []))) ≡ a.name ∷ e.version ∷ e.release ∷ a.arch ∷ []
        = line_of_words ∙ ap (λ ws. a.name ∷ (ws ++ a.arch ∷ [])) e.words in
        let read : package_read s (words_of (32 ∷ joined (a.name ∷ (evr_words a.evr ++ a.arch ∷ [])))) ≡ begun s a.name a.evr a.arch
        = ap (package_read s) words ∙ ap (λ evr. begun s a.name evr a.arch) e.are.is in
        let line : line_read s (entry_line (package_entry a)) ≡ begun s a.name a.evr a.arch = ap (λ o. line_by_block s o (entry_line (package_entry a))) none ∙ read in
        subst (λ r. IsOkAnd r (Begun s)) (sym line) (begun_is s part fits)

    package_goes : (ps : List WrittenPackage) (s : Tagged) → a.repo ≡ repo → Between whole repo before ps s → before + length ps < most_packages
        → IsOkAnd (lines_all s (package_lines a)) (Between whole repo before (ps ++ a ∷ []))
    package_goes ps s own b room =
        let count : s.before + length (packages_so_far s) ≡ before + length ps = ap (λ n. n + length (packages_so_far s)) b.front ∙ ap (λ l. before + length l) b.is in
        let fits : nat_le most_packages (s.before + length (packages_so_far s)) ≡ false = grind (arith, nat_tests) in
        one_line (Begun s) (Between whole repo before (ps ++ a ∷ [])) (line_read s (entry_line (package_entry a))) (λ t. lines_all t (map entry_line (entries_of a)))
        (package_begins s b.no_block b.part fits)
        (λ t begun. subst (λ u. IsOkAnd (lines_all u (map entry_line (entries_of a))) (Between whole repo before (ps ++ a ∷ []))) (sym begun.state)
        (let start : Tagged = record { repo = s.repo; before = s.before; held = begun.held; done = packages_so_far s; hand = Some (bare_package s.repo a.name a.evr a.arch); block = s.block } in
        let clear : start ≡ record { repo = s.repo; before = s.before; held = begun.held; done = packages_so_far s; hand = Some (bare_package s.repo a.name a.evr a.arch); block = None } =
        ap (λ (o : Option (List ℕ)). record { repo = s.repo; before = s.before; held = begun.held; done = packages_so_far s; hand = Some (bare_package s.repo a.name a.evr a.arch); block = o }) b.no_block in
        subst (λ u. IsOkAnd (lines_all u (map entry_line (entries_of a))) (Between whole repo before (ps ++ a ∷ []))) (sym clear)
        (subst (λ r. IsOkAnd r (Between whole repo before (ps ++ a ∷ []))) (sym (lines_are (entries_of a) (record { repo = s.repo; before = s.before; held = begun.held; done = packages_so_far s; hand = Some (bare_package s.repo a.name a.evr a.arch); block = None })))
        (ok_tagged (Reached again whole p s.repo s.before (packages_so_far s) a) (Between whole repo before (ps ++ a ∷ [])) _
        (λ u r. reached s u b r) (entries_reach again whole p s.repo s.before (packages_so_far s) a is holds (own ∙ sym b.own) begun.held begun.part)))))
      where
        ok_tagged : (P Q : Tagged → Type 0) (r : Result Tagged TagCause) → ((t : Tagged) → P t → Q t) → IsOkAnd r P → IsOkAnd r Q
        ok_tagged P Q (Ok t) k h = k t h
        ok_tagged P Q (Err e) k h = absurd h

        reached : (s u : Tagged) → Between whole repo before ps s → Reached again whole p s.repo s.before (packages_so_far s) a u → Between whole repo before (ps ++ a ∷ []) u
        reached s u b r = subst (Between whole repo before (ps ++ a ∷ [])) (sym r.is) (record { part = r.part; no_block = refl; own = b.own; front = b.front; is = ap (λ l. l ++ a ∷ []) b.is })

  -- the packages of a repository
  pub record IsOfRepo (a : WrittenPackage) : Type 0 where
    pub is : IsReadPackage a
    pub holds : HoldsPackage whole a
    pub own : a.repo ≡ repo

  packages_go : (packages ps : List WrittenPackage) (s : Tagged) → All IsOfRepo packages → Between whole repo before ps s → before + (length ps + length packages) ≤ most_packages
      → IsOkAnd (lines_all s (tag_lines packages)) (Between whole repo before (ps ++ packages))
  packages_go [] ps s are b room = subst (λ l. Between whole repo before l s) (sym (append-nil ps)) b
  packages_go (a ∷ packages) ps s are b room =
      let first = All-head IsOfRepo a packages are in
      let longer : length (ps ++ a ∷ []) ≡ length ps + 1 = length-append ps (a ∷ []) in
      all_behind (Between whole repo before (ps ++ a ∷ [])) (Between whole repo before (ps ++ a ∷ packages)) (package_lines a) (tag_lines packages) s
      (package_goes a first.is first.holds ps s first.own b (omega (arith, room)))
      (λ t c. subst (λ l. IsOkAnd (lines_all t (tag_lines packages)) (Between whole repo before l)) (append_assoc ps (a ∷ []) packages)
      (packages_go packages (ps ++ a ∷ []) t (All-tail IsOfRepo a packages are) c (omega (arith, room, longer))))

  -- what numbered lines give where the lines are right
  numbered_are : (P : Tagged → Type 0) (R : Repository → Type 0) → ((t : Tagged) (last : ℕ) → P t → IsOkAnd (end_read last t) R) → (lines : List (List ℕ)) (n last : ℕ) (s : Tagged)
      → IsOkAnd (lines_all s lines) P → IsOkAnd (lines_read last s (enumerate_from n lines)) R
  numbered_are P R ends [] n last s h = ends s last h
  numbered_are P R ends (line ∷ lines) n last s h = on (line_read s line) h (λ t g. numbered_are P R ends lines (n + 1) n t g)
    where
      on : (r : Result Tagged TagCause) → IsOkAnd (then_lines r (λ t. lines_all t lines)) P → ((t : Tagged) → IsOkAnd (lines_all t lines) P → IsOkAnd (lines_read n t (enumerate_from (n + 1) lines)) R)
          → IsOkAnd (or_bad n r (λ t. lines_read n t (enumerate_from (n + 1) lines))) R
      on (Ok t) h more = more t h
      on (Err e) h more = absurd h

  -- a repository was read as these packages
  pub record IsReadAs (packages : List WrittenPackage) (r : Repository) : Type 0 where
    pub part : IsPart r.held whole
    pub is : r.packages ≡ packages

  pub tags_read : (packages : List WrittenPackage) (held : Held) (n : ℕ) → All IsOfRepo packages → IsPart held whole → before + length packages ≤ most_packages
      → IsOkAnd (testtags held before repo (enumerate_from n (tag_lines packages))) (IsReadAs packages)
  tags_read packages held n are part room =
      rw (testtags_same held before repo (enumerate_from n (tag_lines packages)))
      (numbered_are (Between whole repo before packages) (IsReadAs packages) ends (tag_lines packages) n 0 (no_line held before repo)
      (packages_go packages [] (no_line held before repo) are (record { part = part; no_block = refl; own = refl; front = refl; is = refl }) (omega (arith, room))))
    where
      ends : (t : Tagged) (last : ℕ) → Between whole repo before packages t → IsOkAnd (end_read last t) (IsReadAs packages)
      ends t last b = rw b.no_block (record { part = b.part; is = b.is })
