-- Each line of a written script is one line.
use Rattle.std.proofs.Common.{◌≡◌, ℕ, suc, ◌+◌, Bool, true, false, not, List, [], ◌∷◌, ◌++◌, map, Option, Some, None, refl, sym, subst, All}
use Rattle.std.specs.Prelude.{codes, flat_map, option_to_list, ◌==◌}
use Rattle.std.specs.Fmt.{signed_decimal}
use Rattle.std.specs.List.{list_all}
use Rattle.std.proofs.lemmas.Bool.{and_from}
use Rattle.std.proofs.lemmas.List.Elements.{All-head, All-tail, All-filter}
use Rattle.solv_io.specs.Words.{is_blank}
use Rattle.solv_base.specs.Dependency.{Dep}
use Rattle.solv_deps.specs.Canonical.{comparison_text}
use Rattle.solv_deps.specs.declared.place.Place.{Place}
use Rattle.solv_pool.specs.Prelude.{WrittenTask, WrittenRepo, WrittenPackage, WrittenNeed, WrittenJob}
use Rattle.solv_pool.specs.declared.tasks.Flags.{Flags}
use Rattle.solv_pool.specs.declared.universes.Arch.{Arch}
use Rattle.solv_pool.specs.declared.universes.Arch.TheVariants.{X86_64, I686, Aarch64}
use Rattle.solv_tags.specs.declared.tag.Tag.{Tag}
use Rattle.solv_tags.specs.declared.tag.Tag.TheVariants.{Pkg, Prv, Req, Prq, Con, Obs, Rec, Sug, Sup, Enh, Vnd, Fls}
use Rattle.solv_script.specs.Grammar.{inline}
use Rattle.solv_script.specs.Reads.{WrittenScript, WrittenCheck, WrittenRound}
use Rattle.solv_script.specs.States.{repo_name, text_of, text_of_number}
use Rattle.solv_script.specs.declared.scripts.Kinds.{Kinds}
use Rattle.solv_list.proofs.Booleans.{first_of_both, second_of_both}
use Rattle.solv_list.proofs.Lists.{list_all_join}
use Rattle.solv_io.specs.JoinedWords.{is_inner, is_solid, is_word, is_line, joined}
use Rattle.solv_writing.specs.Inner.ReadPackages.{ReadsBack, IsKept, IsReadPackage}
use Rattle.solv_writing.specs.Inner.ReadScripts.{IsReadJob, IsReadCheck, AreReadKinds, IsReadRepo, IsToldByText, IsReadNamespace, IsReadSystem, AreDisabledTold, IsReadRound, view_of, IsReadUniverse, universe_of, IsReadScript}
use Rattle.solv_writing.specs.ScriptTexts.{inlined}
use Rattle.solv_script.specs.Rows.{arch_text}
use Rattle.solv_writing.specs.Inner.ScriptParts.{content_words, repository_lines, packages_of, repositories_from, installed_words, system_lines, disabled_lines, universe_lines, flag_word, flag_words, kind_names, with_commas, result_lines, round_lines, first_round, lines_of_script}
use Rattle.solv_writing.specs.Inner.LineNames.{disable_line, namespace_line}
use Rattle.solv_writing.specs.Inner.LineNames.{check_line, job_line, later_lines}
use Rattle.solv_writing.specs.TagLines.{evr_words}
use Rattle.solv_writing.specs.Inner.TagParts.{Entry, letters_of, entry_line, text_entry, dep_entry, entries_of, package_lines, tag_lines}
use Rattle.solv_writing.specs.Inner.LineNames.{package_entry, need_entry}
use Rattle.solv_writing.proofs.EvrWords.{evr_parts}
use Rattle.solv_deps.proofs.OneLine.{join}

both : (a b : List (List ℕ)) → list_all is_line a ≡ true → list_all is_line b ≡ true → list_all is_line (a ++ b) ≡ true
both a b h k = list_all_join is_line a b h k

solid_lined : (w : List ℕ) → list_all is_solid w ≡ true → is_line w ≡ true
solid_lined [] h = refl
solid_lined (c ∷ cs) h = and_from (is_inner c) (is_line cs) (second_of_both (not (is_blank c)) (is_inner c) (first_of_both (is_solid c) (list_all is_solid cs) h)) (solid_lined cs (second_of_both (is_solid c) (list_all is_solid cs) h))

word_lined : (w : List ℕ) → is_word w ≡ true → is_line w ≡ true
word_lined [] h = refl
word_lined (c ∷ cs) h = solid_lined (c ∷ cs) h

behind_lined : (ws : List (List ℕ)) → list_all is_word ws ≡ true → is_line (flat_map (λ other. 32 ∷ other) ws) ≡ true
behind_lined [] h = refl
behind_lined (w ∷ ws) h = join w (flat_map (λ other. 32 ∷ other) ws) (word_lined w (first_of_both (is_word w) (list_all is_word ws) h)) (behind_lined ws (second_of_both (is_word w) (list_all is_word ws) h))

spaced_lined : (ws : List (List ℕ)) → list_all is_word ws ≡ true → is_line (joined ws) ≡ true
spaced_lined [] h = refl
spaced_lined (w ∷ ws) h = join w (flat_map (λ other. 32 ∷ other) ws) (word_lined w (first_of_both (is_word w) (list_all is_word ws) h)) (behind_lined ws (second_of_both (is_word w) (list_all is_word ws) h))

-- entries
letters_lined : (t : Tag) → is_line (letters_of t) ≡ true
letters_lined Pkg = refl
letters_lined Prv = refl
letters_lined Req = refl
letters_lined Prq = refl
letters_lined Con = refl
letters_lined Obs = refl
letters_lined Rec = refl
letters_lined Sug = refl
letters_lined Sup = refl
letters_lined Enh = refl
letters_lined Vnd = refl
letters_lined Fls = refl

entry_lined : (e : Entry) → is_line e.text ≡ true → is_line (entry_line e) ≡ true
entry_lined e h = join (letters_of e.tag) (codes ": " ++ e.text) (letters_lined e.tag) h

entries_join : (a b : List Entry) → list_all (λ e. is_line e.text) a ≡ true → list_all (λ e. is_line e.text) b ≡ true → list_all (λ (e : Entry). is_line e.text) (a ++ b) ≡ true
entries_join a b h k = list_all_join (λ (e : Entry). is_line e.text) a b h k

texts_lined : (t : Tag) (ts : List (List ℕ)) → All IsKept ts → list_all (λ (e : Entry). is_line e.text) (map (text_entry t) ts) ≡ true
texts_lined t [] h = refl
texts_lined t (x ∷ ts) h = and_from (is_line x) _ ((All-head IsKept x ts h).line) (texts_lined t ts (All-tail IsKept x ts h))

deps_lined : (place : Place) (t : Tag) (ds : List (Dep (List ℕ))) → All (ReadsBack place) ds → list_all (λ (e : Entry). is_line e.text) (map (dep_entry t) ds) ≡ true
deps_lined place t [] h = refl
deps_lined place t (d ∷ ds) h = and_from (is_line (dep_entry t d).text) _ ((All-head (ReadsBack place) d ds h).line) (deps_lined place t ds (All-tail (ReadsBack place) d ds h))

needs_lined : (place : Place) (needs : List WrittenNeed) → All (ReadsBack place) (map (λ need. need.dep) needs) → list_all (λ (e : Entry). is_line e.text) (map need_entry needs) ≡ true
needs_lined place [] h = refl
needs_lined place (need ∷ needs) h =
    let more : List (Dep (List ℕ)) = map (λ n. n.dep) needs in
    and_from (is_line (need_entry need).text) _ ((All-head (ReadsBack place) need.dep more h).line) (needs_lined place needs (All-tail (ReadsBack place) need.dep more h))

all_entries_lined : (es : List Entry) → list_all (λ (e : Entry). is_line e.text) es ≡ true → list_all is_line (map entry_line es) ≡ true
all_entries_lined [] h = refl
all_entries_lined (e ∷ es) h = and_from (is_line (entry_line e)) _ (entry_lined e (first_of_both (is_line e.text) (list_all (λ (x : Entry). is_line x.text) es) h)) (all_entries_lined es (second_of_both (is_line e.text) (list_all (λ (x : Entry). is_line x.text) es) h))

package_lined : (a : WrittenPackage) → IsReadPackage a → list_all is_line (package_lines a) ≡ true
package_lined a is =
    let e = evr_parts a.evr is.evr in
    let words : list_all is_word (a.name ∷ (evr_words a.evr ++ a.arch ∷ [])) ≡ true =
    subst (λ ws. list_all is_word (a.name ∷ (ws ++ a.arch ∷ [])) ≡ true) (sym e.words)
    (and_from (is_word a.name) _ is.name (and_from (is_word e.version) _ e.are.version_word (and_from (is_word e.release) _ e.are.release_word (and_from (is_word a.arch) true is.arch refl)))) in
    and_from (is_line (entry_line (package_entry a))) _ (entry_lined (package_entry a) (spaced_lined (a.name ∷ (evr_words a.evr ++ a.arch ∷ [])) words))
    (all_entries_lined (entries_of a)
    (entries_join (map (text_entry Vnd) (option_to_list a.vendor)) _ (texts_lined Vnd (option_to_list a.vendor) is.vendor)
    (entries_join (map (dep_entry Prv) a.provides) _ (deps_lined _ Prv a.provides is.provides.each)
    (entries_join (map need_entry a.requires_) _ (needs_lined _ a.requires_ is.requires_.each)
    (entries_join (map (dep_entry Con) a.conflicts) _ (deps_lined _ Con a.conflicts is.conflicts.each)
    (entries_join (map (dep_entry Obs) a.obsoletes) _ (deps_lined _ Obs a.obsoletes is.obsoletes.each)
    (entries_join (map (dep_entry Rec) a.recommends) _ (deps_lined _ Rec a.recommends is.recommends.each)
    (entries_join (map (dep_entry Sug) a.suggests) _ (deps_lined _ Sug a.suggests is.suggests.each)
    (entries_join (map (dep_entry Sup) a.supplements) _ (deps_lined _ Sup a.supplements is.supplements.each)
    (entries_join (map (dep_entry Enh) a.enhances) _ (deps_lined _ Enh a.enhances is.enhances.each)
    (texts_lined Fls a.files is.files)))))))))))

pub tags_lined : (packages : List WrittenPackage) → All IsReadPackage packages → list_all is_line (tag_lines packages) ≡ true
tags_lined [] h = refl
tags_lined (a ∷ packages) h = both (package_lines a) (tag_lines packages) (package_lined a (All-head IsReadPackage a packages h)) (tags_lined packages (All-tail IsReadPackage a packages h))

inlined_lined : (lines : List (List ℕ)) → list_all is_line lines ≡ true → list_all is_line (inlined lines) ≡ true
inlined_lined [] h = refl
inlined_lined (line ∷ lines) h = and_from (is_line line) _ (first_of_both (is_line line) (list_all is_line lines) h) (inlined_lined lines (second_of_both (is_line line) (list_all is_line lines) h))

content_word : (packages : List WrittenPackage) → list_all is_word (content_words packages) ≡ true
content_word [] = refl
content_word (a ∷ packages) = refl

repositories_lined : (place : ℕ) (rs : List WrittenRepo) (packages : List WrittenPackage) → All IsReadRepo rs → All IsReadPackage packages → list_all is_line (repositories_from place rs packages) ≡ true
repositories_lined place [] packages h k = refl
repositories_lined place (r ∷ rs) packages h k =
    let first = All-head IsReadRepo r rs h in
    both (repository_lines r (packages_of place packages)) (repositories_from (place + 1) rs packages)
    (and_from (is_line (joined (codes "repo" ∷ r.name ∷ signed_decimal r.priority ∷ content_words (packages_of place packages)))) _
    (spaced_lined (codes "repo" ∷ r.name ∷ signed_decimal r.priority ∷ content_words (packages_of place packages))
    (and_from (is_word r.name) _ first.name (and_from (is_word (signed_decimal r.priority)) _ first.number (content_word (packages_of place packages)))))
    (inlined_lined (tag_lines (packages_of place packages)) (tags_lined (packages_of place packages) (All-filter (λ (a : WrittenPackage). a.repo == place) IsReadPackage packages k))))
    (repositories_lined (place + 1) rs packages (All-tail IsReadRepo r rs h) k)

arch_word : (a : Arch) → is_word (arch_text a) ≡ true
arch_word X86_64 = refl
arch_word I686 = refl
arch_word Aarch64 = refl

installed_word : (task : WrittenTask) (a : Arch) (i : Option ℕ) → IsReadSystem task (Some a) i → list_all is_word (installed_words task i) ≡ true
installed_word task a None h = refl
installed_word task a (Some place) h = and_from (is_word (repo_name task place)) true h.word refl

disabled_lined : (task : WrittenTask) (k : ℕ) (packages : List WrittenPackage) (marks : List Bool) → AreDisabledTold task k packages marks → list_all is_line (disabled_lines task packages marks) ≡ true
disabled_lined task k [] [] h = refl
disabled_lined task k (a ∷ packages) (true ∷ marks) h =
    and_from (is_line (disable_line task a)) _ (spaced_lined (codes "disable" ∷ codes "pkg" ∷ text_of task a ∷ []) (and_from (is_word (text_of task a)) true h.0 refl)) (disabled_lined task (suc k) packages marks h.2)
disabled_lined task k (a ∷ packages) (false ∷ marks) h = disabled_lined task (suc k) packages marks h
disabled_lined task k [] (m ∷ marks) h = absurd h
disabled_lined task k (a ∷ packages) [] h = absurd h

numbers_words : (task : WrittenTask) (ps : List ℕ) → All (IsToldByText task) ps → list_all is_word (map (text_of_number task) ps) ≡ true
numbers_words task [] h = refl
numbers_words task (n ∷ ps) h = and_from (is_word (text_of_number task n)) _ ((All-head (IsToldByText task) n ps h).1) (numbers_words task ps (All-tail (IsToldByText task) n ps h))

namespaces_lined : (task : WrittenTask) (ns : List (List ℕ × List ℕ)) → All (IsReadNamespace task) ns → list_all is_line (map (namespace_line task) ns) ≡ true
namespaces_lined task [] h = refl
namespaces_lined task (n ∷ ns) h =
    let first = All-head (IsReadNamespace task) n ns h in
    and_from (is_line (namespace_line task n)) _ (spaced_lined (codes "namespace" ∷ n.0 ∷ map (text_of_number task) n.1) (and_from (is_word n.0) _ first.name (numbers_words task n.1 first.told)))
    (namespaces_lined task ns (All-tail (IsReadNamespace task) n ns h))

checks_lined : (cs : List WrittenCheck) → All IsReadCheck cs → list_all is_line (map check_line cs) ≡ true
checks_lined [] h = refl
checks_lined (c ∷ cs) h =
    let first = All-head IsReadCheck c cs h in
    and_from (is_line (check_line c)) _ (spaced_lined (codes "evrcmp" ∷ c.left ∷ comparison_text c.op ∷ c.right ∷ []) (and_from (is_word c.left) _ first.left (and_from (is_word (comparison_text c.op)) _ first.op_word (and_from (is_word c.right) true first.right refl))))
    (checks_lined cs (All-tail IsReadCheck c cs h))

flag_lined : (c : ℕ) (rest : List ℕ) (on : Bool) → is_word (c ∷ rest) ≡ true → is_word (flag_word on (c ∷ rest)) ≡ true
flag_lined c rest true h = h
flag_lined c rest false h = h

flags_lined : (f : Flags) → is_line (joined (codes "solverflags" ∷ flag_words f)) ≡ true
flags_lined f =
    spaced_lined (codes "solverflags" ∷ flag_words f)
    (and_from (is_word (flag_word f.allow_downgrade (codes "allowdowngrade"))) _ (flag_lined 97 (codes "llowdowngrade") f.allow_downgrade refl)
    (and_from (is_word (flag_word f.allow_name_change (codes "allownamechange"))) _ (flag_lined 97 (codes "llownamechange") f.allow_name_change refl)
    (and_from (is_word (flag_word f.allow_arch_change (codes "allowarchchange"))) _ (flag_lined 97 (codes "llowarchchange") f.allow_arch_change refl)
    (and_from (is_word (flag_word f.allow_vendor_change (codes "allowvendorchange"))) _ (flag_lined 97 (codes "llowvendorchange") f.allow_vendor_change refl)
    (and_from (is_word (flag_word f.allow_uninstall (codes "allowuninstall"))) _ (flag_lined 97 (codes "llowuninstall") f.allow_uninstall refl)
    (and_from (is_word (flag_word f.ignore_recommended (codes "ignorerecommended"))) _ (flag_lined 105 (codes "gnorerecommended") f.ignore_recommended refl)
    (and_from (is_word (flag_word f.no_infarch_check (codes "noinfarchcheck"))) true (flag_lined 110 (codes "oinfarchcheck") f.no_infarch_check refl) refl)))))))

jobs_lined : (task : WrittenTask) (js : List WrittenJob) → All (IsReadJob task) js → list_all is_line (map job_line js) ≡ true
jobs_lined task [] h = refl
jobs_lined task (j ∷ js) h =
    let first = All-head (IsReadJob task) j js h in
    let text : is_line j.text ≡ true = subst (λ t. is_line t ≡ true) (sym first.text) (spaced_lined (first.first ∷ first.others) first.words) in
    and_from (is_line (job_line j)) _ text (jobs_lined task js (All-tail (IsReadJob task) j js h))

kept_lined : (lines : List (List ℕ)) → All IsKept lines → list_all is_line (inlined lines) ≡ true
kept_lined [] h = refl
kept_lined (line ∷ lines) h = and_from (is_line line) _ ((All-head IsKept line lines h).line) (kept_lined lines (All-tail IsKept line lines h))

results_lined : (k : Kinds) (wanted : Option (List (List ℕ))) → AreReadKinds k wanted → list_all is_line (result_lines k wanted) ≡ true
results_lined k None h = refl
results_lined k (Some lines) h =
    and_from (is_line (joined (codes "result" ∷ with_commas (kind_names k) ∷ inline ∷ []))) _ (spaced_lined (codes "result" ∷ with_commas (kind_names k) ∷ inline ∷ []) (and_from (is_word (with_commas (kind_names k))) true h.1 refl)) (kept_lined lines h.2)

round_lined : (task : WrittenTask) (r : WrittenRound) → IsReadRound task r → list_all is_line (round_lines r) ≡ true
round_lined task r is =
    and_from (is_line (joined (codes "solverflags" ∷ flag_words r.flags))) _ (flags_lined r.flags)
    (both (map job_line r.jobs) (result_lines r.kinds r.wanted) (jobs_lined task r.jobs is.jobs) (results_lined r.kinds r.wanted is.kinds))

later_lined : (task : WrittenTask) (rounds : List WrittenRound) → All (IsReadRound task) rounds → list_all is_line (later_lines rounds) ≡ true
later_lined task [] h = refl
later_lined task (r ∷ rounds) h = both (codes "nextjob" ∷ round_lines r) (later_lines rounds) (round_lined task r (All-head (IsReadRound task) r rounds h)) (later_lined task rounds (All-tail (IsReadRound task) r rounds h))

-- the lines of a universe name what stands in it
universe_lined : (task : WrittenTask) → IsReadUniverse (universe_of task) → list_all is_line (universe_lines task) ≡ true
universe_lined task is =
    both (repositories_from 0 task.repos task.packages) _ (repositories_lined 0 task.repos task.packages is.repos is.packages)
    (both (system_lines task task.arch) _ (system_on task.arch is.system)
    (both (disabled_lines task task.packages task.disabled) _ (disabled_lined (view_of task) 0 task.packages task.disabled is.disabled)
    (namespaces_lined (view_of task) task.namespaces is.namespaces)))
  where
    system_on : (arch : Option Arch) → IsReadSystem (view_of task) arch task.installed → list_all is_line (system_lines task arch) ≡ true
    system_on None h = refl
    system_on (Some a) h =
        and_from (is_line (joined (codes "system" ∷ arch_text a ∷ codes "rpm" ∷ installed_words task task.installed))) true
        (spaced_lined (codes "system" ∷ arch_text a ∷ codes "rpm" ∷ installed_words task task.installed) (and_from (is_word (arch_text a)) _ (arch_word a) (installed_word (view_of task) a task.installed h))) refl

pub script_lined : (w : WrittenScript) → IsReadScript w → list_all is_line (lines_of_script w) ≡ true
script_lined w is =
    both (universe_lines w.task) _ (universe_lined w.task is.universe)
    (both (map check_line w.checks) _ (checks_lined w.checks is.checks)
    (both (round_lines (first_round w)) (later_lines w.later) (round_lined (view_of w.task) (first_round w) (All-head (IsReadRound (view_of w.task)) (first_round w) w.later is.rounds))
    (later_lined (view_of w.task) w.later (All-tail (IsReadRound (view_of w.task)) (first_round w) w.later is.rounds))))
