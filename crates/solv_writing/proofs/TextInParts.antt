-- The text of a script is made of its parts.
use Rattle.std.proofs.Common.{◌≡◌, ◌∙◌, ℕ, ◌+◌, ◌==◌, Bool, true, false, List, [], ◌∷◌, ◌++◌, map, length, cond, Option, Some, None, refl, sym, ap, ap₂, append-nil}
use Rattle.std.proofs.Math.Path.{fun_ext}
use Rattle.std.proofs.lemmas.List.{map-append}
use Rattle.std.specs.Prelude.{codes, filter, flat_map, option_to_list, if◌then◌else◌}
use Rattle.std.specs.Fmt.{signed_decimal}
use Rattle.std.specs.List.{enumerate_from, items_where_true, join_with_byte}
use Rattle.std.specs.Option.{option_map_or}
use Rattle.solv_io.specs.JoinedWords.{joined}
use Rattle.solv_io.specs.Lines.{ended_lines}
use Rattle.solv_base.specs.Dependency.{Dep}
use Rattle.solv_deps.specs.Canonical.{comparison_text, text}
use Rattle.solv_pool.specs.Prelude.{WrittenTask, WrittenRepo, WrittenPackage, WrittenNeed}
use Rattle.solv_pool.specs.declared.universes.Arch.{Arch}
use Rattle.solv_tags.specs.declared.tag.Tag.{Tag}
use Rattle.solv_tags.specs.declared.tag.Tag.TheVariants.{Pkg, Prv, Con, Obs, Rec, Sug, Sup, Enh, Vnd, Fls, Req, Prq}
use Rattle.solv_commands.specs.Switches.{Switch}
use Rattle.solv_script.specs.Grammar.{inline}
use Rattle.solv_script.specs.Reads.{WrittenRound, WrittenScript}
use Rattle.solv_script.specs.Results.{kind_switches}
use Rattle.solv_script.specs.Rows.{arch_text}
use Rattle.solv_script.specs.States.{repo_name, text_of}
use Rattle.solv_script.specs.declared.scripts.Kinds.{Kinds}
use Rattle.solv_list.proofs.Numbers.{successor_not_zero}
use Rattle.solv_writing.specs.ScriptTexts.{inlined, kind_word, repository_lines, round_lines, text_of_script, universe_lines}
use Rattle.solv_writing.specs.TagLines.{evr_words, package_lines, tagged}
use Rattle.solv_writing.specs.Inner.ScriptParts.{content_words, installed_words, kind_if, kind_names, text_in_parts, with_commas}
use Rattle.solv_writing.specs.Inner.ScriptParts as parts
use Rattle.solv_writing.specs.Inner.TagParts.{Entry, dep_entry, entry_line, letters_of, text_entry}
use Rattle.solv_writing.specs.Inner.TagParts as tags

-- ---- packages

texts_tagged : (tag : Tag) (texts : List (List ℕ)) → map entry_line (map (text_entry tag) texts) ≡ tagged (letters_of tag) texts
texts_tagged tag [] = refl
texts_tagged tag (x ∷ xs) = ap (λ lines. entry_line (text_entry tag x) ∷ lines) (texts_tagged tag xs)

deps_tagged : (tag : Tag) (deps : List (Dep (List ℕ))) → map entry_line (map (dep_entry tag) deps) ≡ tagged (letters_of tag) (map text deps)
deps_tagged tag [] = refl
deps_tagged tag (d ∷ ds) = ap (λ lines. entry_line (dep_entry tag d) ∷ lines) (deps_tagged tag ds)

abbrev need_lines : WrittenNeed → List (List ℕ)
need_lines need = tagged (if need.pre then codes "Prq" else codes "Req") (text need.dep ∷ [])

abbrev need_entry : WrittenNeed → Entry
need_entry need = dep_entry (if need.pre then Prq else Req) need.dep

need_tagged : (need : WrittenNeed) → entry_line (need_entry need) ∷ [] ≡ need_lines need
need_tagged need = by need.pre
  where
    by : (pre : Bool) → entry_line (dep_entry (if pre then Prq else Req) need.dep) ∷ [] ≡ tagged (if pre then codes "Prq" else codes "Req") (text need.dep ∷ [])
    by true = refl
    by false = refl

needs_tagged : (needs : List WrittenNeed) → map entry_line (map need_entry needs) ≡ flat_map need_lines needs
needs_tagged [] = refl
needs_tagged (need ∷ needs) = ap₂ (λ first behind. first ++ behind) (need_tagged need) (needs_tagged needs)

behind : (xs ys : List Entry) (first others : List (List ℕ)) → map entry_line xs ≡ first → map entry_line ys ≡ others → map entry_line (xs ++ ys) ≡ first ++ others
behind xs ys first others h k = map-append entry_line xs ys ∙ ap₂ (λ a b. a ++ b) h k

package_is : (a : WrittenPackage) → package_lines a ≡ tags.package_lines a
package_is a = sym (ap (λ lines. entry_line (record { tag = Pkg; text = joined (a.name ∷ (evr_words a.evr ++ a.arch ∷ [])) }) ∷ lines)
    (behind _ _ _ _ (texts_tagged Vnd (option_to_list a.vendor))
    (behind _ _ _ _ (deps_tagged Prv a.provides)
    (behind _ _ _ _ (needs_tagged a.requires_)
    (behind _ _ _ _ (deps_tagged Con a.conflicts)
    (behind _ _ _ _ (deps_tagged Obs a.obsoletes)
    (behind _ _ _ _ (deps_tagged Rec a.recommends)
    (behind _ _ _ _ (deps_tagged Sug a.suggests)
    (behind _ _ _ _ (deps_tagged Sup a.supplements)
    (behind _ _ _ _ (deps_tagged Enh a.enhances) (texts_tagged Fls a.files)))))))))))

-- ---- the universe

repository_is : (r : WrittenRepo) (packages : List WrittenPackage) → repository_lines r packages ≡ parts.repository_lines r packages
repository_is r packages =
    ap₂ (λ words lines. joined (codes "repo" ∷ r.name ∷ signed_decimal r.priority ∷ words) ∷ inlined lines) (content packages) (ap (λ lines. flat_map lines packages) (fun_ext package_is))
  where
    content : (packages : List WrittenPackage) → (if length packages == 0 then codes "empty" ∷ [] else codes "testtags" ∷ inline ∷ []) ≡ content_words packages
    content [] = refl
    content (a ∷ others) = ap (λ b. if b then codes "empty" ∷ [] else codes "testtags" ∷ inline ∷ []) (successor_not_zero (length others))

repositories_are : (packages : List WrittenPackage) (place : ℕ) (repos : List WrittenRepo)
    → flat_map (λ r. repository_lines r.1 (filter (λ a. a.repo == r.0) packages)) (enumerate_from place repos) ≡ parts.repositories_from place repos packages
repositories_are packages place [] = refl
repositories_are packages place (r ∷ others) = ap₂ (λ first behind. first ++ behind) (repository_is r (filter (λ a. a.repo == place) packages)) (repositories_are packages (place + 1) others)

module _ (task : WrittenTask) where
  installed_is : (installed : Option ℕ) → map (repo_name task) (option_to_list installed) ≡ installed_words task installed
  installed_is None = refl
  installed_is (Some place) = refl

  system_is : (arch : Option Arch) → map (λ arch. joined (codes "system" ∷ arch_text arch ∷ codes "rpm" ∷ map (repo_name task) (option_to_list task.installed))) (option_to_list arch) ≡ parts.system_lines task arch
  system_is None = refl
  system_is (Some arch) = ap (λ words. joined (codes "system" ∷ arch_text arch ∷ codes "rpm" ∷ words) ∷ []) (installed_is task.installed)

  disabled_are : (packages : List WrittenPackage) (marks : List Bool) → map (λ a. joined (codes "disable" ∷ codes "pkg" ∷ text_of task a ∷ [])) (items_where_true marks packages) ≡ parts.disabled_lines task packages marks
  disabled_are [] [] = refl
  disabled_are [] (mark ∷ marks) = refl
  disabled_are (a ∷ packages) [] = refl
  disabled_are (a ∷ packages) (true ∷ marks) = ap (λ lines. joined (codes "disable" ∷ codes "pkg" ∷ text_of task a ∷ []) ∷ lines) (disabled_are packages marks)
  disabled_are (a ∷ packages) (false ∷ marks) = disabled_are packages marks

  universe_is : universe_lines task ≡ parts.universe_lines task
  universe_is = ap₂ (λ a b. a ++ b) (repositories_are task.packages 0 task.repos) (ap₂ (λ a b. a ++ b) (system_is task.arch) (ap₂ (λ a b. a ++ b) (disabled_are task.packages task.disabled) refl))

-- ---- rounds

named_if : (b : Bool) (s : Switch Kinds) (xs : List (Switch Kinds)) (rest : List (List ℕ)) → map (λ switch. switch.name) xs ≡ rest → map (λ switch. switch.name) (cond b (s ∷ xs) xs) ≡ kind_if b s.name ++ rest
named_if true s xs rest h = ap (λ names. s.name ∷ names) h
named_if false s xs rest h = h

kinds_named : (k : Kinds) → map (λ switch. switch.name) (filter (λ switch. switch.is_on k) kind_switches) ≡ kind_names k
kinds_named k =
    named_if k.transaction _ _ _ (named_if k.problems _ _ _ (named_if k.order _ _ _ (named_if k.reason _ _ _ (named_if k.userinstalled _ _ _ (named_if k.unneeded _ [] [] refl ∙ append-nil (kind_if k.unneeded (codes "unneeded")))))))

commas_behind : (name : List ℕ) (others : List (List ℕ)) → join_with_byte 44 (name ∷ others) ≡ name ++ flat_map (λ other. codes "," ++ other) others
commas_behind name [] = sym (append-nil name)
commas_behind name (next ∷ others) = ap (λ rest. name ++ 44 ∷ rest) (commas_behind next others)

commas_are : (names : List (List ℕ)) → join_with_byte 44 names ≡ with_commas names
commas_are [] = refl
commas_are (name ∷ others) = commas_behind name others

result_is : (k : Kinds) (wanted : Option (List (List ℕ))) → option_map_or (λ wanted. joined (codes "result" ∷ kind_word k ∷ inline ∷ []) ∷ inlined wanted) wanted [] ≡ parts.result_lines k wanted
result_is k None = refl
result_is k (Some wanted) = ap (λ word. joined (codes "result" ∷ word ∷ inline ∷ []) ∷ inlined wanted) (ap (join_with_byte 44) (kinds_named k) ∙ commas_are (kind_names k))

round_is : (r : WrittenRound) → round_lines r ≡ parts.round_lines r
round_is r = ap (λ lines. joined (codes "solverflags" ∷ parts.flag_words r.flags) ∷ (map (λ j. codes "job " ++ j.text) r.jobs ++ lines)) (result_is r.kinds r.wanted)

-- the text of a script, by its parts
pub text_is : (s : WrittenScript) → text_of_script s ≡ text_in_parts s
text_is s =
    ap ended_lines (ap₂ (λ a b. a ++ (map (λ c. joined (codes "evrcmp" ∷ c.left ∷ comparison_text c.op ∷ c.right ∷ [])) s.checks ++ b)) (universe_is s.task)
    (ap₂ (λ a b. a ++ b) (round_is (parts.first_round s)) (ap (λ lines. flat_map (λ r. codes "nextjob" ∷ lines r) s.later) (fun_ext round_is))))
