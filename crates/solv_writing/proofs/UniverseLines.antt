-- The lines of a written script on its universe are read again.
use Rattle.std.proofs.Common.{◌≡◌, ℕ, suc, ◌+◌, ◌-◌, ◌≤◌, Bool, true, false, List, [], ◌∷◌, ◌++◌, map, length, Option, Some, None, Result, Ok, Err, refl, sym, ap, subst, ◌∙◌, arith, append_assoc, append-nil, All}
use Rattle.std.specs.Prelude.{codes, is_some, IsOkAnd, slice_set, if◌then◌else◌}
use Rattle.std.specs.Fmt.{signed_decimal}
use Rattle.std.specs.List.{list_all, list_any, enumerate_from}
use Rattle.std.specs.Str.{bytes_eq}
use Rattle.std.proofs.lemmas.Bool.{and_from}
use Rattle.std.proofs.lemmas.List.{length-append}
use Rattle.std.proofs.lemmas.List.Elements.{All-head, All-tail}
use Rattle.solv_base.specs.Pool.{Held, IsPool}
use Rattle.solv_deps.specs.Entering.{text_entered}
use Rattle.solv_deps.specs.Grammar.{is_namespace}
use Rattle.solv_deps.specs.Laws.{HeldIsEntered}
use Rattle.solv_pool.specs.Contents.{most_packages}
use Rattle.solv_pool.specs.Prelude.{WrittenTask, WrittenRepo, WrittenPackage}
use Rattle.solv_pool.specs.declared.universes.Arch.{Arch}
use Rattle.solv_pool.specs.declared.universes.Arch.TheVariants.{X86_64, I686, Aarch64}
use Rattle.solv_tags.specs.Testtags.{Repository, testtags}
use Rattle.solv_tags.specs.declared.tag_fault.TagFault.{TagFault}
use Rattle.solv_commands.specs.Commands.{repo, system, namespace, disable, command}
use Rattle.solv_script.specs.Grammar.{inline, repository_given}
use Rattle.solv_script.specs.Inner.LineRows.{of_packages}
use Rattle.solv_script.specs.Rows.{is_too_late, with_repo, arch_named, package_numbers, with_namespace}
use Rattle.solv_script.specs.States.{State, repo_place, repo_name, text_of, text_of_number, package_number}
use Rattle.solv_io.specs.JoinedWords.{is_word, joined}
use Rattle.solv_deps.specs.Parts.{IsEnteredText}
use Rattle.solv_writing.specs.Inner.ReadPackages.{HoldsText}
use Rattle.solv_writing.specs.Inner.ReadScripts.{IsReadRepo, IsToldByName, IsToldByText, IsReadNamespace, AreDisabledTold}
use Rattle.solv_script.specs.Rows.{arch_text}
use Rattle.solv_writing.specs.Inner.ScriptParts.{repository_lines, disabled_lines}
use Rattle.solv_writing.specs.Inner.LineNames.{disable_line, namespace_line}
use Rattle.solv_writing.specs.Inner.TagParts.{tag_lines}
use Rattle.solv_deps.proofs.PartEntered.{texts_entered}
use Rattle.solv_writing.proofs.ResultLines.{block_leads}
use Rattle.solv_writing.proofs.ScriptLines.{SoFar, Reads, Leads, in_first_round, plain_leads}
use Rattle.solv_writing.proofs.TagsRead.{IsOfRepo, IsReadAs, tags_read}
use Rattle.solv_io.proofs.WordsAgain.{words_again}
use Rattle.solv_script.proofs.GrownScripts.{texts_then}

module _ (whole : Held) (p : IsPool whole) (again : HeldIsEntered) (script : List ℕ) where
  abbrev Gives : SoFar → State → Type 0
  Gives w t = Reads whole p again script w t

  abbrev To : SoFar → List (List ℕ) → SoFar → Type 0
  To w lines end = Leads whole p again script w lines end

  -- where no round is done, no line comes too late
  early : (w : SoFar) (first : List ℕ) → w.earlier ≡ [] → (s : State) → Gives w s → is_too_late s first ≡ false
  early w first fresh s g = in_first_round whole p again script w first fresh s g

  -- the system
  abbrev pub with_system : SoFar → Arch → Option ℕ → SoFar
  with_system w a i = record w { task = record w.task { arch = Some a; installed = i } }

  arch_again : (a : Arch) → arch_named (arch_text a) ≡ Some a
  arch_again X86_64 = refl
  arch_again I686 = refl
  arch_again Aarch64 = refl

  arch_word : (a : Arch) → is_word (arch_text a) ≡ true
  arch_word X86_64 = refl
  arch_word I686 = refl
  arch_word Aarch64 = refl

  pub bare_system_leads : (w end : SoFar) (a : Arch) (others : List (List ℕ)) → w.earlier ≡ [] → w.task.arch ≡ None
      → To (with_system w a None) others end → To w (joined (codes "system" ∷ arch_text a ∷ codes "rpm" ∷ []) ∷ others) end
  bare_system_leads w end a others fresh none behind =
      plain_leads whole p again script w (with_system w a None) end (joined (codes "system" ∷ arch_text a ∷ codes "rpm" ∷ [])) others (codes "system") (arch_text a ∷ codes "rpm" ∷ []) (system (arch_text a) (codes "rpm") None) refl (λ k. refl)
      (words_again (codes "system" ∷ arch_text a ∷ codes "rpm" ∷ []) (and_from (is_word (arch_text a)) true (arch_word a) refl)) (early w (codes "system") fresh) refl refl
      (λ s r.
      let empty : is_some s.task.arch ≡ false = ap (λ (x : SoFar). is_some x.task.arch) r.is ∙ ap is_some none in
      rw (empty, arch_again a) (record { part = r.part; is = ap (λ (x : SoFar). with_system x a None) r.is })) behind

  pub system_leads : (w end : SoFar) (a : Arch) (place : ℕ) (others : List (List ℕ)) → w.earlier ≡ [] → w.task.arch ≡ None → IsToldByName w.task place
      → To (with_system w a (Some place)) others end → To w (joined (codes "system" ∷ arch_text a ∷ codes "rpm" ∷ repo_name w.task place ∷ []) ∷ others) end
  system_leads w end a place others fresh none told behind =
      plain_leads whole p again script w (with_system w a (Some place)) end (joined (codes "system" ∷ arch_text a ∷ codes "rpm" ∷ repo_name w.task place ∷ [])) others (codes "system") (arch_text a ∷ codes "rpm" ∷ repo_name w.task place ∷ [])
      (system (arch_text a) (codes "rpm") (Some (repo_name w.task place))) refl (λ k. refl)
      (words_again (codes "system" ∷ arch_text a ∷ codes "rpm" ∷ repo_name w.task place ∷ []) (and_from (is_word (arch_text a)) _ (arch_word a) (and_from (is_word (repo_name w.task place)) true told.word refl))) (early w (codes "system") fresh) refl refl
      (λ s r.
      let empty : is_some s.task.arch ≡ false = ap (λ (x : SoFar). is_some x.task.arch) r.is ∙ ap is_some none in
      let there : repo_place s.task (repo_name w.task place) ≡ Some place = ap (λ (x : SoFar). repo_place x.task (repo_name w.task place)) r.is ∙ told.place_is in
      rw (empty, arch_again a, there) (record { part = r.part; is = ap (λ (x : SoFar). with_system x a (Some place)) r.is })) behind

  -- a disabled package
  abbrev with_disabled : SoFar → List Bool → SoFar
  with_disabled w d = record w { task = record w.task { disabled = d } }

  set_behind : (ds fs : List Bool) (n : ℕ) → n ≡ length ds → slice_set (ds ++ false ∷ fs) n true ≡ ds ++ true ∷ fs
  set_behind [] fs n e = ap (λ k. slice_set (false ∷ fs) k true) e
  set_behind (d ∷ ds) fs n e = ap (λ k. slice_set (d ∷ (ds ++ false ∷ fs)) k true) e ∙ ap (λ l. d ∷ l) (set_behind ds fs (length ds) refl)

  disable_leads : (w end : SoFar) (a : WrittenPackage) (k : ℕ) (others : List (List ℕ)) → w.earlier ≡ [] → is_word (text_of w.task a) ≡ true → package_number w.task (text_of w.task a) ≡ Some (suc k)
      → To (with_disabled w (slice_set w.task.disabled k true)) others end → To w (disable_line w.task a ∷ others) end
  disable_leads w end a k others fresh word told behind =
      plain_leads whole p again script w (with_disabled w (slice_set w.task.disabled k true)) end (disable_line w.task a) others (codes "disable") (codes "pkg" ∷ text_of w.task a ∷ []) (disable (text_of w.task a)) refl (λ i. refl)
      (words_again (codes "disable" ∷ codes "pkg" ∷ text_of w.task a ∷ []) (and_from (is_word (text_of w.task a)) true word refl)) (early w (codes "disable") fresh) refl refl
      (λ s r.
      let there : package_number s.task (text_of w.task a) ≡ Some (suc k) = ap (λ (x : SoFar). package_number x.task (text_of w.task a)) r.is ∙ told in
      rw there (record { part = r.part; is = ap (λ (x : SoFar). with_disabled x (slice_set x.task.disabled k true)) r.is })) behind

  pub disabled_lead : (packages : List WrittenPackage) (target ds : List Bool) (w end : SoFar) (others : List (List ℕ)) → w.earlier ≡ [] → AreDisabledTold w.task (length ds) packages target
      → w.task.disabled ≡ ds ++ map (λ a. false) packages → To (with_disabled w (ds ++ target)) others end → To w (disabled_lines w.task packages target ++ others) end
  disabled_lead [] [] ds w end others fresh told e behind = subst (λ d. To (with_disabled w d) others end) (sym e) behind
  disabled_lead (a ∷ packages) (true ∷ target) ds w end others fresh told e behind =
      let longer : length (ds ++ true ∷ []) ≡ suc (length ds) = let l = length-append ds (true ∷ []) in omega (arith, l) in
      let set : slice_set w.task.disabled (length ds) true ≡ (ds ++ true ∷ []) ++ map (λ a. false) packages
      = ap (λ d. slice_set d (length ds) true) e ∙ set_behind ds (map (λ a. false) packages) (length ds) refl ∙ sym (append_assoc ds (true ∷ []) (map (λ a. false) packages)) in
      let x : SoFar = with_disabled w (slice_set w.task.disabled (length ds) true) in
      disable_leads w end a (length ds) (disabled_lines w.task packages target ++ others) fresh told.0 told.1
      (disabled_lead packages target (ds ++ true ∷ []) x end others fresh (subst (λ n. AreDisabledTold w.task n packages target) (sym longer) told.2) set
      (subst (λ d. To (with_disabled w d) others end) (sym (append_assoc ds (true ∷ []) target)) behind))
  disabled_lead (a ∷ packages) (false ∷ target) ds w end others fresh told e behind =
      let longer : length (ds ++ false ∷ []) ≡ suc (length ds) = let l = length-append ds (false ∷ []) in omega (arith, l) in
      disabled_lead packages target (ds ++ false ∷ []) w end others fresh (subst (λ n. AreDisabledTold w.task n packages target) (sym longer) told)
      (e ∙ sym (append_assoc ds (false ∷ []) (map (λ a. false) packages)))
      (subst (λ d. To (with_disabled w d) others end) (sym (append_assoc ds (false ∷ []) target)) behind)
  disabled_lead [] (b ∷ target) ds w end others fresh told e behind = absurd told
  disabled_lead (a ∷ packages) [] ds w end others fresh told e behind = absurd told

  -- a namespace
  numbers_again : (task : WrittenTask) (ps : List ℕ) → All (IsToldByText task) ps → package_numbers task (map (text_of_number task) ps) ≡ Ok ps
  numbers_again task [] are = refl
  numbers_again task (n ∷ ps) are =
      let first = All-head (IsToldByText task) n ps are in
      rw (first.0, numbers_again task ps (All-tail (IsToldByText task) n ps are)) refl

  texts_words : (task : WrittenTask) (ps : List ℕ) → All (IsToldByText task) ps → list_all is_word (map (text_of_number task) ps) ≡ true
  texts_words task [] are = refl
  texts_words task (n ∷ ps) are =
      and_from (is_word (text_of_number task n)) _ ((All-head (IsToldByText task) n ps are).1) (texts_words task ps (All-tail (IsToldByText task) n ps are))

  abbrev pub with_namespace_line : SoFar → List ℕ × List ℕ → SoFar
  with_namespace_line w n = record w { task = record w.task { namespaces = w.task.namespaces ++ n ∷ [] } }

  some_packages : (task : WrittenTask) (name : List ℕ) (ps : List ℕ) (first : ℕ) (rest : List ℕ) → ps ≡ first ∷ rest → is_namespace name ≡ true
      → command (codes "namespace") (name ∷ map (text_of_number task) ps) ≡ Ok (namespace name (map (text_of_number task) ps))
  some_packages task name ps first rest e is = subst (λ l. command (codes "namespace") (name ∷ map (text_of_number task) l) ≡ Ok (namespace name (map (text_of_number task) l))) (sym e) (rw is refl)

  new_namespace : (name : List ℕ) (ps : List ℕ) (ns : List (List ℕ × List ℕ)) → list_any (bytes_eq name) (map (λ n. n.0) ns) ≡ false → with_namespace name ps ns ≡ ns ++ (name, ps) ∷ []
  new_namespace name ps [] h = refl
  new_namespace name ps (n ∷ ns) h =
      (elim (bytes_eq name n.0) as (λ b. bytes_eq name n.0 ≡ b → (if b then (n.0, n.1 ++ ps) ∷ ns else n ∷ with_namespace name ps ns) ≡ n ∷ (ns ++ (name, ps) ∷ [])) [
        | true ↦ λ e. absurd (let bad : true ≡ false = sym (let t : list_any (bytes_eq name) (map (λ m. m.0) (n ∷ ns)) ≡ true = rw e refl in t) ∙ h in cc)
        | false ↦ λ e. ap (λ l. n ∷ l) (new_namespace name ps ns (rw e at h))
      ]) refl

  pub namespace_leads : (w end : SoFar) (n : List ℕ × List ℕ) (others : List (List ℕ)) → w.earlier ≡ [] → IsReadNamespace w.task n → HoldsText whole n.0 → list_any (bytes_eq n.0) (map (λ m. m.0) w.task.namespaces) ≡ false
      → To (with_namespace_line w n) others end → To w (namespace_line w.task n ∷ others) end
  namespace_leads w end n others fresh is holds free behind =
      plain_leads whole p again script w (with_namespace_line w n) end (namespace_line w.task n) others (codes "namespace") (n.0 ∷ map (text_of_number w.task) n.1) (namespace n.0 (map (text_of_number w.task) n.1)) refl (λ k. refl)
      (words_again (codes "namespace" ∷ n.0 ∷ map (text_of_number w.task) n.1) (and_from (is_word n.0) _ is.name (texts_words w.task n.1 is.told))) (early w (codes "namespace") fresh)
      (some_packages w.task n.0 n.1 is.first is.rest is.some is.namespace) refl
      (λ s r.
      let numbers : package_numbers s.task (map (text_of_number w.task) n.1) ≡ Ok n.1 = ap (λ (x : SoFar). package_numbers x.task (map (text_of_number w.task) n.1)) r.is ∙ numbers_again w.task n.1 is.told in
      rw numbers (texts_then (IsEnteredText whole s.held n.0) (Gives (with_namespace_line w n)) (text_entered n.0 s.held) _ (texts_entered whole s.held n.0 p r.part holds)
      (λ e ie. record {
        part = ie.part;
        is = ap (λ (x : SoFar). record x { task = record x.task { namespaces = with_namespace n.0 n.1 x.task.namespaces } }) r.is ∙ ap (λ l. record w { task = record w.task { namespaces = l } }) (new_namespace n.0 n.1 w.task.namespaces free);
      }))) behind

  -- a repository with its packages
  abbrev pub with_packages : SoFar → WrittenRepo → List WrittenPackage → SoFar
  with_packages w r ps = record w { task = record w.task { repos = w.task.repos ++ r ∷ []; packages = w.task.packages ++ ps; disabled = w.task.disabled ++ map (λ a. false) ps } }

  repo_named : (w : SoFar) (r : WrittenRepo) → is_some (repo_place w.task r.name) ≡ false → HoldsText whole r.name → (s : State) → Gives w s → IsOkAnd (with_repo s r.name r.priority) (Gives (record w { task = record w.task { repos = w.task.repos ++ r ∷ [] } }))
  repo_named w r new holds s g =
      let free : is_some (repo_place s.task r.name) ≡ false = ap (λ (x : SoFar). is_some (repo_place x.task r.name)) g.is ∙ new in
      rw free (texts_then (IsEnteredText whole s.held r.name) (Gives (record w { task = record w.task { repos = w.task.repos ++ r ∷ [] } })) (text_entered r.name s.held) _ (texts_entered whole s.held r.name p g.part holds)
      (λ e ie. record { part = ie.part; is = ap (λ (x : SoFar). record x { task = record x.task { repos = x.task.repos ++ r ∷ [] } }) g.is }))

  result_ok : {A E F : Type 0} (P : A → Type 0) (Q : F → Type 0) (r : Result A E) (f : Result A E → Result F E) → IsOkAnd r P → ((x : A) → P x → IsOkAnd (f (Ok x)) Q) → IsOkAnd (f r) Q
  result_ok P Q (Ok x) f h k = k x h
  result_ok P Q (Err e) f h k = absurd h

  pub repository_leads : (w end : SoFar) (r : WrittenRepo) (ps : List WrittenPackage) (others : List (List ℕ)) → w.earlier ≡ [] → IsReadRepo r → HoldsText whole r.name → is_some (repo_place w.task r.name) ≡ false
      → All (IsOfRepo again whole p (length w.task.repos) (length w.task.packages)) ps → length w.task.packages + length ps ≤ most_packages
      → To (with_packages w r ps) others end → To w (repository_lines r ps ++ others) end
  repository_leads w end r [] others fresh is holds new are few behind =
      let x : SoFar = record w { task = record w.task { repos = w.task.repos ++ r ∷ [] } } in
      let none : with_packages w r [] ≡ x = λ i. record w { task = record w.task { repos = w.task.repos ++ r ∷ []; packages = append-nil w.task.packages i; disabled = append-nil w.task.disabled i } } in
      plain_leads whole p again script w x end (joined (codes "repo" ∷ r.name ∷ signed_decimal r.priority ∷ codes "empty" ∷ [])) others (codes "repo") (r.name ∷ signed_decimal r.priority ∷ codes "empty" ∷ []) (repo r.name r.priority None) refl (λ k. refl)
      (words_again (codes "repo" ∷ r.name ∷ signed_decimal r.priority ∷ codes "empty" ∷ []) (and_from (is_word r.name) _ is.name (and_from (is_word (signed_decimal r.priority)) _ is.number refl))) (early w (codes "repo") fresh)
      (rw is.priority refl) refl (repo_named w r new holds) (subst (λ y. To y others end) none behind)
  repository_leads w end r (a ∷ ps) others fresh is holds new are few behind =
      block_leads whole p again script w (with_packages w r (a ∷ ps)) end (joined (codes "repo" ∷ r.name ∷ signed_decimal r.priority ∷ codes "testtags" ∷ inline ∷ [])) (tag_lines (a ∷ ps)) others
      (codes "repo") (r.name ∷ signed_decimal r.priority ∷ codes "testtags" ∷ inline ∷ []) (repo r.name r.priority (Some inline)) of_packages refl (λ k. refl)
      (words_again (codes "repo" ∷ r.name ∷ signed_decimal r.priority ∷ codes "testtags" ∷ inline ∷ []) (and_from (is_word r.name) _ is.name (and_from (is_word (signed_decimal r.priority)) _ is.number refl))) (early w (codes "repo") fresh)
      (rw is.priority refl) refl
      (λ s g. ok_weaker (Gives (record w { task = record w.task { repos = w.task.repos ++ r ∷ [] } })) _ (with_repo s r.name r.priority) (repo_named w r new holds s g) (λ t h n.
      let front : length t.task.packages ≡ length w.task.packages = ap (λ (x : SoFar). length x.task.packages) h.is in
      let own : length t.task.repos - 1 ≡ length w.task.repos
      = let l = length-append w.task.repos (r ∷ []) in let m : length t.task.repos ≡ length (w.task.repos ++ r ∷ []) = ap (λ (x : SoFar). length x.task.repos) h.is in omega (arith, l, m) in
      let read : IsOkAnd (testtags t.held (length t.task.packages) (length t.task.repos - 1) (enumerate_from n (tag_lines (a ∷ ps)))) (IsReadAs again whole p (length w.task.repos) (length w.task.packages) (a ∷ ps))
      = subst (λ b. IsOkAnd (testtags t.held b (length t.task.repos - 1) (enumerate_from n (tag_lines (a ∷ ps)))) (IsReadAs again whole p (length w.task.repos) (length w.task.packages) (a ∷ ps))) (sym front)
      (subst (λ b. IsOkAnd (testtags t.held (length w.task.packages) b (enumerate_from n (tag_lines (a ∷ ps)))) (IsReadAs again whole p (length w.task.repos) (length w.task.packages) (a ∷ ps))) (sym own)
      (tags_read again whole p (length w.task.repos) (length w.task.packages) (a ∷ ps) t.held n are h.part few)) in
      given t h (testtags t.held (length t.task.packages) (length t.task.repos - 1) (enumerate_from n (tag_lines (a ∷ ps)))) read))
      behind
    where
      ok_weaker : {E : Type 0} (P Q : State → Type 0) (x : Result State E) → IsOkAnd x P → ((t : State) → P t → Q t) → IsOkAnd x Q
      ok_weaker P Q (Ok x) h k = k x h
      ok_weaker P Q (Err e) h k = absurd h

      given : (t : State) → Gives (record w { task = record w.task { repos = w.task.repos ++ r ∷ [] } }) t → (read : Result Repository TagFault) → IsOkAnd read (IsReadAs again whole p (length w.task.repos) (length w.task.packages) (a ∷ ps))
          → IsOkAnd (repository_given t script read) (Gives (with_packages w r (a ∷ ps)))
      given t h (Ok q) i = record {
        part = i.part;
        is = ap (λ (x : SoFar). record x { task = record x.task { packages = x.task.packages ++ q.packages; disabled = x.task.disabled ++ map (λ a. false) q.packages } }) h.is
            ∙ ap (λ l. with_packages w r l) i.is;
      }
      given t h (Err f) i = absurd i
