-- A written script is read as the same.
use Rattle.std.proofs.Common.{◌≡◌, ℕ, ◌+◌, ◌==◌, ◌≤◌, Bool, true, false, not, List, [], ◌∷◌, ◌++◌, map, filter, length, Option, Some, None, Result, Ok, Err, refl, sym, ap, subst, ◌∙◌, arith, append_assoc, append-nil, All, nat_lt}
use Rattle.std.specs.Prelude.{codes, is_some, position, IsOkAnd, if◌then◌else◌}
use Rattle.std.specs.List.{list_all, list_any}
use Rattle.std.specs.Str.{bytes_eq}
use Rattle.std.proofs.lemmas.Bool.Decides.{nat_tests}
use Rattle.std.proofs.lemmas.List.{length-append, map-append}
use Rattle.std.proofs.lemmas.List.Elements.{All-head, All-tail, All-filter, All-cons, All-nil}
use Rattle.solv_io.specs.Lines.{IsLine}
use Rattle.solv_io.proofs.WrittenLines.{lines_of-ended}
use Rattle.solv_base.specs.Pool.{Held, IsPool}
use Rattle.solv_deps.specs.Laws.{HeldIsEntered}
use Rattle.solv_pool.specs.Contents.{most_packages}
use Rattle.solv_pool.specs.Prelude.{WrittenRepo, WrittenPackage, WrittenJob}
use Rattle.solv_pool.specs.declared.tasks.Flags.{Flags}
use Rattle.solv_pool.specs.declared.universes.Arch.{Arch}
use Rattle.solv_script.specs.Grammar.{Bad, most_file, most_script, script_read}
use Rattle.solv_script.specs.Inner.LineRows.{begun}
use Rattle.solv_script.specs.Reads.{WrittenScript, WrittenCheck, WrittenRound, first_flags, default_kinds}
use Rattle.solv_script.specs.ScriptLines.{script_lines}
use Rattle.solv_script.specs.States.{State, no_line, with_rounds, script_given}
use Rattle.solv_script.specs.Inner.LineParts.{in_hand}
use Rattle.solv_script.specs.declared.scripts.Kinds.{Kinds}
use Rattle.solv_list.proofs.Booleans.{first_of_both, second_of_both, false_of_not}
use Rattle.solv_list.proofs.Numbers.{same_number, not_below_itself}
use Rattle.solv_io.specs.JoinedWords.{is_line, joined}
use Rattle.solv_deps.specs.Parts.{IsPart}
use Rattle.solv_writing.specs.Inner.ReadPackages.{are_apart, IsReadPackage, HoldsText, HoldsPackage}
use Rattle.solv_writing.specs.Inner.ReadScripts.{IsReadJob, HoldsChoice, IsReadCheck, AreReadKinds, IsReadRound, IsReadRepo, IsReadNamespace, packages_from, IsReadSystem, view_of, IsReadScript, HoldsScript}
use Rattle.solv_script.specs.Rows.{arch_text}
use Rattle.solv_writing.specs.Inner.ScriptParts.{packages_of, repositories_from, system_lines, disabled_lines, result_lines, repository_lines, installed_words, round_lines, first_round, lines_of_script, text_in_parts}
use Rattle.solv_writing.specs.Inner.LineNames.{namespace_line}
use Rattle.solv_writing.specs.Inner.LineNames.{check_line, job_line, later_lines}
use Rattle.solv_writing.specs.WrittenBack.{IsReadBack}
use Rattle.solv_writing.proofs.ResultLines.{result_leads}
use Rattle.solv_writing.proofs.ScriptLines.{SoFar, so_far, hand_of, Reads, Goes, Leads, at_end, check_leads, flags_leads, job_leads, nextjob_leads}
use Rattle.solv_writing.proofs.TagsRead.{IsOfRepo}
use Rattle.solv_writing.proofs.UniverseLines.{bare_system_leads, system_leads, disabled_lead, namespace_leads, repository_leads}
use Rattle.solv_list.proofs.Lists.{place_none, list_any_map}
use Rattle.solv_script.proofs.RowsInTurn.{given_in_turn, due_in_turn}

-- what lines gave that have these parts, and nothing of a round
abbrev made : List WrittenRepo → List WrittenPackage → List Bool → Option Arch → Option ℕ → List (List ℕ × List ℕ) → List WrittenCheck → SoFar
made repos packages disabled arch installed namespaces checks = record {
  task = record { repos = repos; packages = packages; arch = arch; installed = installed; disabled = disabled; flags = first_flags; namespaces = namespaces; jobs = [] };
  kinds = default_kinds;
  wanted = None;
  checks = checks;
  earlier = [];
}

-- the script of these rounds over what lines gave
abbrev in_rounds : SoFar → List WrittenRound → WrittenScript
in_rounds x [] = record { task = x.task; kinds = x.kinds; wanted = x.wanted; checks = x.checks; later = [] }
in_rounds x (first ∷ later) = record { task = record x.task { flags = first.flags; jobs = first.jobs }; kinds = first.kinds; wanted = first.wanted; checks = x.checks; later = later }

abbrev script_of : SoFar → WrittenScript
script_of x = in_rounds x (x.earlier ++ hand_of x ∷ [])

-- what a state gives is determined by what its lines gave
given_is : (t : State) → script_given t ≡ script_of (so_far t)
given_is t = on (t.earlier ++ in_hand t ∷ [])
  where
    on : (rounds : List WrittenRound) → with_rounds t rounds ≡ in_rounds (so_far t) rounds
    on [] = refl
    on (first ∷ later) = refl

map_both : {A B : Type 0} (g : A → B) (xs ys : List A) → map g (xs ++ ys) ≡ map g xs ++ map g ys
map_both g [] ys = refl
map_both g (x ∷ xs) ys = ap (λ l. g x ∷ l) (map_both g xs ys)

no_place : {X : Type 0} (f : X → Bool) (xs : List X) → list_any f xs ≡ false → is_some (position f xs) ≡ false
no_place f xs h = rw (place_none f xs h, not_below_itself (length xs)) refl

all_lines : (lines : List (List ℕ)) → list_all is_line lines ≡ true → All IsLine lines
all_lines [] h = All-nil IsLine
all_lines (line ∷ lines) h = All-cons IsLine line lines (free line (first_of_both (is_line line) (list_all is_line lines) h)) (all_lines lines (second_of_both (is_line line) (list_all is_line lines) h))
  where
    free : (line : List ℕ) → is_line line ≡ true → IsLine line
    free [] h = All-nil (λ byte. byte ≡ 10 → ⊥)
    free (c ∷ cs) h =
        All-cons (λ byte. byte ≡ 10 → ⊥) c cs (let other : (c == 10) ≡ false = false_of_not (c == 10) (first_of_both (not (c == 10)) (is_line cs) h) in λ e. absurd (let same : (c == 10) ≡ true = (rw e refl) in let bad : true ≡ false = sym same ∙ other in cc))
        (free cs (second_of_both (not (c == 10)) (is_line cs) h))

all_both : {X : Type 0} (P Q R : X → Type 0) → ((x : X) → P x → Q x → R x) → (xs : List X) → All P xs → All Q xs → All R xs
all_both P Q R f [] h k = All-nil R
all_both P Q R f (x ∷ xs) h k = All-cons R x xs (f x (All-head P x xs h) (All-head Q x xs k)) (all_both P Q R f xs (All-tail P x xs h) (All-tail Q x xs k))

filtered : {X : Type 0} (f : X → Bool) (xs : List X) → All (λ x. f x ≡ true) (filter f xs)
filtered f [] = All-nil (λ x. f x ≡ true)
filtered f (x ∷ xs) =
    (elim (f x) as (λ b. f x ≡ b → All (λ y. f y ≡ true) (if b then x ∷ filter f xs else filter f xs)) [
      | true ↦ λ e. All-cons (λ y. f y ≡ true) x (filter f xs) e (filtered f xs)
      | false ↦ λ e. filtered f xs
    ]) refl

-- lines in five parts
joined_up : (a b c d e : List (List ℕ)) → a ++ (b ++ (c ++ (d ++ e))) ≡ (a ++ (b ++ (c ++ d))) ++ e
joined_up a b c d e =
    ap (λ x. a ++ (b ++ x)) (sym (append_assoc c d e)) ∙ ap (λ x. a ++ x) (sym (append_assoc b (c ++ d) e)) ∙ sym (append_assoc a (b ++ (c ++ d)) e)

module _ (whole : Held) (p : IsPool whole) (again : HeldIsEntered) (script : List ℕ) where
  abbrev To : SoFar → List (List ℕ) → SoFar → Type 0
  To w lines end = Leads whole p again script w lines end

  abbrev no_disabled : List WrittenPackage → List Bool
  no_disabled ps = map (λ a. false) ps

  -- repositories after others
  module _ (packages : List WrittenPackage) (are : All IsReadPackage packages) (hold : All (HoldsPackage whole) packages) where
    abbrev before_rest : List WrittenRepo → List WrittenPackage → SoFar
    before_rest done ps = made done ps (no_disabled ps) None None [] []

    repos_lead : (rest done : List WrittenRepo) (ps : List WrittenPackage) (end : SoFar) (others : List (List ℕ)) → All IsReadRepo rest → All (λ (r : WrittenRepo). HoldsText whole r.name) rest
        → are_apart bytes_eq (map (λ r. r.name) done) (map (λ r. r.name) rest) ≡ true → length ps + length (packages_from (length done) rest packages) ≤ most_packages
        → To (before_rest (done ++ rest) (ps ++ packages_from (length done) rest packages)) others end
        → To (before_rest done ps) (repositories_from (length done) rest packages ++ others) end
    repos_lead [] done ps end others good held apart few behind =
        subst (λ x. To x others end) (λ i. before_rest (append-nil done i) (append-nil ps i)) behind
    repos_lead (r ∷ rest) done ps end others good held apart few behind =
        let own : List WrittenPackage = packages_of (length done) packages in
        let later : List WrittenPackage = packages_from (length done + 1) rest packages in
        let names : List (List ℕ) = map (λ r. r.name) done in
        let more : List (List ℕ) = map (λ r. r.name) rest in
        let free : list_any (bytes_eq r.name) names ≡ false = false_of_not (list_any (bytes_eq r.name) names) (first_of_both (not (list_any (bytes_eq r.name) names)) (are_apart bytes_eq (names ++ r.name ∷ []) more) apart) in
        let new : is_some (position (λ (q : WrittenRepo). bytes_eq r.name q.name) done) ≡ false = no_place (λ (q : WrittenRepo). bytes_eq r.name q.name) done (sym (list_any_map (bytes_eq r.name) (λ (q : WrittenRepo). q.name) done) ∙ free) in
        let longer : length (done ++ r ∷ []) ≡ length done + 1 = length-append done (r ∷ []) in
        let both : length (own ++ later) ≡ length own + length later = length-append own later in
        let sum : length (ps ++ own) ≡ length ps + length own = length-append ps own in
        let of_repo : All (IsOfRepo again whole p (length done) (length ps)) own =
        all_both (λ a. IsReadPackage a × HoldsPackage whole a) (λ a. (a.repo == length done) ≡ true) (IsOfRepo again whole p (length done) (length ps)) (λ a h e. record { is = h.0; holds = h.1; own = same_number a.repo (length done) e }) own
        (All-filter (λ a. a.repo == length done) (λ a. IsReadPackage a × HoldsPackage whole a) packages (all_both IsReadPackage (HoldsPackage whole) (λ a. IsReadPackage a × HoldsPackage whole a) (λ a h k. (h, k)) packages are hold))
        (filtered (λ a. a.repo == length done) packages) in
        let rest_leads : To (before_rest (done ++ r ∷ []) (ps ++ own)) (repositories_from (length done + 1) rest packages ++ others) end =
        subst (λ n. To (before_rest (done ++ r ∷ []) (ps ++ own)) (repositories_from n rest packages ++ others) end) longer
        (repos_lead rest (done ++ r ∷ []) (ps ++ own) end others (All-tail IsReadRepo r rest good) (All-tail (λ (q : WrittenRepo). HoldsText whole q.name) r rest held)
        (subst (λ l. are_apart bytes_eq l more ≡ true) (sym (map-append (λ (q : WrittenRepo). q.name) done (r ∷ []))) (second_of_both (not (list_any (bytes_eq r.name) names)) (are_apart bytes_eq (names ++ r.name ∷ []) more) apart))
        (subst (λ n. length (ps ++ own) + length (packages_from n rest packages) ≤ most_packages) (sym longer) (omega (arith, few, both, sum)))
        (subst (λ n. To (before_rest ((done ++ r ∷ []) ++ rest) ((ps ++ own) ++ packages_from n rest packages)) others end) (sym longer)
        (subst (λ x. To x others end) (λ i. before_rest (sym (append_assoc done (r ∷ []) rest) i) (sym (append_assoc ps own later) i)) behind))) in
        let marked : SoFar = made (done ++ r ∷ []) (ps ++ own) (no_disabled ps ++ no_disabled own) None None [] [] in
        let marks : marked ≡ before_rest (done ++ r ∷ []) (ps ++ own) = λ i. made (done ++ r ∷ []) (ps ++ own) (sym (map_both (λ (a : WrittenPackage). false) ps own) i) None None [] [] in
        subst (λ ls. To (before_rest done ps) ls end) (sym (append_assoc (repository_lines r own) (repositories_from (length done + 1) rest packages) others))
        (repository_leads whole p again script (before_rest done ps) end r own (repositories_from (length done + 1) rest packages ++ others) refl (All-head IsReadRepo r rest good) (All-head (λ (q : WrittenRepo). HoldsText whole q.name) r rest held) new of_repo (omega (arith, few, both))
        (subst (λ x. To x (repositories_from (length done + 1) rest packages ++ others) end) (sym marks) rest_leads))

  module _ (w : WrittenScript) (is : IsReadScript w) (holds : HoldsScript whole w) where
    abbrev with_universe : List Bool → Option Arch → Option ℕ → List (List ℕ × List ℕ) → SoFar
    with_universe disabled arch installed namespaces = made w.task.repos w.task.packages disabled arch installed namespaces []

    abbrev with_checks : List WrittenCheck → SoFar
    with_checks checks = made w.task.repos w.task.packages w.task.disabled w.task.arch w.task.installed w.task.namespaces checks

    -- this round after others
    abbrev in_round : List WrittenRound → WrittenRound → SoFar
    in_round done r = record { task = record w.task { flags = r.flags; jobs = r.jobs }; kinds = r.kinds; wanted = r.wanted; checks = w.checks; earlier = done }

    -- a round of which nothing is expected so far
    abbrev asking : Flags → List WrittenJob → WrittenRound
    asking flags jobs = record { flags = flags; jobs = jobs; kinds = default_kinds; wanted = None }

    -- what is expected
    result_on : (done : List WrittenRound) (f : Flags) (jobs : List WrittenJob) (k : Kinds) (wanted : Option (List (List ℕ))) (end : SoFar) (others : List (List ℕ)) → AreReadKinds k wanted
        → To (in_round done (record { flags = f; jobs = jobs; kinds = k; wanted = wanted })) others end → To (in_round done (asking f jobs)) (result_lines k wanted ++ others) end
    result_on done f jobs k None end others are behind = subst (λ x. To (in_round done (record { flags = f; jobs = jobs; kinds = x; wanted = None })) others end) are behind
    result_on done f jobs k (Some lines) end others are behind = result_leads whole p again script (in_round done (asking f jobs)) end k lines others are refl behind

    -- the jobs
    jobs_on : (done : List WrittenRound) (f : Flags) (rest before : List WrittenJob) (end : SoFar) (others : List (List ℕ)) → All (IsReadJob (view_of w.task)) rest → All (λ (j : WrittenJob). HoldsChoice whole j.choice) rest
        → To (in_round done (asking f (before ++ rest))) others end → To (in_round done (asking f before)) (map job_line rest ++ others) end
    jobs_on done f [] before end others good held behind = subst (λ js. To (in_round done (asking f js)) others end) (append-nil before) behind
    jobs_on done f (j ∷ rest) before end others good held behind =
        let here : IsReadJob (view_of w.task) j = All-head (IsReadJob (view_of w.task)) j rest good in
        job_leads whole p again script (in_round done (asking f before)) end j (map job_line rest ++ others)
        (record { first = here.first; others = here.others; text = here.text; words = here.words; asked = here.asked; said = here.said; chooses = here.chooses })
        (All-head (λ (x : WrittenJob). HoldsChoice whole x.choice) j rest held)
        (jobs_on done f rest (before ++ j ∷ []) end others (All-tail (IsReadJob (view_of w.task)) j rest good) (All-tail (λ (x : WrittenJob). HoldsChoice whole x.choice) j rest held)
        (subst (λ js. To (in_round done (asking f js)) others end) (sym (append_assoc before (j ∷ []) rest)) behind))

    -- a round
    round_on : (done : List WrittenRound) (f : Flags) (r : WrittenRound) (end : SoFar) (others : List (List ℕ)) → IsReadRound (view_of w.task) r → All (λ (j : WrittenJob). HoldsChoice whole j.choice) r.jobs
        → To (in_round done r) others end → To (in_round done (asking f [])) (round_lines r ++ others) end
    round_on done f r end others good held behind =
        let asked : List (List ℕ) = map job_line r.jobs in
        let result : List (List ℕ) = result_lines r.kinds r.wanted in
        flags_leads whole p again script (in_round done (asking f [])) end r.flags ((asked ++ result) ++ others)
        (subst (λ ls. To (in_round done (asking r.flags [])) ls end) (sym (append_assoc asked result others))
        (jobs_on done r.flags r.jobs [] end (result ++ others) good.jobs held
        (result_on done r.flags r.jobs r.kinds r.wanted end others good.kinds behind)))

    -- what all lines gave where these rounds follow the round in hand
    abbrev ends : List WrittenRound → WrittenRound → List WrittenRound → SoFar
    ends done r [] = in_round done r
    ends done r (next ∷ later) = ends (done ++ r ∷ []) next later

    -- the rounds after the first one
    later_on : (later done : List WrittenRound) (r : WrittenRound) → All (IsReadRound (view_of w.task)) later → All (λ (q : WrittenRound). All (λ (j : WrittenJob). HoldsChoice whole j.choice) q.jobs) later
        → To (in_round done r) (later_lines later) (ends done r later)
    later_on [] done r good held = at_end whole p again script (in_round done r)
    later_on (next ∷ later) done r good held =
        let end : SoFar = ends (done ++ r ∷ []) next later in
        nextjob_leads whole p again script (in_round done r) end (round_lines next ++ later_lines later)
        (round_on (done ++ r ∷ []) r.flags next end (later_lines later) (All-head (IsReadRound (view_of w.task)) next later good) (All-head (λ (q : WrittenRound). All (λ (j : WrittenJob). HoldsChoice whole j.choice) q.jobs) next later held)
        (later_on later (done ++ r ∷ []) next (All-tail (IsReadRound (view_of w.task)) next later good) (All-tail (λ (q : WrittenRound). All (λ (j : WrittenJob). HoldsChoice whole j.choice) q.jobs) next later held)))

    -- the script of these rounds over the packages of this one
    abbrev of_rounds : List WrittenRound → WrittenScript
    of_rounds rounds = in_rounds (in_round [] (first_round w)) rounds

    last_round : (done : List WrittenRound) (r : WrittenRound) → script_of (in_round done r) ≡ of_rounds (done ++ r ∷ [])
    last_round [] r = refl
    last_round (first ∷ done) r = refl

    ends_are : (later done : List WrittenRound) (r : WrittenRound) → script_of (ends done r later) ≡ of_rounds (done ++ r ∷ later)
    ends_are [] done r = last_round done r
    ends_are (next ∷ later) done r = ends_are later (done ++ r ∷ []) next ∙ ap of_rounds (append_assoc done (r ∷ []) (next ∷ later))

    abbrev end_of : SoFar
    end_of = ends [] (first_round w) w.later

    -- then the lines gave this script
    given_back : (t : State) → so_far t ≡ end_of → script_given t ≡ w
    given_back t e = given_is t ∙ ap script_of e ∙ ends_are w.later [] (first_round w)

    -- the comparisons
    checks_on : (rest done : List WrittenCheck) (end : SoFar) (others : List (List ℕ)) → All IsReadCheck rest
        → To (with_checks (done ++ rest)) others end → To (with_checks done) (map check_line rest ++ others) end
    checks_on [] done end others good behind = subst (λ cs. To (with_checks cs) others end) (append-nil done) behind
    checks_on (c ∷ rest) done end others good behind =
        check_leads whole p again script (with_checks done) end c (map check_line rest ++ others) (All-head IsReadCheck c rest good)
        (checks_on rest (done ++ c ∷ []) end others (All-tail IsReadCheck c rest good)
        (subst (λ cs. To (with_checks cs) others end) (sym (append_assoc done (c ∷ []) rest)) behind))

    -- the namespaces
    namespaces_on : (rest done : List (List ℕ × List ℕ)) (end : SoFar) (others : List (List ℕ)) → All (IsReadNamespace (view_of w.task)) rest → All (λ (n : List ℕ × List ℕ). HoldsText whole n.0) rest
        → are_apart bytes_eq (map (λ n. n.0) done) (map (λ n. n.0) rest) ≡ true
        → To (with_universe w.task.disabled w.task.arch w.task.installed (done ++ rest)) others end → To (with_universe w.task.disabled w.task.arch w.task.installed done) (map (namespace_line w.task) rest ++ others) end
    namespaces_on [] done end others good held once behind = subst (λ ns. To (with_universe w.task.disabled w.task.arch w.task.installed ns) others end) (append-nil done) behind
    namespaces_on (n ∷ rest) done end others good held once behind =
        let here : IsReadNamespace (view_of w.task) n = All-head (IsReadNamespace (view_of w.task)) n rest good in
        namespace_leads whole p again script (with_universe w.task.disabled w.task.arch w.task.installed done) end n (map (namespace_line w.task) rest ++ others) refl
        (record { name = here.name; namespace = here.namespace; first = here.first; rest = here.rest; some = here.some; told = here.told })
        (All-head (λ (x : List ℕ × List ℕ). HoldsText whole x.0) n rest held)
        (false_of_not (list_any (bytes_eq n.0) (map (λ m. m.0) done)) (first_of_both (not (list_any (bytes_eq n.0) (map (λ m. m.0) done))) (are_apart bytes_eq (map (λ m. m.0) done ++ n.0 ∷ []) (map (λ m. m.0) rest)) once))
        (namespaces_on rest (done ++ n ∷ []) end others (All-tail (IsReadNamespace (view_of w.task)) n rest good) (All-tail (λ (x : List ℕ × List ℕ). HoldsText whole x.0) n rest held)
        (subst (λ l. are_apart bytes_eq l (map (λ m. m.0) rest) ≡ true) (sym (map-append (λ (m : List ℕ × List ℕ). m.0) done (n ∷ []))) (second_of_both (not (list_any (bytes_eq n.0) (map (λ m. m.0) done))) (are_apart bytes_eq (map (λ m. m.0) done ++ n.0 ∷ []) (map (λ m. m.0) rest)) once))
        (subst (λ ns. To (with_universe w.task.disabled w.task.arch w.task.installed ns) others end) (sym (append_assoc done (n ∷ []) rest)) behind))

    -- the system
    words_on : (a : Arch) (installed : Option ℕ) (d : List Bool) (end : SoFar) (others : List (List ℕ)) → IsReadSystem (view_of w.task) (Some a) installed
        → To (with_universe d (Some a) installed []) others end → To (with_universe d None None []) (joined (codes "system" ∷ arch_text a ∷ codes "rpm" ∷ installed_words w.task installed) ∷ others) end
    words_on a None d end others good behind = bare_system_leads whole p again script (with_universe d None None []) end a others refl refl behind
    words_on a (Some place) d end others good behind =
        system_leads whole p again script (with_universe d None None []) end a place others refl refl (record { word = good.word; place_is = good.place_is }) behind

    system_on : (arch : Option Arch) (d : List Bool) (end : SoFar) (others : List (List ℕ)) → IsReadSystem (view_of w.task) arch w.task.installed
        → To (with_universe d arch w.task.installed []) others end → To (with_universe d None None []) (system_lines w.task arch ++ others) end
    system_on None d end others good behind = subst (λ i. To (with_universe d None i []) others end) good behind
    system_on (Some a) d end others good behind = words_on a w.task.installed d end others good behind

    -- all its lines
    all_on : To (made [] [] [] None None [] []) (lines_of_script w) end_of
    all_on =
        let first : WrittenRound = first_round w in
        let Good : WrittenRound → Type 0 = IsReadRound (view_of w.task) in
        let Kept : WrittenRound → Type 0 = λ r. All (λ (j : WrittenJob). HoldsChoice whole j.choice) r.jobs in
        let d0 : List Bool = map (λ (a : WrittenPackage). false) w.task.packages in
        let rounds : List (List ℕ) = round_lines first ++ later_lines w.later in
        let rounds_lead : To (with_checks w.checks) rounds end_of
        = round_on [] first_flags first end_of (later_lines w.later) (All-head Good first w.later is.rounds) (All-head Kept first w.later holds.rounds) (later_on w.later [] first (All-tail Good first w.later is.rounds) (All-tail Kept first w.later holds.rounds)) in
        let tail : List (List ℕ) = map check_line w.checks ++ rounds in
        let checks : To (with_checks []) tail end_of = checks_on w.checks [] end_of rounds is.checks rounds_lead in
        let names : List (List ℕ) = map (namespace_line w.task) w.task.namespaces in
        let namespaces : To (with_universe w.task.disabled w.task.arch w.task.installed []) (names ++ tail) end_of = namespaces_on w.task.namespaces [] end_of tail is.universe.namespaces holds.namespaces is.universe.namespaces_once checks in
        let offs : List (List ℕ) = disabled_lines w.task w.task.packages w.task.disabled in
        let disabled : To (with_universe d0 w.task.arch w.task.installed []) (offs ++ (names ++ tail)) end_of
        = disabled_lead whole p again script w.task.packages w.task.disabled [] (with_universe d0 w.task.arch w.task.installed []) end_of (names ++ tail) refl is.universe.disabled refl namespaces in
        let system : To (with_universe d0 None None []) (system_lines w.task w.task.arch ++ (offs ++ (names ++ tail))) end_of = system_on w.task.arch d0 end_of (offs ++ (names ++ tail)) is.universe.system disabled in
        let front : To (made [] [] [] None None [] []) (repositories_from 0 w.task.repos w.task.packages ++ (system_lines w.task w.task.arch ++ (offs ++ (names ++ tail)))) end_of
        = repos_lead w.task.packages is.universe.packages holds.packages w.task.repos [] [] end_of (system_lines w.task w.task.arch ++ (offs ++ (names ++ tail))) is.universe.repos holds.repos is.universe.names_once
        (let few = is.universe.few in subst (λ (l : List WrittenPackage). 0 + length l ≤ most_packages) (sym is.universe.in_order) (omega (arith, few)))
        (subst (λ (l : List WrittenPackage). To (before_rest w.task.packages is.universe.packages holds.packages w.task.repos l) (system_lines w.task w.task.arch ++ (offs ++ (names ++ tail))) end_of) (sym is.universe.in_order) system) in
        subst (λ ls. To (made [] [] [] None None [] []) ls end_of) (joined_up (repositories_from 0 w.task.repos w.task.packages) (system_lines w.task w.task.arch) offs names tail) front

    whole_name : (n : ℕ) → n ≤ most_file → begun script n ≡ Ok (record no_line { bytes = 0 + n })
    whole_name n h =
        let one : nat_lt most_file n ≡ false = grind (arith, nat_tests) in
        let two : nat_lt most_script (0 + n) ≡ false = grind (arith, nat_tests) in
        rw (one, two) refl

    begins : (n : ℕ) → IsPart (record { names = []; nodes = [] }) whole → Reads whole p again script (made [] [] [] None None [] []) (record no_line { bytes = 0 + n })
    begins n part = record { part = part; is = refl }

empty_part : (whole : Held) → IsPart (record { names = []; nodes = [] }) whole
empty_part whole = record {
  pool = record {
    names_once = λ m n x a b. absurd (cc);
    nodes_once = λ m n x a b. absurd (cc);
    names_fit = omega arith;
    nodes_fit = omega arith;
    names_held = λ id node a. absurd (cc);
    operands_before = λ id node a. absurd (cc);
  };
  texts = λ n l. absurd (omega (arith, l));
  trees = λ n l. absurd (omega (arith, l));
}

-- a script with these facts is read back, where its text is no longer than a file may be and its lines are lines
pub read_back : HeldIsEntered → (whole : Held) → IsPool whole → (w : WrittenScript) → IsReadScript w → HoldsScript whole w → list_all is_line (lines_of_script w) ≡ true → length (text_in_parts w) ≤ most_file
    → IsReadBack w (text_in_parts w)
read_back again whole p w is holds lined short = record {
  given = λ name fetched.
      let goes : Goes whole p again name (record no_line { bytes = 0 + length (text_in_parts w) }) (script_lines 1 (lines_of_script w)) (end_of whole p again name w is holds)
      = (all_on whole p again name w is holds).goes (record no_line { bytes = 0 + length (text_in_parts w) }) (begins whole p again name w is holds (length (text_in_parts w)) (empty_part whole)) 1 in
      weaker name (script_read name fetched (text_in_parts w))
      (subst (λ (r : Result State Bad). IsOkAnd r (Reads whole p again name (end_of whole p again name w is holds))) (sym (given_in_turn name (text_in_parts w) fetched))
      (rw (whole_name whole p again name w is holds (length (text_in_parts w)) short, lines_of-ended (lines_of_script w) (all_lines (lines_of_script w) lined)) (goes.given fetched)));
  due = λ name fetched.
      let goes : Goes whole p again name (record no_line { bytes = 0 + length (text_in_parts w) }) (script_lines 1 (lines_of_script w)) (end_of whole p again name w is holds)
      = (all_on whole p again name w is holds).goes (record no_line { bytes = 0 + length (text_in_parts w) }) (begins whole p again name w is holds (length (text_in_parts w)) (empty_part whole)) 1 in
      due_in_turn name (text_in_parts w) fetched ∙ rw (whole_name whole p again name w is holds (length (text_in_parts w)) short, lines_of-ended (lines_of_script w) (all_lines (lines_of_script w) lined)) (goes.due fetched);
}
  where
    weaker : (name : List ℕ) (r : Result State Bad) → IsOkAnd r (Reads whole p again name (end_of whole p again name w is holds)) → IsOkAnd r (λ t. script_given t ≡ w)
    weaker name (Ok t) h = given_back whole p again name w is holds t h.is
    weaker name (Err e) h = absurd h
