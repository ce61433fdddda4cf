-- What the lines of a script give can be written again.
use Rattle.std.proofs.Common.{◌≡◌, ℕ, zero, suc, ◌+◌, ◌==◌, Bool, true, false, ◌||◌, List, [], ◌∷◌, ◌++◌, map, length, slice_get, Option, Some, None, Result, Ok, Err, cond, refl, sym, ap, subst, ◌∙◌, arith, All}
use Rattle.std.specs.Prelude.{pos, get_or, codes, find, is_some, ok_or, option_and_then, option_map, IfOk, slice_set, option_to_list, if◌then◌else◌}
use Rattle.std.specs.List.{list_all, list_any, range_with_len}
use Rattle.std.specs.Option.{option_map_or, option_transpose}
use Rattle.std.specs.Str.{bytes_eq}
use Rattle.std.proofs.lemmas.List.Elements.{All-head, All-tail, All-nil, All-cons, All-push, All-append}
use Rattle.solv_io.specs.Words.{between, lengthened}
use Rattle.solv_base.specs.Pool.{Held}
use Rattle.solv_base.specs.declared.comparison.Cmp.{Cmp}
use Rattle.solv_deps.specs.Entering.{text_entered, dependency_entered}
use Rattle.solv_deps.specs.Grammar.{is_namespace}
use Rattle.solv_deps.specs.Reading.{dependency}
use Rattle.solv_deps.specs.declared.place.Place.TheVariants.{Plain}
use Rattle.solv_pool.specs.Prelude.{WrittenTask, WrittenRepo, WrittenPackage, WrittenJob}
use Rattle.solv_pool.specs.Written as written
use Rattle.solv_pool.specs.declared.jobs.Action.{Action}
use Rattle.solv_pool.specs.declared.universes.Arch.{Arch}
use Rattle.solv_commands.specs.Commas.{between_commas}
use Rattle.solv_io.specs.JoinedWords.{joined, is_word}
use Rattle.solv_commands.specs.Commands.{Asked, job, pkg, by_name, by_provides, one_of, all, nothing, and_then as commands_then}
use Rattle.solv_commands.specs.Inner.FlagWords.{with_words}
use Rattle.solv_commands.specs.Switches.{Switch, with_switch, with_switches}
use Rattle.solv_commands.specs.declared.flags_of_jobs.JobFlags.{JobFlags}
use Rattle.solv_commands.specs.declared.causes.Cause.{Cause}
use Rattle.solv_commands.specs.declared.causes.Cause.TheVariants.{UnknownFlag, DuplicateSystem, BadArch, BadDisttype, UnknownRepo, UnknownPackage, DuplicateResult, SystemInJob, UnknownKind}
use Rattle.solv_script.specs.Reads.{default_kinds}
use Rattle.solv_script.specs.Results.{no_kinds, kind_switches, kinds_named}
use Rattle.solv_script.specs.Rows.{arch_named, system_row, package_numbers, with_namespace, namespace_row, Chosen, chosen, job_row}
use Rattle.solv_script.specs.Inner.LineParts.{disable_row, disabled, evrcmp_row, flags_row, installed_row, one_package, result_row}
use Rattle.solv_commands.specs.Commands.{and_then}
use Rattle.solv_script.specs.Inner.LineParts.{or_cause}
use Rattle.solv_script.specs.States.{State, rounds_given, repo_place, repo_name, text_of, text_of_number, package_number}
use Rattle.solv_script.specs.declared.scripts.Kinds.{Kinds}
use Rattle.solv_list.proofs.Booleans.{first_of_both, second_of_both}
use Rattle.solv_list.proofs.Lists.{same_bytes}
use Rattle.solv_writing.specs.Inner.ReadPackages.{are_apart, IsKept}
use Rattle.solv_writing.specs.Inner.ReadScripts.{Chooses, IsReadJob, IsReadCheck, IsReadNamespace, IsToldByName, IsToldByText, IsReadSystem, AreDisabledTold, view}
use Rattle.solv_writing.specs.Inner.ScriptParts.{kind_names, with_commas}
use Rattle.solv_writing.proofs.CommandWords.{AreSome, IsJobOf, either_if}
use Rattle.solv_writing.proofs.GoodStates.{IsGood, rounds_good}
use Rattle.solv_writing.proofs.Growing.{place_found}
use Rattle.solv_writing.proofs.ReadTags.{apart_behind}
use Rattle.std.proofs.lemmas.Bool.{or_right}
use Rattle.solv_script.proofs.RowForms.{ok_then, text_then}

pub or_if : {A B : Type 0} (Q : B → Type 0) (o : Option A) (c : Cause) (next : A → Result B Cause) → ((x : A) → o ≡ Some x → IfOk (next x) Q) → IfOk (or_cause o c next) Q
or_if Q None c next h = tt
or_if Q (Some x) c next h = h x refl

-- a test that finds something is met by it
find_test : (f : ℕ → Bool) (xs : List ℕ) (p : ℕ) → find f xs ≡ Some p → f p ≡ true
find_test f [] p h = absurd (cc)
find_test f (x ∷ xs) p h =
    (elim (f x) as (λ b. f x ≡ b → cond b (Some x) (find f xs) ≡ Some p → f p ≡ true) [
      | true ↦ λ e g. let s : x ≡ p = cc in subst (λ y. f y ≡ true) s e
      | false ↦ λ e g. find_test f xs p g
    ]) refl h

number_text : (task : WrittenTask) (w : List ℕ) (p : ℕ) → package_number task w ≡ Some p → text_of_number task p ≡ w
number_text task w p h = sym (same_bytes w (text_of_number task p) (find_test (λ q. bytes_eq w (text_of_number task q)) (0 ∷ range_with_len 1 (length task.packages)) p h))

number_told : (task : WrittenTask) (w : List ℕ) (p : ℕ) → is_word w ≡ true → package_number task w ≡ Some p → IsToldByText task p
number_told task w p word h = let e = number_text task w p h in (ap (package_number task) e ∙ h, ap is_word e ∙ word)

numbers_told : (task : WrittenTask) (ws : List (List ℕ)) → list_all is_word ws ≡ true → IfOk (package_numbers task ws) (All (IsToldByText task))
numbers_told task [] h = All-nil (IsToldByText task)
numbers_told task (w ∷ ws) h =
    or_if (All (IsToldByText task)) (package_number task w) UnknownPackage _ (λ p e. rest (package_numbers task ws) (numbers_told task ws (second_of_both (is_word w) (list_all is_word ws) h))
    (number_told task w p (first_of_both (is_word w) (list_all is_word ws) h) e))
  where
    rest : {p : ℕ} (r : Result (List ℕ) Cause) → IfOk r (All (IsToldByText task)) → IsToldByText task p → IfOk (and_then r (λ ps. Ok (p ∷ ps))) (All (IsToldByText task))
    rest {p} (Ok ps) g t = All-cons (IsToldByText task) p ps t g
    rest (Err c) g t = tt

record IsSome (ps : List ℕ) : Type 0 where
  first : ℕ
  rest : List ℕ
  is : ps ≡ first ∷ rest

numbers_some : (task : WrittenTask) (w : List ℕ) (ws : List (List ℕ)) → IfOk (package_numbers task (w ∷ ws)) IsSome
numbers_some task w ws = or_if IsSome (package_number task w) UnknownPackage _ (λ p e. ok_then IsSome (package_numbers task ws) _ (λ ps g. record { first = p; rest = ps; is = refl }))

pub if_is : {A : Type 0} (Q : A → Type 0) (r : Result A Cause) (x : A) → r ≡ Ok x → IfOk r Q → Q x
if_is Q (Ok y) x e h = let s : y ≡ x = cc in subst Q s h
if_is Q (Err c) x e h = absurd (cc)

-- the system
place_told : (task : WrittenTask) (text : List ℕ) (place : ℕ) → is_word text ≡ true → repo_place task text ≡ Some place → IsToldByName task place
place_told task text place word h =
    let none : WrittenRepo = record { name = []; priority = pos 0 } in
    let f = place_found (λ (q : WrittenRepo). bytes_eq text q.name) task.repos place none h in
    let name : repo_name task place ≡ text = ap (λ (o : Option WrittenRepo). option_map_or (λ (q : WrittenRepo). q.name) o []) f.0 ∙ sym (same_bytes text (get_or task.repos place none).name f.1) in
    record { word = ap is_word name ∙ word; place_is = ap (repo_place task) name ∙ h }

-- a system more
with_system : (s : State) (arch : Arch) (installed : Option ℕ) → IsReadSystem (view s.task.repos s.task.packages) (Some arch) installed → IsGood s → IsGood (record s { task = record s.task { arch = Some arch; installed = installed } })
with_system s arch installed is g =
    let u = g.universe in
    record {
      universe = record { repos = u.repos; names_once = u.names_once; packages = u.packages; in_order = u.in_order; few = u.few; system = is; disabled = u.disabled; namespaces = u.namespaces; namespaces_once = u.namespaces_once };
      checks = g.checks;
      earlier = g.earlier;
      jobs = g.jobs;
      kinds = g.kinds;
      own = g.own;
    }

pub system_kept : (s : State) (arch_text type : List ℕ) (installed : Option (List ℕ)) → list_all is_word (option_to_list installed) ≡ true → IsGood s → IfOk (system_row s arch_text type installed) IsGood
system_kept s arch_text type installed word g =
    either_if IsGood (is_some s.task.arch) (Err DuplicateSystem) _ (λ e. tt) (λ e. or_if IsGood (arch_named arch_text) BadArch _ (λ arch f. either_if IsGood (bytes_eq type (codes "rpm")) (installed_row s arch installed) (Err BadDisttype)
    (λ k. on arch installed word) (λ k. tt)))
  where
    on : (arch : Arch) (installed : Option (List ℕ)) → list_all is_word (option_to_list installed) ≡ true → IfOk (installed_row s arch installed) IsGood
    on arch None w = with_system s arch None tt g
    on arch (Some text) w = at (repo_place s.task text) refl
      where
        at : (o : Option ℕ) → repo_place s.task text ≡ o
            → IfOk (and_then (option_transpose (Some (ok_or o UnknownRepo))) (λ place. Ok (record s { task = record s.task { arch = Some arch; installed = place } }))) IsGood
        at None e = tt
        at (Some place) e =
            let told = place_told s.task text place (first_of_both (is_word text) true w) e in
            with_system s arch (Some place) (record { word = told.word; place_is = told.place_is }) g

-- a name of a namespace
pub record IsNamespaceName (text : List ℕ) : Type 0 where
  pub it : is_namespace text ≡ true

-- the names of namespaces with packages for one more
names_with : (name : List ℕ) (ps : List ℕ) (ns : List (List ℕ × List ℕ)) (b : Bool) → list_any (bytes_eq name) (map (λ n. n.0) ns) ≡ b
    → map (λ n. n.0) (with_namespace name ps ns) ≡ (if b then map (λ n. n.0) ns else map (λ n. n.0) ns ++ name ∷ [])
names_with name ps [] true e = absurd (cc)
names_with name ps [] false e = refl
names_with name ps (n ∷ ns) b e =
    (elim (bytes_eq name n.0) as (λ x. bytes_eq name n.0 ≡ x → map (λ m. m.0) (if x then (n.0, n.1 ++ ps) ∷ ns else n ∷ with_namespace name ps ns) ≡ (if b then map (λ m. m.0) (n ∷ ns) else map (λ m. m.0) (n ∷ ns) ++ name ∷ [])) [
      | true ↦ λ f. let is : b ≡ true = sym e ∙ rw f refl in rw is refl
      | false ↦ λ f. let rest : list_any (bytes_eq name) (map (λ m. m.0) ns) ≡ b = (rw f at e) in behind b (names_with name ps ns b rest)
    ]) refl
  where
    behind : (b : Bool) → map (λ m. m.0) (with_namespace name ps ns) ≡ (if b then map (λ m. m.0) ns else map (λ m. m.0) ns ++ name ∷ [])
        → (n.0 ∷ map (λ m. m.0) (with_namespace name ps ns)) ≡ (if b then n.0 ∷ map (λ m. m.0) ns else (n.0 ∷ map (λ m. m.0) ns) ++ name ∷ [])
    behind true g = ap (λ l. n.0 ∷ l) g
    behind false g = ap (λ l. n.0 ∷ l) g

names_once_with : (name : List ℕ) (ps : List ℕ) (ns : List (List ℕ × List ℕ)) → are_apart bytes_eq [] (map (λ n. n.0) ns) ≡ true → are_apart bytes_eq [] (map (λ n. n.0) (with_namespace name ps ns)) ≡ true
names_once_with name ps ns h =
    (elim (list_any (bytes_eq name) (map (λ n. n.0) ns)) as (λ b. list_any (bytes_eq name) (map (λ n. n.0) ns) ≡ b → are_apart bytes_eq [] (map (λ n. n.0) (with_namespace name ps ns)) ≡ true) [
      | true ↦ λ e. subst (λ l. are_apart bytes_eq [] l ≡ true) (sym (names_with name ps ns true e)) h
      | false ↦ λ e. subst (λ l. are_apart bytes_eq [] l ≡ true) (sym (names_with name ps ns false e)) (apart_behind bytes_eq [] (map (λ n. n.0) ns) name h e)
    ]) refl

-- and what they are
all_with : (task : WrittenTask) (name : List ℕ) (ps : List ℕ) (ns : List (List ℕ × List ℕ)) → IsReadNamespace task (name, ps) → All (IsReadNamespace task) ns → All (IsReadNamespace task) (with_namespace name ps ns)
all_with task name ps [] is are = All-cons (IsReadNamespace task) (name, ps) [] is (All-nil (IsReadNamespace task))
all_with task name ps (n ∷ ns) is are =
    let first : IsReadNamespace task n = All-head (IsReadNamespace task) n ns are in
    let rest : All (IsReadNamespace task) ns = All-tail (IsReadNamespace task) n ns are in
    elim (bytes_eq name n.0) as (λ b. All (IsReadNamespace task) (if b then (n.0, n.1 ++ ps) ∷ ns else n ∷ with_namespace name ps ns)) [
      | true ↦ All-cons (IsReadNamespace task) (n.0, n.1 ++ ps) ns
          (record { name = first.name; namespace = first.namespace; first = first.first; rest = first.rest ++ ps; some = ap (λ l. l ++ ps) first.some; told = All-append (IsToldByText task) n.1 ps first.told is.told }) rest
      | false ↦ All-cons (IsReadNamespace task) n (with_namespace name ps ns) first (all_with task name ps ns is rest)
    ]

pub namespace_kept : (s : State) (text : List ℕ) (words : List (List ℕ)) → is_word text ≡ true → AreSome words → list_all is_word words ≡ true → IsNamespaceName text → IsGood s → IfOk (namespace_row s text words) IsGood
namespace_kept s text words word some each is g =
    ok_then IsGood (package_numbers s.task words) _ (λ ps e. text_then IsGood (text_entered text s.held) _ (λ n f.
    let told : All (IsToldByText s.task) ps = if_is (All (IsToldByText s.task)) (package_numbers s.task words) ps e (numbers_told s.task words each) in
    let few : IsSome ps = if_is IsSome (package_numbers s.task words) ps e (subst (λ ws. IfOk (package_numbers s.task ws) IsSome) (sym some.is) (numbers_some s.task some.first some.rest)) in
    let u = g.universe in
    record {
      universe = record {
        repos = u.repos;
        names_once = u.names_once;
        packages = u.packages;
        in_order = u.in_order;
        few = u.few;
        system = u.system;
        disabled = u.disabled;
        namespaces = all_with (view s.task.repos s.task.packages) text ps s.task.namespaces (record { name = word; namespace = is.it; first = few.first; rest = few.rest; some = few.is; told = told }) u.namespaces;
        namespaces_once = names_once_with text ps s.task.namespaces u.namespaces_once;
      };
      checks = g.checks;
      earlier = g.earlier;
      jobs = g.jobs;
      kinds = g.kinds;
      own = g.own;
    }))

-- a disabled package
marks_told : (task : WrittenTask) (packages : List WrittenPackage) (marks : List Bool) (j k : ℕ) → AreDisabledTold task j packages marks
    → ((a : WrittenPackage) → slice_get packages k ≡ Some a → (is_word (text_of task a) ≡ true) × (package_number task (text_of task a) ≡ Some (suc (j + k))))
    → AreDisabledTold task j packages (slice_set marks k true)
marks_told task [] [] j zero h told = tt
marks_told task [] [] j (suc k) h told = tt
marks_told task (a ∷ packages) (true ∷ marks) j zero h told = h
marks_told task (a ∷ packages) (false ∷ marks) j zero h told = let t = told a refl in (t.0, t.1 ∙ ap (λ n. Some (suc n)) (let e : j + 0 ≡ j = omega arith in e), h)
marks_told task (a ∷ packages) (true ∷ marks) j (suc k) h told =
    (h.0, h.1, marks_told task packages marks (suc j) k h.2 (λ b at. let t = told b at in (t.0, t.1 ∙ ap (λ n. Some (suc n)) (let e : j + suc k ≡ suc j + k = omega arith in e))))
marks_told task (a ∷ packages) (false ∷ marks) j (suc k) h told =
    marks_told task packages marks (suc j) k h (λ b at. let t = told b at in (t.0, t.1 ∙ ap (λ n. Some (suc n)) (let e : j + suc k ≡ suc j + k = omega arith in e)))
marks_told task [] (m ∷ marks) j k h told = absurd h
marks_told task (a ∷ packages) [] j k h told = absurd h

pub disable_kept : (s : State) (word : List ℕ) → is_word word ≡ true → IsGood s → IfOk (disable_row s word) IsGood
disable_kept s word w g = or_if IsGood (package_number s.task word) UnknownPackage (disabled s) (λ p e. on p e)
  where
    on : (p : ℕ) → package_number s.task word ≡ Some p → IfOk (disabled s p) IsGood
    on zero e = tt
    on (suc k) e =
        let u = g.universe in
        let told = number_told s.task word (suc k) w e in
        record {
          universe = record {
            repos = u.repos;
            names_once = u.names_once;
            packages = u.packages;
            in_order = u.in_order;
            few = u.few;
            system = u.system;
            disabled = marks_told (view s.task.repos s.task.packages) s.task.packages s.task.disabled 0 k u.disabled
                (λ a at.
                let same : text_of_number s.task (suc k) ≡ text_of (view s.task.repos s.task.packages) a = ap (λ (o : Option WrittenPackage). option_map_or (text_of s.task) o []) at in
                let zero_more : suc (0 + k) ≡ suc k = omega arith in
                (ap is_word (sym same) ∙ told.1, ap (package_number s.task) (sym same) ∙ told.0 ∙ ap Some (sym zero_more)));
            namespaces = u.namespaces;
            namespaces_once = u.namespaces_once;
          };
          checks = g.checks;
          earlier = g.earlier;
          jobs = g.jobs;
          kinds = g.kinds;
          own = g.own;
        }

-- a comparison
pub evrcmp_kept : (s : State) (left right : List ℕ) (op : Cmp) → IsReadCheck (record { left = left; op = op; right = right }) → IsGood s → IfOk (evrcmp_row s left op right) IsGood
evrcmp_kept s left right op is g =
    record { universe = g.universe; checks = All-push IsReadCheck s.checks (record { left = left; op = op; right = right }) g.checks is; earlier = g.earlier; jobs = g.jobs; kinds = g.kinds; own = g.own }

-- flags
pub flags_kept : (s : State) (words : List (List ℕ)) → IsGood s → IfOk (flags_row s words) IsGood
flags_kept s words g = or_if IsGood (with_words words s.task.flags) UnknownFlag _ (λ f e. record { universe = g.universe; checks = g.checks; earlier = g.earlier; jobs = g.jobs; kinds = g.kinds; own = g.own })

-- a round is done
pub next_kept : (s : State) → IsGood s → IsGood (record s { task = record s.task { jobs = [] }; kinds = default_kinds; wanted = None; earlier = rounds_given s })
next_kept s g = record { universe = g.universe; checks = g.checks; earlier = rounds_good s g; jobs = All-nil (IsReadJob (view s.task.repos s.task.packages)); kinds = refl; own = g.own }

-- a job
chosen_is : (task : WrittenTask) (held : Held) (asked : Asked) → IfOk (chosen task held asked) (λ c. Chooses task asked c.choice)
chosen_is task held (pkg w) = or_if (λ c. Chooses task (pkg w) c.choice) (package_number task w) UnknownPackage (one_package held) (λ p e. on p e)
  where
    on : (p : ℕ) → package_number task w ≡ Some p → IfOk (one_package held p) (λ c. Chooses task (pkg w) c.choice)
    on zero e = tt
    on (suc k) e = (k, e, refl)
chosen_is task held (by_name ws) = text_then (λ c. Chooses task (by_name ws) c.choice) (dependency Plain (joined ws)) _ (λ d e. text_then (λ c. Chooses task (by_name ws) c.choice) (dependency_entered d held) _ (λ x f. (d, e, refl)))
chosen_is task held (by_provides ws) = text_then (λ c. Chooses task (by_provides ws) c.choice) (dependency Plain (joined ws)) _ (λ d e. text_then (λ c. Chooses task (by_provides ws) c.choice) (dependency_entered d held) _ (λ x f. (d, e, refl)))
chosen_is task held (one_of ws) =
    ok_then (λ c. Chooses task (one_of ws) c.choice) (package_numbers task ws) _ (λ ps e. on ps e (list_any (λ p. p == 0) ps) refl)
  where
    on : (ps : List ℕ) → package_numbers task ws ≡ Ok ps → (b : Bool) → list_any (λ p. p == 0) ps ≡ b
        → IfOk (if b then Err SystemInJob else Ok (record { choice = written.one_of ps; held = held })) (λ (c : Chosen). Chooses task (one_of ws) c.choice)
    on ps e true g = tt
    on ps e false g = (ps, e, g, refl)
chosen_is task held all = refl
chosen_is task held nothing = refl

pub job_kept : (s : State) (a : Action) (asked : Asked) (flags : JobFlags) (text : List ℕ) → IsJobOf (job a asked flags text) text → IsGood s → IfOk (job_row s a asked flags text) IsGood
job_kept s a asked flags text is g =
    ok_then IsGood (chosen s.task s.held asked) _ (λ c e.
    let j : WrittenJob = record { action = a; choice = c.choice; forcebest = flags.forcebest; cleandeps = flags.cleandeps; text = text } in
    let picks : Chooses s.task asked c.choice = if_is (λ c. Chooses s.task asked c.choice) (chosen s.task s.held asked) c e (chosen_is s.task s.held asked) in
    record {
      universe = g.universe;
      checks = g.checks;
      earlier = g.earlier;
      jobs = All-push (IsReadJob (view s.task.repos s.task.packages)) s.task.jobs j g.jobs
          (record { first = is.first; others = is.others; text = is.text_is; words = is.words; asked = asked; said = is.said ∙ ap (λ t. Ok (job a asked flags t)) is.text_is; chooses = picks });
      kinds = g.kinds;
      own = g.own;
    })

-- kinds by their names; one at least is named
abbrev some_kind : Kinds → Bool
some_kind k = k.transaction || (k.problems || (k.order || (k.reason || (k.userinstalled || k.unneeded))))

record AreNamed (k : Kinds) : Type 0 where
  some : some_kind k ≡ true

-- the kinds with the one of this name, and with those of these names
abbrev with_kind : List ℕ → Kinds → Result Kinds Cause
with_kind name k = ok_or (with_switch kind_switches true name k) UnknownKind

abbrev with_kinds : List (List ℕ) → Kinds → Result Kinds Cause
with_kinds [] k = Ok k
with_kinds (name ∷ names) k = commands_then (with_kind name k) (with_kinds names)

with_kinds_are : (names : List (List ℕ)) (k : Kinds) → ok_or (with_switches kind_switches names k) UnknownKind ≡ with_kinds names k
with_kinds_are [] k = refl
with_kinds_are (name ∷ names) k = by (with_switch kind_switches true name k) (with_kinds_are names)
  where
    by : (o : Option Kinds) → ((q : Kinds) → ok_or (with_switches kind_switches names q) UnknownKind ≡ with_kinds names q)
        → ok_or (option_and_then (with_switches kind_switches names) o) UnknownKind ≡ commands_then (ok_or o UnknownKind) (with_kinds names)
    by None same = refl
    by (Some q) same = same q

kind_named : (name : List ℕ) (k : Kinds) → IfOk (with_kind name k) AreNamed
kind_named name k =
    either_kinds (bytes_eq name (codes "transaction")) _ _ (record { some = refl })
    (either_kinds (bytes_eq name (codes "problems")) _ _ (record { some = behind_transaction refl })
    (either_kinds (bytes_eq name (codes "order")) _ _ (record { some = behind_problems refl })
    (either_kinds (bytes_eq name (codes "reason")) _ _ (record { some = behind_order refl })
    (either_kinds (bytes_eq name (codes "userinstalled")) _ _ (record { some = behind_reason refl })
    (either_kinds (bytes_eq name (codes "unneeded")) _ _ (record { some = behind_reason (or_right k.userinstalled true refl) }) tt)))))
  where
    either_kinds : (b : Bool) (s : Switch Kinds) (o : Option (Switch Kinds)) → AreNamed (s.turned true k) → IfOk (ok_or (option_map (λ switch. switch.turned true k) o) UnknownKind) AreNamed
        → IfOk (ok_or (option_map (λ switch. switch.turned true k) (cond b (Some s) o)) UnknownKind) AreNamed
    either_kinds true s o h l = h
    either_kinds false s o h l = l

    behind_transaction : {b : Bool} → b ≡ true → (k.transaction || b) ≡ true
    behind_transaction {b} h = or_right k.transaction b h

    behind_problems : {b : Bool} → b ≡ true → (k.transaction || (k.problems || b)) ≡ true
    behind_problems {b} h = or_right k.transaction (k.problems || b) (or_right k.problems b h)

    behind_order : {b : Bool} → b ≡ true → (k.transaction || (k.problems || (k.order || b))) ≡ true
    behind_order {b} h = or_right k.transaction (k.problems || (k.order || b)) (or_right k.problems (k.order || b) (or_right k.order b h))

    behind_reason : {b : Bool} → b ≡ true → (k.transaction || (k.problems || (k.order || (k.reason || b)))) ≡ true
    behind_reason {b} h = or_right k.transaction (k.problems || (k.order || (k.reason || b))) (or_right k.problems (k.order || (k.reason || b)) (or_right k.order (k.reason || b) (or_right k.reason b h)))

kinds_more : (names : List (List ℕ)) (k : Kinds) → AreNamed k → IfOk (with_kinds names k) AreNamed
kinds_more [] k are = are
kinds_more (name ∷ names) k are = on (with_kind name k) (kind_named name k) (λ q h. kinds_more names q h)
  where
    on : (r : Result Kinds Cause) → IfOk r AreNamed → ((q : Kinds) → AreNamed q → IfOk (with_kinds names q) AreNamed) → IfOk (commands_then r (with_kinds names)) AreNamed
    on (Ok q) h more = more q h
    on (Err c) h more = tt

kinds_some : (names : List (List ℕ)) (n : List ℕ) → IfOk (with_kinds (n ∷ names) no_kinds) AreNamed
kinds_some names n = on (with_kind n no_kinds) (kind_named n no_kinds)
  where
    on : (r : Result Kinds Cause) → IfOk r AreNamed → IfOk (commands_then r (with_kinds names)) AreNamed
    on (Ok q) h = kinds_more names q h
    on (Err c) h = tt

record HasFirst (xs : List (List ℕ)) : Type 0 where
  first : List ℕ
  rest : List (List ℕ)
  is : xs ≡ first ∷ rest

between_some : (c : ℕ) (text : List ℕ) → HasFirst (between c text)
between_some c [] = record { first = []; rest = []; is = refl }
between_some c (x ∷ xs) =
    let r = between_some c xs in
    elim (x == c) as (λ b. HasFirst (if b then [] ∷ between c xs else lengthened x (between c xs))) [
      | true ↦ record { first = []; rest = between c xs; is = refl }
      | false ↦ record { first = x ∷ r.first; rest = r.rest; is = ap (lengthened x) r.is }
    ]

-- what kinds that were named are written as
abbrev pub IsKindsAgain : Kinds → Type 0
IsKindsAgain k = (kinds_named (with_commas (kind_names k)) ≡ Ok k) × (is_word (with_commas (kind_names k)) ≡ true)

kinds_again : (k : Kinds) → AreNamed k → IsKindsAgain k
kinds_again k are = of k.transaction k.problems k.order k.reason k.userinstalled k.unneeded are.some
  where
    of : (a b c d u n : Bool) → (a || (b || (c || (d || (u || n))))) ≡ true → IsKindsAgain (record { transaction = a; problems = b; order = c; reason = d; userinstalled = u; unneeded = n })
    of true true true true true true h = (refl, refl)
    of true true true true true false h = (refl, refl)
    of true true true true false true h = (refl, refl)
    of true true true true false false h = (refl, refl)
    of true true true false true true h = (refl, refl)
    of true true true false true false h = (refl, refl)
    of true true true false false true h = (refl, refl)
    of true true true false false false h = (refl, refl)
    of true true false true true true h = (refl, refl)
    of true true false true true false h = (refl, refl)
    of true true false true false true h = (refl, refl)
    of true true false true false false h = (refl, refl)
    of true true false false true true h = (refl, refl)
    of true true false false true false h = (refl, refl)
    of true true false false false true h = (refl, refl)
    of true true false false false false h = (refl, refl)
    of true false true true true true h = (refl, refl)
    of true false true true true false h = (refl, refl)
    of true false true true false true h = (refl, refl)
    of true false true true false false h = (refl, refl)
    of true false true false true true h = (refl, refl)
    of true false true false true false h = (refl, refl)
    of true false true false false true h = (refl, refl)
    of true false true false false false h = (refl, refl)
    of true false false true true true h = (refl, refl)
    of true false false true true false h = (refl, refl)
    of true false false true false true h = (refl, refl)
    of true false false true false false h = (refl, refl)
    of true false false false true true h = (refl, refl)
    of true false false false true false h = (refl, refl)
    of true false false false false true h = (refl, refl)
    of true false false false false false h = (refl, refl)
    of false true true true true true h = (refl, refl)
    of false true true true true false h = (refl, refl)
    of false true true true false true h = (refl, refl)
    of false true true true false false h = (refl, refl)
    of false true true false true true h = (refl, refl)
    of false true true false true false h = (refl, refl)
    of false true true false false true h = (refl, refl)
    of false true true false false false h = (refl, refl)
    of false true false true true true h = (refl, refl)
    of false true false true true false h = (refl, refl)
    of false true false true false true h = (refl, refl)
    of false true false true false false h = (refl, refl)
    of false true false false true true h = (refl, refl)
    of false true false false true false h = (refl, refl)
    of false true false false false true h = (refl, refl)
    of false true false false false false h = (refl, refl)
    of false false true true true true h = (refl, refl)
    of false false true true true false h = (refl, refl)
    of false false true true false true h = (refl, refl)
    of false false true true false false h = (refl, refl)
    of false false true false true true h = (refl, refl)
    of false false true false true false h = (refl, refl)
    of false false true false false true h = (refl, refl)
    of false false true false false false h = (refl, refl)
    of false false false true true true h = (refl, refl)
    of false false false true true false h = (refl, refl)
    of false false false true false true h = (refl, refl)
    of false false false true false false h = (refl, refl)
    of false false false false true true h = (refl, refl)
    of false false false false true false h = (refl, refl)
    of false false false false false true h = (refl, refl)
    of false false false false false false h = absurd (cc)

kinds_read : (word : List ℕ) (k : Kinds) → kinds_named word ≡ Ok k → IsKindsAgain k
kinds_read word k h =
    let b = between_some 44 word in
    let are : IfOk (with_kinds (between_commas word) no_kinds) AreNamed = subst (λ ns. IfOk (with_kinds ns no_kinds) AreNamed) (sym b.is) (kinds_some b.rest b.first) in
    kinds_again k (if_is AreNamed (kinds_named word) k h (subst (λ (r : Result Kinds Cause). IfOk r AreNamed) (sym (with_kinds_are (between_commas word) no_kinds)) are))

-- its kinds were named
pub record HasKinds (t : State) : Type 0 where
  pub it : IsKindsAgain t.kinds

-- a `result` line, before its lines
pub result_kept : (s : State) (word : List ℕ) → IsGood s → IfOk (result_row s word) (λ t. IsGood t × HasKinds t)
result_kept s word g =
    either_if (λ t. IsGood t × HasKinds t) (is_some s.wanted) (Err DuplicateResult) _ (λ e. tt) (λ e. ok_then (λ t. IsGood t × HasKinds t) (kinds_named word) _ (λ k f.
    let again = kinds_read word k f in (
      record { universe = g.universe; checks = g.checks; earlier = g.earlier; jobs = g.jobs; kinds = (again.0, again.1, All-nil IsKept); own = g.own },
      record { it = again },
    )))
