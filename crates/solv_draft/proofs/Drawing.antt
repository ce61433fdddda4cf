-- What a call gives to a task is what it is then.
use Rattle.std.proofs.Common.{◌≡◌, ℕ, ◌<◌, ◌-◌, Bool, true, false, List, [], ◌∷◌, ◌++◌, map, length, Option, Some, None, Result, Ok, Err, refl, sym, ap, subst, ◌∙◌}
use Rattle.std.specs.Prelude.{ℤ, ◌||◌, not, is_some, slice_set, nat_le, nat_lt, IsOkAnd, IfOk, if◌then◌else◌}
use Rattle.std.specs.List.{list_all}
use Rattle.std.proofs.lemmas.Bool.{and_from, and_parts, lt-ltb}
use Rattle.std.proofs.lemmas.List.{append-nil, length-map, map-append}
use Rattle.std.proofs.lemmas.Simd.{map-map}
use Rattle.solv_base.specs.Dependency.{Dep}
use Rattle.solv_base.specs.Pool.{Held, IsPool, Grows, text_at, text_tree}
use Rattle.solv_base.proofs.Growth.{Grows-itself}
use Rattle.solv_deps.specs.Inner.Entering.{IsRefusal, text_read}
use Rattle.solv_deps.specs.Entering.{Entered, text_entered, dependency_entered}
use Rattle.solv_deps.specs.Reading.{dependency}
use Rattle.solv_deps.specs.Reading as reading
use Rattle.solv_deps.specs.declared.place.Place.TheVariants.{Plain}
use Rattle.solv_deps.specs.declared.fault.DepFault.{DepFault}
use Rattle.solv_deps.specs.declared.fault.DepFault.TheVariants.{BadOperator, MissingOperand, MixedOperators, UnclosedParenthesis, TooDeep, OperatorNotHere, FullNames, FullRelations, Memory}
use Rattle.solv_pool.specs.Inner.PackageText.{repo_found}
use Rattle.solv_pool.specs.Prelude.{IsOver, IsClosed, choice_fits, WrittenTask, WrittenPackage, WrittenJob, WrittenChoice, written_task, written_repo, written_package, written_choice, written_job}
use Rattle.solv_pool.specs.Contents.{Contents}
use Rattle.solv_pool.specs.declared.jobs.Choice.{Choice}
use Rattle.solv_pool.specs.declared.jobs.Choice.TheVariants.{All, OneOf, Name, Provides}
use Rattle.solv_pool.specs.declared.jobs.Job.{Job}
use Rattle.solv_pool.specs.declared.packages.Package.{Package}
use Rattle.solv_pool.specs.declared.packages.Repo.{Repo}
use Rattle.solv_pool.specs.declared.tasks.Task.{Task}
use Rattle.solv_pool.specs.declared.universes.Arch.{Arch}
use Rattle.solv_commands.specs.declared.causes.Cause.{Cause}
use Rattle.solv_commands.specs.declared.causes.Cause.TheVariants.{DuplicateRepo}
use Rattle.solv_tags.specs.EntryForms.{is_written_formed}
use Rattle.solv_tags.specs.Inner.RepositoryReading.{IsBadFor, IsTaken, IsTagRefusal}
use Rattle.solv_tags.specs.Inner.Testtags.{testtags_file}
use Rattle.solv_tags.specs.Testtags.{Repository}
use Rattle.solv_tags.specs.declared.tag_fault.TagCause.{TagCause}
use Rattle.solv_tags.specs.declared.tag_fault.TagCause.TheVariants as of_tag
use Rattle.solv_tags.specs.declared.tag_fault.TagFault.{TagFault}
use Rattle.solv_script.specs.Grammar.{repository_given}
use Rattle.solv_script.specs.Inner.Namespaces.{with_packages}
use Rattle.solv_script.specs.Inner.WrittenForms.{HasWrittenForms, is_written_choice}
use Rattle.solv_commands.specs.Commands.{Asked, by_name, by_provides}
use Rattle.solv_commands.specs.declared.flags_of_jobs.JobFlags.{JobFlags}
use Rattle.solv_pool.specs.declared.jobs.Action.{Action}
use Rattle.solv_pool.specs.Written as written
use Rattle.solv_script.specs.LineCauses.{cause_of_text}
use Rattle.solv_script.specs.Rows.{Chosen, by_dependency, chosen, job_row, or_text_cause, with_repo, with_namespace}
use Rattle.solv_commands.specs.Commands.{and_then}
use Rattle.solv_script.specs.States.{State}
use Rattle.solv_script.proofs.Finding.{place_is}
use Rattle.solv_script.proofs.NamespaceLists.{namespaces_with, packages_fit}
use Rattle.solv_script.proofs.RowForms.{AreFormed, given_passes, job_forms, repo_forms, repository_forms}
use Rattle.solv_script.proofs.TaskGrowth.{written_line, stays, closed_grown, closed_repo, closed_system, closed_disabled, closed_flags, closed_job, closed_packages}
use Rattle.solv_list.proofs.Lists.{list_all_join}
use Rattle.solv_tags.proofs.EntriesFormed.{file_formed}
use Rattle.solv_draft.specs.Drafts.{drawn, of_line, of_file, where_named, repo_given, packages_given, system_of, system_given, arch_of, installed_of, disabled_given, namespace_given, flags_given, job_given, job_by_given, no_jobs_given}
use Rattle.solv_draft.specs.Inner.Faults.{IsFault, fault_of_text, fault_of_tag}
use Rattle.solv_draft.specs.Inner.Drafts.{HasDrawn, IsDraft, IsKept, job_with}
use Rattle.solv_draft.specs.JobRows.{action_of, flags_of, is_row, is_number_of, job_of}
use Rattle.solv_draft.specs.declared.draft_fault.DraftFault.{DraftFault}
use Rattle.solv_draft.specs.declared.draft_fault.DraftFault.TheVariants.{Refused, Misused}
use Rattle.solv_draft.specs.declared.flag_row.FlagRow.{FlagRow}
use Rattle.solv_draft.specs.declared.job_row.JobRow.{JobRow}

-- a text that is refused is the fault of its line
pub faults : {A : Type 0} (e : DepFault) (r : Result A DepFault) (next : A → Result State Cause) → IsRefusal e r → IsFault (fault_of_text 1 e) (of_line (or_text_cause r next))
faults BadOperator r next h = rw h refl
faults MissingOperand r next h = rw h refl
faults MixedOperators r next h = rw h refl
faults UnclosedParenthesis r next h = rw h refl
faults TooDeep r next h = rw h refl
faults OperatorNotHere r next h = rw h refl
faults FullNames r next h = rw h refl
faults FullRelations r next h = rw h refl
faults Memory r next h = tt

-- a fault that is another is that one
fault_is : {A : Type 0} (r : Result A DepFault) (f e : DepFault) → r ≡ Err f → r ≡ Err e → f ≡ e
fault_is r f e is h = cc

-- so it is where a dependency is read and then entered
text_fault : (line : ℕ) (f : DepFault) (given : Result State DraftFault) → given ≡ Err (Refused line (cause_of_text f)) → IsFault (fault_of_text line f) given
text_fault line BadOperator given h = h
text_fault line MissingOperand given h = h
text_fault line MixedOperators given h = h
text_fault line UnclosedParenthesis given h = h
text_fault line TooDeep given h = h
text_fault line OperatorNotHere given h = h
text_fault line FullNames given h = h
text_fault line FullRelations given h = h
text_fault line Memory given h = tt

fault_itself : {A : Type 0} (e f : DepFault) (r : Result A DepFault) (given : Result State DraftFault) → r ≡ Err f → given ≡ Err (Refused 1 (cause_of_text f)) → IsRefusal e r → IsFault (fault_of_text 1 e) given
fault_itself Memory f r given is g h = tt
fault_itself e f r given is g h = text_fault 1 e given (g ∙ ap (λ (d : DepFault). Err (Refused 1 (cause_of_text d))) (fault_is r f e is h))

no_refusal : {A B : Type 0} (e : DepFault) (x : A) (given : Result B DraftFault) → IsRefusal e (Ok x) → IsFault (fault_of_text 1 e) given
no_refusal Memory x given h = tt
no_refusal _ x given h = absurd (cc)

read_faults : (e : DepFault) (r : Result (Dep (List ℕ)) DepFault) (enter : Dep (List ℕ) → Result Entered DepFault) (next : Dep (List ℕ) → Entered → Result Chosen Cause) (last : Chosen → Result State Cause)
    → IsRefusal e (reading.and_then r enter) → IsFault (fault_of_text 1 e) (of_line (and_then (or_text_cause r (λ d. or_text_cause (enter d) (next d))) last))
read_faults e (Err f) enter next last h = fault_itself e f (reading.and_then (Err f) enter) _ refl refl h
read_faults e (Ok d) enter next last h = entered_faults e (enter d) (next d) h
  where
    entered_faults : (e : DepFault) (r : Result Entered DepFault) (next : Entered → Result Chosen Cause) → IsRefusal e r → IsFault (fault_of_text 1 e) (of_line (and_then (or_text_cause r next) last))
    entered_faults e (Err f) next h = fault_itself e f (Err f) _ refl refl h
    entered_faults e (Ok x) next h = no_refusal e x _ h

-- a line of testtags that is refused
tag_faults : (fault : TagFault) (line : ℕ) (c : TagCause) (given : Result Repository TagFault) (s : State) → fault ≡ record { line = line; cause = c } → IsBadFor c fault given → IsFault (fault_of_tag line c) (of_file (repository_given s [] given))
tag_faults fault line of_tag.Memory given s e h = tt
tag_faults fault line (of_tag.Dep f) given s e h = text_fault line f _ (rw (h, e) refl)
tag_faults fault line of_tag.BadPackageLine given s e h = rw (h, e) refl
tag_faults fault line of_tag.TagBeforePackage given s e h = rw (h, e) refl
tag_faults fault line of_tag.UnclosedBlock given s e h = rw (h, e) refl
tag_faults fault line of_tag.TooManyPackages given s e h = rw (h, e) refl
tag_faults fault line of_tag.FullNames given s e h = rw (h, e) refl

-- a number that names nothing
pub names_nothing : (named : Bool) (given : Result State DraftFault) → named ≡ false → where_named named given ≡ Err Misused
names_nothing named given h = rw h refl

-- and one that names something
pub names_some : (named : Bool) (given : Result State DraftFault) (s : State) → named ≡ true → given ≡ Ok s → where_named named given ≡ Ok s
names_some named given s h is = rw h is

-- what a job selects by numbers is there, and has such a form
pub selection_fits : (nodes count : ℕ) (all : Bool) (packs : List ℕ) → list_all (is_number_of count) packs ≡ true → choice_fits nodes count (if all then All else OneOf packs) ≡ true
selection_fits nodes count true packs within = refl
selection_fits nodes count false packs within = within

selection_formed : (pool : Held) (all : Bool) (packs : List ℕ) → is_written_choice (written_choice pool (if all then All else OneOf packs)) ≡ true
selection_formed pool true packs = refl
selection_formed pool false packs = refl

module _ (task : Task) (draft : IsDraft task) where
  -- a task over which nothing has happened, or whose pool has grown
  pub kept_itself : IsKept task task
  kept_itself = record { task = refl; besides = refl; grows = Grows-itself task.pool; draft = draft }

  pub kept_grown : (pool : Held) → Grows task.pool pool → IsKept task (record task { pool = pool })
  kept_grown pool grows =
      let same = stays task draft.closed pool grows in
      record { task = same; besides = refl; grows = grows; draft = record { closed = closed_grown task draft.closed pool grows; forms = subst HasWrittenForms (sym same) draft.forms } }

  -- a repository of this name stands before
  pub repo_twice : (name : List ℕ) (priority : ℤ) → is_some (repo_found task.pool task.universe name) ≡ true → repo_given name priority (drawn task) ≡ Err (Refused 1 DuplicateRepo)
  unfolding drawn
  repo_twice name priority h = rw (ap is_some (place_is task name) ∙ h) refl

  -- its name is refused
  pub repo_refused : (name : List ℕ) (priority : ℤ) (e : DepFault) → is_some (repo_found task.pool task.universe name) ≡ false → IsRefusal e (text_entered name task.pool)
      → IsFault (fault_of_text 1 e) (repo_given name priority (drawn task))
  unfolding drawn
  repo_refused name priority e h refused = rw (ap is_some (place_is task name) ∙ h) (faults e (text_entered name task.pool) _ refused)

  -- one more repository
  pub repo_drawn : (name : List ℕ) (priority : ℤ) (id : ℕ) (pool : Held) → is_some (repo_found task.pool task.universe name) ≡ false → Grows task.pool pool
      → text_entered name task.pool ≡ Ok (record { id = id; held = pool }) → text_at pool id ≡ name → id < length pool.names
      → HasDrawn (record task { pool = pool; universe = record task.universe { repos = task.universe.repos ++ record { name = id; priority = priority } ∷ [] } }) (repo_given name priority (drawn task))
  unfolding drawn
  repo_drawn name priority id pool free grows entered text within =
      let one : Repo = record { name = id; priority = priority } in
      let same = stays task draft.closed pool grows in
      let new : Task = record task { pool = pool; universe = record task.universe { repos = task.universe.repos ++ one ∷ [] } } in
      let is : with_repo (drawn task) name priority ≡ Ok (drawn new)
      = rw (
        ap is_some (place_is task name) ∙ free,
        entered,
        map-append (written_repo pool) task.universe.repos (one ∷ []),
        ap (λ (t : WrittenTask). t.repos) same,
        ap (λ (t : WrittenTask). t.packages) same,
        ap (λ (t : WrittenTask). t.namespaces) same,
        ap (λ (t : WrittenTask). t.jobs) same,
        text,
      ) refl in
      record {
        is = ap of_line is;
        draft = record {
          closed = closed_repo (record task { pool = pool }) (closed_grown task draft.closed pool grows) one within;
          forms = given_passes AreFormed (with_repo (drawn task) name priority) (drawn new) is (repo_forms (drawn task) draft.forms name priority);
        };
      }

  -- the packages of a repository, by numbers of the task
  packages_there : (repo : ℕ) (bytes : List ℕ) → packages_given repo bytes (drawn task)
      ≡ where_named (nat_lt repo (length task.universe.repos)) (of_file (repository_given (drawn task) [] (testtags_file task.pool (length task.universe.packages) repo bytes)))
  unfolding drawn
  packages_there repo bytes =
      let repos : length (map (written_repo task.pool) task.universe.repos) ≡ length task.universe.repos = length-map task.universe.repos (written_repo task.pool) in
      let count : length (map (written_package task.pool) task.universe.packages) ≡ length task.universe.packages = length-map task.universe.packages (written_package task.pool) in
      rw (repos, count) refl

  pub packages_nowhere : (repo : ℕ) (bytes : List ℕ) → nat_lt repo (length task.universe.repos) ≡ false → packages_given repo bytes (drawn task) ≡ Err Misused
  packages_nowhere repo bytes h = packages_there repo bytes ∙ names_nothing _ _ h

  pub packages_refused : (repo : ℕ) (bytes : List ℕ) (fault : TagFault) → nat_lt repo (length task.universe.repos) ≡ true → IsTagRefusal fault (testtags_file task.pool (length task.universe.packages) repo bytes)
      → IsFault (fault_of_tag fault.line fault.cause) (packages_given repo bytes (drawn task))
  packages_refused repo bytes fault there refused = rw (packages_there repo bytes, there) (tag_faults fault fault.line fault.cause (testtags_file task.pool (length task.universe.packages) repo bytes) (drawn task) refl refused)

  taken_drawn : (given : Result Repository TagFault) (pool : Held) (universe : Contents) → Grows task.pool pool → IsOver pool universe
      → IsOkAnd given (λ read. IsTaken read pool task.universe universe) → IfOk given (λ read. list_all is_written_formed read.packages ≡ true)
      → HasDrawn (record task { pool = pool; universe = universe }) (of_file (repository_given (drawn task) [] given))
  unfolding drawn
  taken_drawn (Err fault) pool universe grows over taken formed = absurd taken
  taken_drawn (Ok read) pool universe grows over taken formed =
      let same = stays task draft.closed pool grows in
      let more = taken.packages in
      let new : Task = record task { pool = pool; universe = universe } in
      let is : repository_given (drawn task) [] (Ok read) ≡ Ok (drawn new)
      = rw (
        more.universe,
        ← taken.held,
        map-append (written_package pool) task.universe.packages more.added,
        more.texts,
        ap (λ (t : WrittenTask). t.repos) same,
        ap (λ (t : WrittenTask). t.packages) same,
        ap (λ (t : WrittenTask). t.namespaces) same,
        ap (λ (t : WrittenTask). t.jobs) same,
        map-same more.added read.packages more.texts,
      ) refl in
      record {
        is = ap of_file is;
        draft = record {
          closed = closed_packages (record task { pool = pool }) (closed_grown task draft.closed pool grows) universe more.added over (ap (λ (u : Contents). u.packages) more.universe);
          forms = given_passes AreFormed (repository_given (drawn task) [] (Ok read)) (drawn new) is (repository_forms (drawn task) draft.forms [] (Ok read) formed);
        };
      }
    where
      map-same : (added : List Package) (packages : List WrittenPackage) → map (written_package pool) added ≡ packages → map (λ (a : WrittenPackage). false) packages ≡ map (λ (a : Package). false) added
      map-same added packages is = rw (← is) (map-map (λ (a : WrittenPackage). false) (written_package pool) added)

  pub packages_drawn : (repo : ℕ) (bytes : List ℕ) (pool : Held) (universe : Contents) → nat_lt repo (length task.universe.repos) ≡ true → Grows task.pool pool → IsOver pool universe
      → IsOkAnd (testtags_file task.pool (length task.universe.packages) repo bytes) (λ read. IsTaken read pool task.universe universe)
      → HasDrawn (record task { pool = pool; universe = universe }) (packages_given repo bytes (drawn task))
  packages_drawn repo bytes pool universe there grows over taken =
      let file = testtags_file task.pool (length task.universe.packages) repo bytes in
      let d = taken_drawn file pool universe grows over taken (file_formed task.pool (length task.universe.packages) repo bytes) in
      record { is = packages_there repo bytes ∙ names_some _ _ _ there d.is; draft = d.draft }

  -- numbers of the task, and of what is written of it
  repos_there : length (map (written_repo task.pool) task.universe.repos) ≡ length task.universe.repos
  repos_there = length-map task.universe.repos (written_repo task.pool)

  count_there : length (map (written_package task.pool) task.universe.packages) ≡ length task.universe.packages
  count_there = length-map task.universe.packages (written_package task.pool)

  -- the system
  pub system_nowhere : (number : ℕ) (has : Bool) (installed : ℕ) → (not has || nat_lt installed (length task.universe.repos)) ≡ false → system_given number has installed (drawn task) ≡ Err Misused
  unfolding drawn
  system_nowhere number has installed h = rw (repos_there, h) refl

  pub system_unknown : (number : ℕ) (has : Bool) (installed : ℕ) → (not has || nat_lt installed (length task.universe.repos)) ≡ true → arch_of number ≡ None → system_given number has installed (drawn task) ≡ Err Misused
  unfolding drawn
  system_unknown number has installed h none = rw (repos_there, h) (ap (λ (arch : Option Arch). system_of arch (installed_of has installed) (drawn task)) none)

  pub system_drawn : (number : ℕ) (has : Bool) (installed : ℕ) (arch : Arch) → (not has || nat_lt installed (length task.universe.repos)) ≡ true → arch_of number ≡ Some arch
      → HasDrawn (record task { universe = record task.universe { arch = Some arch; installed = installed_of has installed } }) (system_given number has installed (drawn task))
  unfolding drawn
  system_drawn number has installed arch h some = record {
    is = rw (repos_there, h) (ap (λ (a : Option Arch). system_of a (installed_of has installed) (drawn task)) some);
    draft = record { closed = closed_system task draft.closed (Some arch) (installed_of has installed); forms = record { packages = draft.forms.packages; jobs = draft.forms.jobs } };
  }

  -- a package is disabled
  pub disabled_nowhere : (pack : ℕ) → is_number_of (length task.universe.packages) pack ≡ false → disabled_given pack (drawn task) ≡ Err Misused
  unfolding drawn
  disabled_nowhere pack h = rw count_there (names_nothing _ _ h)

  pub disabled_drawn : (pack : ℕ) → is_number_of (length task.universe.packages) pack ≡ true
      → HasDrawn (record task { universe = record task.universe { disabled = slice_set task.universe.disabled (pack - 1) true } }) (disabled_given pack (drawn task))
  unfolding drawn
  disabled_drawn pack h = record {
    is = rw count_there (names_some _ _ _ h refl);
    draft = record { closed = closed_disabled task draft.closed (slice_set task.universe.disabled (pack - 1) true); forms = record { packages = draft.forms.packages; jobs = draft.forms.jobs } };
  }

  -- flags
  pub flags_drawn : (row : FlagRow) → HasDrawn (record task { flags = flags_of row }) (flags_given row (drawn task))
  unfolding drawn
  flags_drawn row = record { is = refl; draft = record { closed = closed_flags task draft.closed (flags_of row); forms = record { packages = draft.forms.packages; jobs = draft.forms.jobs } } }

  -- no jobs
  pub jobs_cleared : HasDrawn (record task { jobs = [] }) (no_jobs_given (drawn task))
  unfolding drawn
  jobs_cleared = record { is = refl; draft = record { closed = record { universe = draft.closed.universe; namespaces = draft.closed.namespaces; jobs = refl }; forms = record { packages = draft.forms.packages; jobs = refl } } }

  -- a job by numbers
  pub job_nowhere : (row : JobRow) → is_row (length task.universe.packages) row ≡ false → job_given row (drawn task) ≡ Err Misused
  unfolding drawn
  job_nowhere row h = names_nothing _ _ (ap (λ n. is_row n row) count_there ∙ h)

  pub job_drawn : (row : JobRow) → is_row (length task.universe.packages) row ≡ true → HasDrawn (record task { jobs = task.jobs ++ job_of row ∷ [] }) (job_given row (drawn task))
  unfolding drawn
  job_drawn row h =
      let job : Job = job_of row in
      let new : Task = record task { jobs = task.jobs ++ job ∷ [] } in
      let packs : list_all (is_number_of (length task.universe.packages)) row.packs.now ≡ true = (and_parts (nat_lt row.action 12) (list_all (is_number_of (length task.universe.packages)) row.packs.now) h).1 in
      let joined_jobs : map (written_job task.pool) (task.jobs ++ job ∷ []) ≡ map (written_job task.pool) task.jobs ++ written_job task.pool job ∷ [] = map-append (written_job task.pool) task.jobs (job ∷ []) in
      record {
        is = names_some _ _ (drawn new) (ap (λ n. is_row n row) count_there ∙ h) (ap (λ (js : List WrittenJob). Ok (record (drawn task) { task = record (drawn task).task { jobs = js } })) (sym joined_jobs));
        draft = record {
          closed = closed_job task draft.closed job (selection_fits (length task.pool.nodes) (length task.universe.packages) row.all row.packs.now packs);
          forms = record {
            packages = draft.forms.packages;
            jobs = ap (list_all (λ (j : WrittenJob). is_written_choice j.choice)) joined_jobs
                ∙ list_all_join (λ (j : WrittenJob). is_written_choice j.choice) (map (written_job task.pool) task.jobs) (written_job task.pool job ∷ []) draft.forms.jobs
                (and_from (is_written_choice (written_job task.pool job).choice) true (selection_formed task.pool row.all row.packs.now) refl);
          };
        };
      }

  -- a job by a dependency
  pub job_by_nowhere : (provides : Bool) (dep : List ℕ) (row : JobRow) → nat_lt row.action 12 ≡ false → job_by_given provides dep row (drawn task) ≡ Err Misused
  job_by_nowhere provides dep row h = names_nothing _ _ h

  pub job_by_refused : (provides : Bool) (dep : List ℕ) (row : JobRow) (e : DepFault) → nat_lt row.action 12 ≡ true → IsRefusal e (text_read Plain dep task.pool) → IsFault (fault_of_text 1 e) (job_by_given provides dep row (drawn task))
  unfolding drawn
  job_by_refused true dep row e h refused = rw (h, append-nil dep) (read_faults e (dependency Plain dep) _ _ _ refused)
  job_by_refused false dep row e h refused = rw (h, append-nil dep) (read_faults e (dependency Plain dep) _ _ _ refused)

  selected_drawn : (action : Action) (asked : Asked) (flags : JobFlags) (text : List ℕ) (choice : Choice) (pool : Held)
      → chosen (written_task task) task.pool asked ≡ Ok (record { choice = written_choice pool choice; held = pool }) → Grows task.pool pool
      → choice_fits (length pool.nodes) (length task.universe.packages) choice ≡ true
      → HasDrawn (record task { pool = pool; jobs = task.jobs ++ record { action = action; choice = choice; forcebest = flags.forcebest; cleandeps = flags.cleandeps; text = text } ∷ [] })
      (of_line (job_row (drawn task) action asked flags text))
  unfolding drawn
  selected_drawn action asked flags text choice pool is_chosen grows fits =
      let job : Job = record { action = action; choice = choice; forcebest = flags.forcebest; cleandeps = flags.cleandeps; text = text } in
      let same = stays task draft.closed pool grows in
      let new : Task = record task { pool = pool; jobs = task.jobs ++ job ∷ [] } in
      let is : job_row (drawn task) action asked flags text ≡ Ok (drawn new)
      = rw (
        is_chosen,
        map-append (written_job pool) task.jobs (job ∷ []),
        ap (λ (t : WrittenTask). t.repos) same,
        ap (λ (t : WrittenTask). t.packages) same,
        ap (λ (t : WrittenTask). t.namespaces) same,
        ap (λ (t : WrittenTask). t.jobs) same,
      ) refl in
      record {
        is = ap of_line is;
        draft = record {
          closed = closed_job (record task { pool = pool }) (closed_grown task draft.closed pool grows) job fits;
          forms = given_passes AreFormed (job_row (drawn task) action asked flags text) (drawn new) is (job_forms (drawn task) draft.forms action asked flags text);
        };
      }

  by_read : (dep : List ℕ) (id : ℕ) (pool : Held) (choice : Dep (List ℕ) → WrittenChoice) → dependency Plain dep ≡ Ok (text_tree pool id) → text_read Plain dep task.pool ≡ Ok (record { id = id; held = pool })
      → by_dependency task.pool (dep ∷ []) choice ≡ Ok (record { choice = choice (text_tree pool id); held = pool })
  by_read dep id pool choice read entered =
      let here : dependency_entered (text_tree pool id) task.pool ≡ Ok (record { id = id; held = pool }) = rw read at entered in
      rw (append-nil dep, read, here) refl

  pub job_by_drawn : (provides : Bool) (dep : List ℕ) (row : JobRow) (id : ℕ) (pool : Held) → nat_lt row.action 12 ≡ true → Grows task.pool pool → dependency Plain dep ≡ Ok (text_tree pool id)
      → text_read Plain dep task.pool ≡ Ok (record { id = id; held = pool }) → id < length pool.nodes
      → HasDrawn (record task { pool = pool; jobs = task.jobs ++ job_with row (if provides then Provides id else Name id) ∷ [] }) (job_by_given provides dep row (drawn task))
  job_by_drawn true dep row id pool h grows read entered within =
      let d = selected_drawn (action_of row.action) (by_provides (dep ∷ [])) (record { forcebest = row.forcebest; cleandeps = row.cleandeps }) row.text.now (Provides id) pool (by_read dep id pool written.provides read entered) grows (lt-ltb id (length pool.nodes) within) in
      record { is = names_some _ _ _ h d.is; draft = d.draft }
  job_by_drawn false dep row id pool h grows read entered within =
      let d = selected_drawn (action_of row.action) (by_name (dep ∷ [])) (record { forcebest = row.forcebest; cleandeps = row.cleandeps }) row.text.now (Name id) pool (by_read dep id pool written.name read entered) grows (lt-ltb id (length pool.nodes) within) in
      record { is = names_some _ _ _ h d.is; draft = d.draft }

  -- a namespace
  namespace_there : (name packs : List ℕ) → namespace_given name packs (drawn task) ≡ where_named (list_all (λ p. nat_le p (length task.universe.packages)) packs)
      (of_line (or_text_cause (text_entered name task.pool) (λ e. Ok (record (drawn task) { held = e.held; task = record (drawn task).task { namespaces = with_namespace name packs (drawn task).task.namespaces } }))))
  unfolding drawn
  namespace_there name packs =
      ap (λ n. where_named (list_all (λ p. nat_le p n) packs)
      (of_line (or_text_cause (text_entered name task.pool) (λ e. Ok (record (drawn task) { held = e.held; task = record (drawn task).task { namespaces = with_namespace name packs (drawn task).task.namespaces } })))))
      count_there

  pub namespace_nowhere : (name packs : List ℕ) → list_all (λ p. nat_le p (length task.universe.packages)) packs ≡ false → namespace_given name packs (drawn task) ≡ Err Misused
  namespace_nowhere name packs h = namespace_there name packs ∙ names_nothing _ _ h

  pub namespace_refused : (name packs : List ℕ) (e : DepFault) → list_all (λ p. nat_le p (length task.universe.packages)) packs ≡ true → IsRefusal e (text_entered name task.pool)
      → IsFault (fault_of_text 1 e) (namespace_given name packs (drawn task))
  namespace_refused name packs e h refused = rw (namespace_there name packs, h) (faults e (text_entered name task.pool) _ refused)

  pub namespace_drawn : (name packs : List ℕ) (id : ℕ) (pool : Held) → IsPool pool → list_all (λ p. nat_le p (length task.universe.packages)) packs ≡ true → Grows task.pool pool
      → text_entered name task.pool ≡ Ok (record { id = id; held = pool }) → text_at pool id ≡ name → id < length pool.names
      → HasDrawn (record task { pool = pool; namespaces = with_packages id packs task.namespaces }) (namespace_given name packs (drawn task))
  unfolding drawn
  namespace_drawn name packs id pool once there grows entered text within =
      let same = stays task draft.closed pool grows in
      let closed : IsClosed (record task { pool = pool }) = closed_grown task draft.closed pool grows in
      let count : ℕ = length task.universe.packages in
      let new : Task = record task { pool = pool; namespaces = with_packages id packs task.namespaces } in
      let added : map (written_line pool) (with_packages id packs task.namespaces) ≡ with_namespace name packs (map (written_line task.pool) task.namespaces)
      = sym (namespaces_with pool once id within count packs task.namespaces closed.namespaces) ∙ ap (λ t. with_namespace t packs (map (written_line pool) task.namespaces)) text
      ∙ ap (λ (t : WrittenTask). with_namespace name packs t.namespaces) same in
      let given : Result State Cause = or_text_cause (text_entered name task.pool) (λ e. Ok (record (drawn task) { held = e.held; task = record (drawn task).task { namespaces = with_namespace name packs (drawn task).task.namespaces } })) in
      let is : given ≡ Ok (drawn new)
      = rw (
        entered,
        added,
        ap (λ (t : WrittenTask). t.repos) same,
        ap (λ (t : WrittenTask). t.packages) same,
        ap (λ (t : WrittenTask). t.jobs) same,
      ) refl in
      record {
        is = namespace_there name packs ∙ names_some _ _ _ there (ap of_line is);
        draft = record {
          closed = record { universe = closed.universe; namespaces = packages_fit (length pool.names) count id packs task.namespaces within there closed.namespaces; jobs = closed.jobs };
          forms = record { packages = ap (λ (t : WrittenTask). list_all is_written_formed t.packages) same ∙ draft.forms.packages; jobs = ap (λ (t : WrittenTask). list_all (λ (j : WrittenJob). is_written_choice j.choice) t.jobs) same ∙ draft.forms.jobs };
        };
      }
