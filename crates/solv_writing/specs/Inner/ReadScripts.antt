-- What scripts are that lines give: what can be written again so that it is read as the same.
use Rattle.std.specs.Prelude.{ℕ, suc, ◌==◌, ◌≡◌, ◌≤◌, Bool, true, false, List, [], ◌∷◌, ◌++◌, ◌+◌, All, codes, length, map, Option, Some, None, Ok}
use Rattle.std.specs.Fmt.{signed_decimal}
use Rattle.std.specs.List.{list_all, list_any}
use Rattle.std.specs.Str.{bytes_eq}
use Rattle.solv_base.specs.Dependency.{Dep}
use Rattle.solv_base.specs.Pool.{Held}
use Rattle.solv_deps.specs.Canonical.{comparison_text}
use Rattle.solv_deps.specs.Grammar.{comparison, is_namespace}
use Rattle.solv_deps.specs.Reading.{dependency}
use Rattle.solv_deps.specs.declared.place.Place.TheVariants.{Plain}
use Rattle.solv_pool.specs.Contents.{most_packages}
use Rattle.solv_pool.specs.Prelude.{WrittenTask, WrittenRepo, WrittenPackage, WrittenJob, WrittenChoice}
use Rattle.solv_pool.specs.Written as written
use Rattle.solv_io.specs.JoinedWords.{joined, is_word}
use Rattle.solv_commands.specs.Commands.{Asked, pkg, by_name, by_provides, one_of, all, nothing, job, command}
use Rattle.solv_commands.specs.Numbers.{priority}
use Rattle.solv_pool.specs.declared.universes.Arch.{Arch}
use Rattle.solv_script.specs.Reads.{WrittenCheck, WrittenRound, WrittenScript, first_flags, default_kinds}
use Rattle.solv_script.specs.Results.{kinds_named}
use Rattle.solv_script.specs.Rows.{package_numbers}
use Rattle.solv_script.specs.States.{package_number, repo_name, repo_place, text_of, text_of_number}
use Rattle.solv_script.specs.declared.scripts.Kinds.{Kinds}
use Rattle.solv_deps.specs.Parts.{HoldsTree}
use Rattle.solv_writing.specs.Inner.ReadPackages.{are_apart, IsKept, IsReadPackage, HoldsText, HoldsPackage}
use Rattle.solv_writing.specs.Inner.ScriptParts.{first_round, kind_names, packages_of, with_commas}

-- what is selected, by what is asked for
abbrev pub Chooses : WrittenTask → Asked → WrittenChoice → Type 0
Chooses task (pkg w) c = (k : ℕ) × (package_number task w ≡ Some (suc k)) × (c ≡ written.pkg (suc k))
Chooses task (by_name ws) c = (d : Dep (List ℕ)) × (dependency Plain (joined ws) ≡ Ok d) × (c ≡ written.name d)
Chooses task (by_provides ws) c = (d : Dep (List ℕ)) × (dependency Plain (joined ws) ≡ Ok d) × (c ≡ written.provides d)
Chooses task (one_of ws) c = (ps : List ℕ) × (package_numbers task ws ≡ Ok ps) × (list_any (λ p. p == 0) ps ≡ false) × (c ≡ written.one_of ps)
Chooses task all c = c ≡ written.all
Chooses task nothing c = c ≡ written.nothing

-- a job says by its text what it is
pub record IsReadJob (task : WrittenTask) (j : WrittenJob) : Type 0 where
  pub first : List ℕ
  pub others : List (List ℕ)
  pub text : j.text ≡ joined (first ∷ others)
  pub words : list_all is_word (first ∷ others) ≡ true
  pub asked : Asked
  pub said : command (codes "job") (first ∷ others) ≡ Ok (job j.action asked (record { forcebest = j.forcebest; cleandeps = j.cleandeps }) (joined (first ∷ others)))
  pub chooses : Chooses task asked j.choice

-- the dependency of a choice is held
abbrev pub HoldsChoice : Held → WrittenChoice → Type 0
HoldsChoice held (written.name d) = HoldsTree held d
HoldsChoice held (written.provides d) = HoldsTree held d
HoldsChoice held c = Unit {0}

-- two words and a comparison
pub record IsReadCheck (c : WrittenCheck) : Type 0 where
  pub left : is_word c.left ≡ true
  pub right : is_word c.right ≡ true
  pub op : comparison (comparison_text c.op) ≡ Some c.op
  pub op_word : is_word (comparison_text c.op) ≡ true

-- kinds are named where lines are expected, and are the default where none are
abbrev pub AreReadKinds : Kinds → Option (List (List ℕ)) → Type 0
AreReadKinds k None = k ≡ default_kinds
AreReadKinds k (Some wanted) = (kinds_named (with_commas (kind_names k)) ≡ Ok k) × (is_word (with_commas (kind_names k)) ≡ true) × All IsKept wanted

-- a round over the packages of a task
pub record IsReadRound (task : WrittenTask) (r : WrittenRound) : Type 0 where
  pub jobs : All (IsReadJob task) r.jobs
  pub kinds : AreReadKinds r.kinds r.wanted

-- a name, and a priority in its range
pub record IsReadRepo (r : WrittenRepo) : Type 0 where
  pub name : is_word r.name ≡ true
  pub number : is_word (signed_decimal r.priority) ≡ true
  pub priority : priority (signed_decimal r.priority) ≡ Some r.priority

-- a package is identified by its text: it is the first one with it
abbrev pub IsToldByText : WrittenTask → ℕ → Type 0
IsToldByText task p = (package_number task (text_of_number task p) ≡ Some p) × (is_word (text_of_number task p) ≡ true)

-- a namespace's name, and packages, one at least, that are identified by their texts
pub record IsReadNamespace (task : WrittenTask) (n : List ℕ × List ℕ) : Type 0 where
  pub name : is_word n.0 ≡ true
  pub namespace : is_namespace n.0 ≡ true
  pub first : ℕ
  pub rest : List ℕ
  pub some : n.1 ≡ first ∷ rest
  pub told : All (IsToldByText task) n.1

-- the packages of repositories, the first of which has this number, one repository after the other
abbrev pub packages_from : ℕ → List WrittenRepo → List WrittenPackage → List WrittenPackage
packages_from place [] packages = []
packages_from place (r ∷ others) packages = packages_of place packages ++ packages_from (place + 1) others packages

-- a repository is identified by its name
pub record IsToldByName (task : WrittenTask) (place : ℕ) : Type 0 where
  pub word : is_word (repo_name task place) ≡ true
  pub place_is : repo_place task (repo_name task place) ≡ Some place

-- where there is no system, nothing is installed
abbrev pub IsReadSystem : WrittenTask → Option Arch → Option ℕ → Type 0
IsReadSystem task None installed = installed ≡ None
IsReadSystem task (Some arch) None = Unit {0}
IsReadSystem task (Some arch) (Some place) = IsToldByName task place

-- the disabled packages among these, of which the first has this number less one, are identified by their texts
abbrev pub AreDisabledTold : WrittenTask → ℕ → List WrittenPackage → List Bool → Type 0
AreDisabledTold task k [] [] = Unit {0}
AreDisabledTold task k (a ∷ packages) (true ∷ others) = (is_word (text_of task a) ≡ true) × (package_number task (text_of task a) ≡ Some (suc k)) × AreDisabledTold task (suc k) packages others
AreDisabledTold task k (a ∷ packages) (false ∷ others) = AreDisabledTold task (suc k) packages others
AreDisabledTold task k packages others = ⊥

-- a task of these repositories and packages
abbrev pub view : List WrittenRepo → List WrittenPackage → WrittenTask
view repos packages = record { repos = repos; packages = packages; arch = None; installed = None; disabled = []; flags = first_flags; namespaces = []; jobs = [] }

-- the repositories and packages of a task
abbrev pub view_of : WrittenTask → WrittenTask
view_of task = view task.repos task.packages

-- what was read of packages, of the system and of namespaces; the flags and jobs of a task don't matter
pub record IsReadUniverse (task : WrittenTask) : Type 0 where
  pub repos : All IsReadRepo task.repos
  pub names_once : are_apart bytes_eq [] (map (λ r. r.name) task.repos) ≡ true
  pub packages : All IsReadPackage task.packages
  pub in_order : packages_from 0 task.repos task.packages ≡ task.packages
  pub few : length task.packages ≤ most_packages
  pub system : IsReadSystem (view_of task) task.arch task.installed
  pub disabled : AreDisabledTold (view_of task) 0 task.packages task.disabled
  pub namespaces : All (IsReadNamespace (view_of task)) task.namespaces
  pub namespaces_once : are_apart bytes_eq [] (map (λ n. n.0) task.namespaces) ≡ true

-- all rounds of a script
abbrev pub rounds_of : WrittenScript → List WrittenRound
rounds_of s = first_round s ∷ s.later

-- a task without its flags and jobs
abbrev pub universe_of : WrittenTask → WrittenTask
universe_of task = record task { flags = first_flags; jobs = [] }

-- what was read of a script
pub record IsReadScript (s : WrittenScript) : Type 0 where
  pub universe : IsReadUniverse (universe_of s.task)
  pub checks : All IsReadCheck s.checks
  pub rounds : All (IsReadRound (view_of s.task)) (rounds_of s)

-- a pool holds what a script names
pub record HoldsScript (held : Held) (s : WrittenScript) : Type 0 where
  pub repos : All (λ (r : WrittenRepo). HoldsText held r.name) s.task.repos
  pub packages : All (HoldsPackage held) s.task.packages
  pub namespaces : All (λ (n : List ℕ × List ℕ). HoldsText held n.0) s.task.namespaces
  pub rounds : All (λ (r : WrittenRound). All (λ (j : WrittenJob). HoldsChoice held j.choice) r.jobs) (rounds_of s)
