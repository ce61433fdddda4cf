-- A pool holds what a script names whose ids are of it.
use Rattle.std.proofs.Common.{◌≡◌, ℕ, Bool, true, ◌&&◌, List, [], ◌∷◌, ◌++◌, map, length, Option, Some, None, refl, nat_lt, All}
use Rattle.std.specs.Prelude.{option_to_list, option_map}
use Rattle.std.specs.List.{list_all}
use Rattle.std.proofs.lemmas.Bool.{ltb-true}
use Rattle.std.proofs.lemmas.List.Elements.{All-nil, All-cons, All-head, All-tail}
use Rattle.solv_base.specs.Pool.{Held, text_at, text_tree}
use Rattle.solv_pool.specs.Prelude.{names_of, relations_of, fits, IsClosed, choice_fits, line_fits, WrittenRepo, WrittenNeed, WrittenJob, written_repo, written_package, written_choice, written_job}
use Rattle.solv_pool.specs.declared.jobs.Choice.{Choice}
use Rattle.solv_pool.specs.declared.jobs.Choice.TheVariants.{Pkg, Name, Provides, OneOf, All as AllPackages, Nothing}
use Rattle.solv_pool.specs.declared.jobs.Job.{Job}
use Rattle.solv_pool.specs.declared.packages.Need.{Need}
use Rattle.solv_pool.specs.declared.packages.Package.{Package}
use Rattle.solv_pool.specs.declared.packages.Repo.{Repo}
use Rattle.solv_pool.specs.declared.tasks.Task.{Task}
use Rattle.solv_script.specs.Reads.{WrittenRound, written_script}
use Rattle.solv_script.specs.Inner.WrittenRounds.{written_round}
use Rattle.solv_script.specs.Rounds.{first_round, rounds, with_jobs_of, tasks}
use Rattle.solv_script.specs.declared.scripts.Round.{Round}
use Rattle.solv_script.specs.declared.scripts.Script.{Script}
use Rattle.solv_list.proofs.Booleans.{first_of_both, second_of_both}
use Rattle.solv_list.proofs.Lists.{all_left, all_right}
use Rattle.solv_deps.specs.Parts.{HoldsTree}
use Rattle.solv_writing.specs.Inner.ReadPackages.{HoldsText, HoldsPackage}
use Rattle.solv_writing.specs.Inner.ReadScripts.{HoldsChoice, HoldsScript}
use Rattle.solv_deps.proofs.PartEntered.{name_there}

all_map : {X Y : Type 0} (Q : Y → Type 0) (f : X → Y) (test : X → Bool) → ((x : X) → test x ≡ true → Q (f x)) → (xs : List X) → list_all test xs ≡ true → All Q (map f xs)
all_map Q f test make [] h = All-nil Q
all_map Q f test make (x ∷ xs) h = All-cons Q (f x) (map f xs) (make x (first_of_both (test x) (list_all test xs) h)) (all_map Q f test make xs (second_of_both (test x) (list_all test xs) h))

module _ (pool : Held) where
  abbrev named : ℕ → Bool
  named n = nat_lt n (length pool.names)

  abbrev related : ℕ → Bool
  related d = nat_lt d (length pool.nodes)

  text_held : (n : ℕ) → named n ≡ true → HoldsText pool (text_at pool n)
  text_held n h = name_there pool.names n (ltb-true n (length pool.names) h)

  tree_held : (d : ℕ) → related d ≡ true → HoldsTree pool (text_tree pool d)
  tree_held d h = record { id = d; below = ltb-true d (length pool.nodes) h; is = refl }

  texts_held : (ns : List ℕ) → list_all named ns ≡ true → All (HoldsText pool) (map (text_at pool) ns)
  texts_held ns h = all_map (HoldsText pool) (text_at pool) named text_held ns h

  trees_held : (ds : List ℕ) → list_all related ds ≡ true → All (HoldsTree pool) (map (text_tree pool) ds)
  trees_held ds h = all_map (HoldsTree pool) (text_tree pool) related tree_held ds h

  vendor_held : (v : Option ℕ) → list_all named (option_to_list v) ≡ true → All (HoldsText pool) (option_to_list (option_map (text_at pool) v))
  vendor_held None h = All-nil (HoldsText pool)
  vendor_held (Some n) h = All-cons (HoldsText pool) (text_at pool n) [] (text_held n (first_of_both (named n) true h)) (All-nil (HoldsText pool))

  needs_held : (needs : List Need) → list_all related (map (λ need. need.dep) needs) ≡ true
      → All (HoldsTree pool) (map (λ (need : WrittenNeed). need.dep) (map (λ (need : Need). let n : WrittenNeed = record { dep = text_tree pool need.dep; pre = need.pre } in n) needs))
  needs_held [] h = All-nil (HoldsTree pool)
  needs_held (need ∷ needs) h =
      let more : List ℕ = map (λ need. need.dep) needs in
      All-cons (HoldsTree pool) (text_tree pool need.dep) _ (tree_held need.dep (first_of_both (related need.dep) (list_all related more) h)) (needs_held needs (second_of_both (related need.dep) (list_all related more) h))

  package_held : (repos : ℕ) (a : Package) → fits (length pool.names) (length pool.nodes) repos a ≡ true → HoldsPackage pool (written_package pool a)
  package_held repos a h =
      let names = first_of_both (list_all named (names_of a)) (list_all related (relations_of a) && nat_lt a.repo repos) h in
      let relations = first_of_both (list_all related (relations_of a)) (nat_lt a.repo repos) (second_of_both (list_all named (names_of a)) (list_all related (relations_of a) && nat_lt a.repo repos) h) in
      let n1 = second_of_both (named a.name) (list_all named (a.evr ∷ a.arch ∷ (option_to_list a.vendor ++ a.files))) names in
      let n2 = second_of_both (named a.evr) (list_all named (a.arch ∷ (option_to_list a.vendor ++ a.files))) n1 in
      let n3 = second_of_both (named a.arch) (list_all named (option_to_list a.vendor ++ a.files)) n2 in
      let needs : List ℕ = map (λ need. need.dep) a.requires_ in
      let r7 : List ℕ = a.supplements ++ a.enhances in
      let r6 : List ℕ = a.suggests ++ r7 in
      let r5 : List ℕ = a.recommends ++ r6 in
      let r4 : List ℕ = a.obsoletes ++ r5 in
      let r3 : List ℕ = a.conflicts ++ r4 in
      let r2 : List ℕ = needs ++ r3 in
      let k2 : list_all related r2 ≡ true = all_right related a.provides r2 relations in
      let k3 : list_all related r3 ≡ true = all_right related needs r3 k2 in
      let k4 : list_all related r4 ≡ true = all_right related a.conflicts r4 k3 in
      let k5 : list_all related r5 ≡ true = all_right related a.obsoletes r5 k4 in
      let k6 : list_all related r6 ≡ true = all_right related a.recommends r6 k5 in
      let k7 : list_all related r7 ≡ true = all_right related a.suggests r7 k6 in
      record {
        name = text_held a.name (first_of_both (named a.name) (list_all named (a.evr ∷ a.arch ∷ (option_to_list a.vendor ++ a.files))) names);
        evr = text_held a.evr (first_of_both (named a.evr) (list_all named (a.arch ∷ (option_to_list a.vendor ++ a.files))) n1);
        arch = text_held a.arch (first_of_both (named a.arch) (list_all named (option_to_list a.vendor ++ a.files)) n2);
        vendor = vendor_held a.vendor (all_left named (option_to_list a.vendor) a.files n3);
        provides = trees_held a.provides (all_left related a.provides r2 relations);
        requires_ = needs_held a.requires_ (all_left related needs r3 k2);
        conflicts = trees_held a.conflicts (all_left related a.conflicts r4 k3);
        obsoletes = trees_held a.obsoletes (all_left related a.obsoletes r5 k4);
        recommends = trees_held a.recommends (all_left related a.recommends r6 k5);
        suggests = trees_held a.suggests (all_left related a.suggests r7 k6);
        supplements = trees_held a.supplements (all_left related a.supplements a.enhances k7);
        enhances = trees_held a.enhances (all_right related a.supplements a.enhances k7);
        files = texts_held a.files (all_right named (option_to_list a.vendor) a.files n3);
      }

  choice_held : (count : ℕ) (c : Choice) → choice_fits (length pool.nodes) count c ≡ true → HoldsChoice pool (written_choice pool c)
  choice_held count (Pkg p) h = tt
  choice_held count (Name d) h = tree_held d h
  choice_held count (Provides d) h = tree_held d h
  choice_held count (OneOf ps) h = tt
  choice_held count AllPackages h = tt
  choice_held count Nothing h = tt

  -- the jobs of a round
  jobs_held : (count : ℕ) (jobs : List Job) → list_all (λ (j : Job). choice_fits (length pool.nodes) count j.choice) jobs ≡ true → All (λ (j : WrittenJob). HoldsChoice pool j.choice) (map (written_job pool) jobs)
  jobs_held count jobs h = all_map (λ (j : WrittenJob). HoldsChoice pool j.choice) (written_job pool) (λ (j : Job). choice_fits (length pool.nodes) count j.choice) (λ j h. choice_held count j.choice h) jobs h

-- the choices of a round
abbrev HoldsRound : Held → WrittenRound → Type 0
HoldsRound pool r = All (λ (j : WrittenJob). HoldsChoice pool j.choice) r.jobs

rounds_held : (task : Task) (rs : List Round) → All IsClosed (map (with_jobs_of task) rs) → All (HoldsRound task.pool) (map (written_round task.pool) rs)
rounds_held task [] h = All-nil (HoldsRound task.pool)
rounds_held task (r ∷ rs) h =
    let first = All-head IsClosed (with_jobs_of task r) (map (with_jobs_of task) rs) h in
    All-cons (HoldsRound task.pool) (written_round task.pool r) (map (written_round task.pool) rs) (jobs_held task.pool (length task.universe.packages) r.jobs first.jobs)
    (rounds_held task rs (All-tail IsClosed (with_jobs_of task r) (map (with_jobs_of task) rs) h))

-- a script whose rounds are closed
pub script_held : (script : Script) → All IsClosed (tasks script) → HoldsScript script.task.pool (written_script script)
script_held script closed =
    let pool = script.task.pool in
    let count = length script.task.universe.packages in
    let c = All-head IsClosed (with_jobs_of script.task (first_round script)) (map (with_jobs_of script.task) script.later) closed in
    record {
      repos = all_map (λ (r : WrittenRepo). HoldsText pool r.name) (written_repo pool) (λ (r : Repo). nat_lt r.name (length pool.names)) (λ r h. text_held pool r.name h) script.task.universe.repos c.universe.repos;
      packages = all_map (HoldsPackage pool) (written_package pool) (fits (length pool.names) (length pool.nodes) (length script.task.universe.repos)) (package_held pool (length script.task.universe.repos)) script.task.universe.packages c.universe.packages;
      namespaces = all_map (λ (n : List ℕ × List ℕ). HoldsText pool n.0) (λ (line : ℕ × List ℕ). (text_at pool line.0, line.1)) (line_fits (length pool.names) count) (λ line h. text_held pool line.0 (first_of_both (nat_lt line.0 (length pool.names)) _ h)) script.task.namespaces c.namespaces;
      rounds = rounds_held script.task (rounds script) closed;
    }
