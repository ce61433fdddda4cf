-- The lines of a task by its ids are those of the task with its texts.
use Rattle.std.proofs.Common.{◌≡◌, ◌≤◌, ℕ, suc, ◌+◌, Bool, true, false, List, [], ◌∷◌, ◌++◌, map, length, slice_get, Option, Some, None, refl, sym, ap, ◌∙◌, arith, add-one}
use Rattle.std.specs.Prelude.{codes, option_map}
use Rattle.std.specs.Option.{option_map_or}
use Rattle.std.proofs.lemmas.Option.{slice_get-map, slice_get_past}
use Rattle.solv_io.specs.JoinedWords.{joined}
use Rattle.solv_base.specs.Pool.{Held, text_at}
use Rattle.solv_deps.specs.Canonical.{comparison_text}
use Rattle.solv_pool.specs.Contents.{Contents}
use Rattle.solv_pool.specs.PackageText.{package_text, repo_text}
use Rattle.solv_pool.specs.Prelude.{WrittenPackage, WrittenRepo, written_job, written_package, written_repo, written_task}
use Rattle.solv_pool.specs.declared.jobs.Job.{Job}
use Rattle.solv_pool.specs.declared.packages.Package.{Package}
use Rattle.solv_pool.specs.declared.packages.Repo.{Repo}
use Rattle.solv_pool.specs.declared.tasks.Task.{Task}
use Rattle.solv_pool.specs.declared.universes.Arch.{Arch}
use Rattle.solv_script.proofs.Finding.{number_text}
use Rattle.solv_script.specs.Reads.{WrittenCheck}
use Rattle.solv_script.specs.Inner.WrittenRounds.{written_round}
use Rattle.solv_script.specs.States.{repo_name, text_of, text_of_number}
use Rattle.solv_script.specs.declared.scripts.EvrCheck.{EvrCheck}
use Rattle.solv_script.specs.declared.scripts.Round.{Round}
use Rattle.solv_writing.specs.Inner.ByIds.{disable_text, disabled_texts, installed_texts, namespace_text, system_text}
use Rattle.solv_writing.specs.Inner.RoundTexts.{later_text, round_text}
use Rattle.solv_script.specs.Rows.{arch_text}
use Rattle.solv_writing.specs.Inner.ScriptParts.{disabled_lines, flag_words, installed_words, result_lines, round_lines, system_lines}
use Rattle.solv_writing.specs.Inner.LineNames.{namespace_line}
use Rattle.solv_writing.specs.Inner.LineNames.{check_line, job_line, later_lines}

-- a repository that is not there has no name
pub no_repo_text : (pool : Held) (contents : Contents) (place : ℕ) → length contents.repos ≤ place → repo_text pool contents place ≡ []
no_repo_text pool contents place h = ap (λ (o : Option Repo). option_map_or (λ repo. text_at pool repo.name) o []) (slice_get_past contents.repos place h)

module _ (task : Task) where
  repo_is : (place : ℕ) → repo_text task.pool task.universe place ≡ repo_name (written_task task) place
  repo_is place =
      (elim (slice_get task.universe.repos place) as (λ o. option_map_or (λ (repo : Repo). text_at task.pool repo.name) o [] ≡ option_map_or (λ (repo : WrittenRepo). repo.name) (option_map (written_repo task.pool) o) []) [ None ↦ refl | Some repo ↦ refl ])
      ∙ ap (λ (o : Option WrittenRepo). option_map_or (λ repo. repo.name) o []) (sym (slice_get-map (written_repo task.pool) task.universe.repos place))

  -- the system
  installed_are : (installed : Option ℕ) → installed_texts task.pool task.universe installed ≡ installed_words (written_task task) installed
  installed_are None = refl
  installed_are (Some place) = ap (λ name. name ∷ []) (repo_is place)

  pub system_is : (arch : Option Arch) → system_text task.pool task.universe arch ≡ system_lines (written_task task) arch
  system_is None = refl
  system_is (Some arch) = ap (λ (words : List (List ℕ)). joined (codes "system" ∷ arch_text arch ∷ codes "rpm" ∷ words) ∷ []) (installed_are task.universe.installed)

  -- disabled packages
  text_there : (k : ℕ) (a : Package) → slice_get task.universe.packages k ≡ Some a → package_text task.pool task.universe (k + 1) ≡ text_of (written_task task) (written_package task.pool a)
  text_there k a at =
      ap (package_text task.pool task.universe) (add-one k) ∙ sym (number_text task (suc k))
      ∙ ap (λ (o : Option WrittenPackage). option_map_or (text_of (written_task task)) o []) (slice_get-map (written_package task.pool) task.universe.packages k ∙ ap (option_map (written_package task.pool)) at)

  disable_is : (k : ℕ) (a : Package) → slice_get task.universe.packages k ≡ Some a → disable_text task.pool task.universe (k + 1) ≡ joined (codes "disable" ∷ codes "pkg" ∷ text_of (written_task task) (written_package task.pool a) ∷ [])
  disable_is k a at = ap (λ (text : List ℕ). joined (codes "disable" ∷ codes "pkg" ∷ text ∷ [])) (text_there k a at)

  disabled_from : (packages : List Package) (marks : List Bool) (k : ℕ) → length marks ≡ length packages → ((i : ℕ) → slice_get packages i ≡ slice_get task.universe.packages (k + i))
      → disabled_texts task.pool task.universe (k + 1) marks ≡ disabled_lines (written_task task) (map (written_package task.pool) packages) marks
  disabled_from [] [] k e at = refl
  disabled_from [] (m ∷ marks) k e at = absurd (omega (arith, e))
  disabled_from (a ∷ packages) [] k e at = absurd (omega (arith, e))
  disabled_from (a ∷ packages) (true ∷ marks) k e at =
      ap (λ line. line ∷ disabled_texts task.pool task.universe (k + 1 + 1) marks) (disable_is k a (ap (slice_get task.universe.packages) (let n : k ≡ k + 0 = omega arith in n) ∙ sym (at 0)))
      ∙ ap (λ lines. joined (codes "disable" ∷ codes "pkg" ∷ text_of (written_task task) (written_package task.pool a) ∷ []) ∷ lines)
      (disabled_from packages marks (k + 1) (let l : length marks ≡ length packages = omega (arith, e) in l) (λ i. at (suc i) ∙ ap (slice_get task.universe.packages) (let n : k + suc i ≡ k + 1 + i = omega arith in n)))
  disabled_from (a ∷ packages) (false ∷ marks) k e at =
      disabled_from packages marks (k + 1) (let l : length marks ≡ length packages = omega (arith, e) in l) (λ i. at (suc i) ∙ ap (slice_get task.universe.packages) (let n : k + suc i ≡ k + 1 + i = omega arith in n))

  pub disabled_are : length task.universe.disabled ≡ length task.universe.packages → disabled_texts task.pool task.universe 1 task.universe.disabled ≡ disabled_lines (written_task task) (map (written_package task.pool) task.universe.packages) task.universe.disabled
  disabled_are e = disabled_from task.universe.packages task.universe.disabled 0 e (λ i. ap (slice_get task.universe.packages) (let n : i ≡ 0 + i = omega arith in n))

  -- namespaces
  numbers_are : (ps : List ℕ) → map (package_text task.pool task.universe) ps ≡ map (text_of_number (written_task task)) ps
  numbers_are [] = refl
  numbers_are (p ∷ ps) = ap (λ text. text ∷ map (package_text task.pool task.universe) ps) (sym (number_text task p)) ∙ ap (λ texts. text_of_number (written_task task) p ∷ texts) (numbers_are ps)

  namespace_is : (n : ℕ × List ℕ) → namespace_text task.pool task.universe n ≡ namespace_line (written_task task) (text_at task.pool n.0, n.1)
  namespace_is n = ap (λ (texts : List (List ℕ)). joined (codes "namespace" ∷ text_at task.pool n.0 ∷ texts)) (numbers_are n.1)

  pub namespaces_are : (ns : List (ℕ × List ℕ)) → map (namespace_text task.pool task.universe) ns ≡ map (namespace_line (written_task task)) (map (λ line. (text_at task.pool line.0, line.1)) ns)
  namespaces_are [] = refl
  namespaces_are (n ∷ ns) =
      ap (λ line. line ∷ map (namespace_text task.pool task.universe) ns) (namespace_is n) ∙ ap (λ lines. namespace_line (written_task task) (text_at task.pool n.0, n.1) ∷ lines) (namespaces_are ns)

-- comparisons
pub checks_are : (checks : List EvrCheck) → map (λ (check : EvrCheck). joined (codes "evrcmp" ∷ check.left ∷ comparison_text check.op ∷ check.right ∷ [])) checks
    ≡ map check_line (map (λ (check : EvrCheck). let c : WrittenCheck = record { left = check.left; op = check.op; right = check.right } in c) checks)
checks_are [] = refl
checks_are (check ∷ checks) = ap (λ lines. joined (codes "evrcmp" ∷ check.left ∷ comparison_text check.op ∷ check.right ∷ []) ∷ lines) (checks_are checks)

-- rounds
module _ (pool : Held) where
  jobs_are : (jobs : List Job) → map (λ (job : Job). codes "job " ++ job.text) jobs ≡ map job_line (map (written_job pool) jobs)
  jobs_are [] = refl
  jobs_are (job ∷ jobs) = ap (λ lines. (codes "job " ++ job.text) ∷ lines) (jobs_are jobs)

  pub round_is : (r : Round) → round_text r ≡ round_lines (written_round pool r)
  round_is r = ap (λ (lines : List (List ℕ)). joined (codes "solverflags" ∷ flag_words r.flags) ∷ (lines ++ result_lines r.kinds r.wanted)) (jobs_are r.jobs)

  pub later_are : (rs : List Round) → later_text rs ≡ later_lines (map (written_round pool) rs)
  later_are [] = refl
  later_are (r ∷ rs) = ap (λ lines. codes "nextjob" ∷ (lines ++ later_text rs)) (round_is r) ∙ ap (λ lines. codes "nextjob" ∷ (round_lines (written_round pool r) ++ lines)) (later_are rs)
