-- What is said of a solution: what becomes of the rules that it drops.
use Rattle.std.specs.Prelude.{ℕ, not, ◌&&◌, List, [], ◌∷◌, ◌++◌, ◌==◌, Option, Some, None, codes, find, filter_map, unwrap_or, slice_get, if◌then◌else◌}
use Rattle.std.specs.Option.{option_map_or, is_some}
use Rattle.solv_pool.specs.Catalog.{catalog_of}
use Rattle.solv_pool.specs.RuleMeaning.{HardRule, infarch, update, dup, feature, install, erase, lock, best_job, best_update}
use Rattle.solv_pool.specs.Words.{is_among}
use Rattle.solv_pool.specs.declared.tasks.Task.{Task}
use Rattle.solv_lines.specs.RuleTexts.{named, packs_text}

-- p, and what may take its place were every change allowed, where a rule says so
abbrev pub feature_set : ℕ → HardRule → Option (List ℕ)
feature_set p (feature q xs) = if q == p then Some xs else None
feature_set p _ = None

-- the same by the first of these rules that says so, if one does
abbrev pub candidates_in : List HardRule → ℕ → Option (List ℕ)
candidates_in rules p = slice_get (filter_map (feature_set p) rules) 0

-- the rules at these places; a place after the last one has none
abbrev pub rules_at : List HardRule → List ℕ → List HardRule
rules_at rules places = filter_map (slice_get rules) places

-- the words of a job's line; a number that is no job has none
abbrev pub job_text : Task → ℕ → List ℕ
job_text task j = option_map_or (λ job. job.text) (slice_get task.jobs j) []

-- p goes for the first package of the set that may take its place were every change allowed, which is the lowest one, since a solution's set is ascending; or for nothing
abbrev pub going_text : Task → List HardRule → List ℕ → ℕ → List ℕ
going_text task rules set p =
    option_map_or (λ q. packs_text (catalog_of task) (codes "replace") (p ∷ q ∷ []))
    (find (λ q. not (q == p) && is_among (unwrap_or (candidates_in rules p) []) q) set) (codes "erase " ++ named (catalog_of task) p)

module _ (task : Task) (rules gone : List HardRule) (set : List ℕ) where
  -- what is said of a dropped rule; nothing of one that may not be dropped, and of p's update rule, or that on its distribution upgrade, nothing beside p's feature rule, whose text is that of both
  abbrev pub element : HardRule → Option (List ℕ)
  element (infarch p) = Some (codes "allow " ++ named (catalog_of task) p)
  element (update p xs) = if is_some (candidates_in gone p) then None else Some (going_text task rules set p)
  element (dup p xs) = if is_some (candidates_in gone p) then None else Some (if is_among set p then codes "keep " ++ named (catalog_of task) p else codes "erase " ++ named (catalog_of task) p)
  element (feature p xs) = Some (codes "erase " ++ named (catalog_of task) p)
  element (install j xs) = Some (codes "deljob " ++ job_text task j)
  element (erase j xs) = Some (codes "deljob " ++ job_text task j)
  element (lock j xs) = Some (codes "deljob " ++ job_text task j)
  element (best_job j xs) = Some (codes "dropbest " ++ job_text task j)
  element (best_update j p xs) = Some (codes "keepold " ++ named (catalog_of task) p)
  element _ = None

-- the texts of a solution that drops the rules at these places, in their order
abbrev pub solution_texts : Task → List HardRule → List ℕ → List ℕ → List (List ℕ)
solution_texts task rules dropped set = filter_map (element task rules (rules_at rules dropped) set) (rules_at rules dropped)
