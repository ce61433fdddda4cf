-- Names for parts of lines.
use Rattle.std.specs.Prelude.{ℕ, List, [], ◌∷◌, ◌++◌, Option, Some, None, codes, filter, filter_map, fold, map, option_and_then, slice_get, if◌then◌else◌}
use Rattle.std.specs.List.{enumerate_from}
use Rattle.solv_pool.specs.Prelude.{Catalog, catalog_of, is_installed, HardRule, when, is_among}
use Rattle.solv_pool.specs.declared.tasks.Task.{Task}
use Rattle.solv_core.specs.declared.verdicts.Event.{Event}
use Rattle.solv_lines.specs.ResultLines.{order_line, reason_line}
use Rattle.solv_lines.specs.RuleTexts.{dependency_of, named, packs_text}
use Rattle.solv_lines.specs.SolutionTexts.{candidates_in, going_text}
use Rattle.solv_clean.specs.Unneeded.{users, unneeded}
use Rattle.solv_pool.specs.declared.jobs.Job.{Job}
use Rattle.solv_script.specs.declared.scripts.Kinds.{Kinds}
use Rattle.solv_trans.specs.Moving.{comes}
use Rattle.std.specs.Option.{is_some}
use Rattle.std.specs.BTreeSet.{insert_key}
use Rattle.std.specs.Cmp.Lexicographic.{slice_cmp}
use Rattle.std.specs.Ordering.{nat_cmp}

-- the words before a package that the user asked for, and before one that nobody needs
abbrev pub user_word : List ℕ
user_word = codes "userinstalled"

abbrev pub unneeded_word : List ℕ
unneeded_word = codes "unneeded"

module _ (catalog : Catalog) where
  -- the line of a word and a package
  abbrev pub pack_line : List ℕ → ℕ → List ℕ
  pack_line word p = packs_text catalog word (p ∷ [])

  -- what is done with a part of an order: an installed package goes, and another one comes
  abbrev pub step_text : ℕ → List ℕ
  step_text p = packs_text catalog (if is_installed catalog p then codes " erase" else codes " install") (p ∷ [])

  -- the lines of what the user asked for of a set, and of what nobody needs of it
  abbrev pub need_lines : List Job → Kinds → List ℕ → List (List ℕ)
  need_lines jobs kinds set = when kinds.userinstalled (map (pack_line user_word) (users catalog jobs (is_among set))) ++ when kinds.unneeded (map (pack_line unneeded_word) (unneeded catalog jobs (is_among set)))

-- a set of lines, with more lines put in
abbrev pub with_lines : List (List ℕ) → List (List ℕ) → List (List ℕ)
with_lines set lines = fold (insert_key (slice_cmp nat_cmp)) set lines

-- the lines of the parts of an order, whose places are numbered from 1
abbrev pub part_lines : Catalog → List ℕ → List (List ℕ)
part_lines catalog parts = map (λ part. order_line catalog part.0 part.1) (enumerate_from 1 parts)

-- the lines of why the packages of a set come, one for each that comes
abbrev pub reason_lines : Catalog → List ℕ → List Event → List (List ℕ)
reason_lines catalog set events = filter_map (reason_line catalog events) (filter (comes catalog (is_among set)) set)

-- p stays in the set, or goes for nothing
abbrev pub staying_text : Task → List ℕ → ℕ → List ℕ
staying_text task set p = if is_among set p then codes "keep " ++ named (catalog_of task) p else codes "erase " ++ named (catalog_of task) p

-- what is said where the rule on p's distribution upgrade is dropped; nothing beside p's feature rule, whose text is that of both
abbrev pub dup_text : Task → List HardRule → List ℕ → ℕ → Option (List ℕ)
dup_text task gone set p = if is_some (candidates_in gone p) then None else Some (staying_text task set p)

-- what is said where p's update rule is dropped; nothing beside p's feature rule, whose text is that of both
abbrev pub update_text : Task → List HardRule → List HardRule → List ℕ → ℕ → Option (List ℕ)
update_text task rules gone set p = if is_some (candidates_in gone p) then None else Some (going_text task rules set p)

-- the dependency by which the job of a number selects
abbrev pub dependency_of_job : Task → ℕ → Option ℕ
dependency_of_job task j = option_and_then (λ job. dependency_of job.choice) (slice_get task.jobs j)
