-- What goes, and what the jobs come to, in a set that meets the hard rules.
use Rattle.std.specs.Prelude.{◌≡◌, ℕ, Bool, true, false, not, List, Contains}
use Rattle.std.specs.List.{list_all, list_any}
use Rattle.std.specs.Bool.{beq}
use Rattle.solv_pool.specs.Catalog.{Catalog, catalog_of, is_installed}
use Rattle.solv_pool.specs.Selections.{selection}
use Rattle.solv_pool.specs.JobMarks.{marks_of}
use Rattle.solv_pool.specs.HardRules.{is_kept, feature_candidates}
use Rattle.solv_pool.specs.declared.jobs.Action.{Action}
use Rattle.solv_pool.specs.declared.jobs.Action.TheVariants.{Install, Erase, Lock}
use Rattle.solv_pool.specs.declared.tasks.Task.{Task}
use Rattle.solv_trans.specs.Changes.{changes}
use Rattle.solv_trans.specs.declared.kinds.Change.TheVariants as change
use Rattle.solv_answers.specs.Answers.{meets_hard_rules}

-- an installed package that no job erases and that may not go is in the set, or a package that may take its place is: one of its name, or one that obsoletes it
abbrev pub NothingGoesUnasked : Type 0
NothingGoesUnasked = (task : Task) (set : ℕ → Bool) (p : ℕ)
    → meets_hard_rules task set ≡ true → is_kept (catalog_of task) task.flags (marks_of task) p ≡ true
    → list_any set (feature_candidates (catalog_of task) task.flags (marks_of task) p) ≡ true

-- an install job has one of these packages in the set, an erase job none, and a lock job those that are installed; of other jobs nothing is said
abbrev pub is_done_with : Catalog → (ℕ → Bool) → Action → List ℕ → Bool
is_done_with catalog set Install xs = list_any set xs
is_done_with catalog set Erase xs = not (list_any set xs)
is_done_with catalog set Lock xs = list_all (λ q. beq (set q) (is_installed catalog q)) xs
is_done_with catalog set _ xs = true

-- each job is done with what it selects
abbrev pub JobsAreDone : Type 0
JobsAreDone = (task : Task) (set : ℕ → Bool) → meets_hard_rules task set ≡ true
    → list_all (λ job. is_done_with (catalog_of task) set job.action (selection (catalog_of task) job.choice)) task.jobs ≡ true

-- a package has a line `erase` only where a job erases it, where it is cleaned with what a job erases, or where it may go
abbrev pub ErasedLinesAreAsked : Type 0
ErasedLinesAreAsked = (task : Task) (set : ℕ → Bool) (p : ℕ)
    → meets_hard_rules task set ≡ true → Contains (changes (catalog_of task) set) (change.Erase p)
    → is_kept (catalog_of task) task.flags (marks_of task) p ≡ false
