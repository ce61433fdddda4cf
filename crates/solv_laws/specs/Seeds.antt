-- The task of a seed.
use Rattle.std.specs.Prelude.{◌≡◌, ℕ, None}
use Rattle.solv_pool.specs.Catalog.{catalog_of}
use Rattle.solv_pool.specs.HardRules.{hard_rules}
use Rattle.solv_pool.specs.declared.tasks.Task.{Task}
use Rattle.solv_rules.specs.Books.{first_fault}
use Rattle.solv_script.specs.GrownTasks.{IsGrown}

-- the hard rules of a seed's task give a book: no dependency has too many clauses, nor have all of them too many words
abbrev pub SeedsPassNoLimit : Type 0
SeedsPassNoLimit = (seed : ℕ) (task : Task) → IsGrown seed task → first_fault (catalog_of task) 0 (hard_rules task) ≡ None
