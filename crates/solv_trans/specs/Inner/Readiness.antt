-- What a task has to be for an order.
use Rattle.solv_pool.specs.Prelude.{IsOver, catalog_of}
use Rattle.solv_pool.specs.declared.tasks.Task.{Task}
use Rattle.solv_prov.specs.Index.{Index, IsIndexOf}

-- the ids of the task are of its pool, and the index is of it
pub record IsReady (task : Task) (index : Index) : Type 0 where
  pub over : IsOver task.pool task.universe
  pub of_task : IsIndexOf index (catalog_of task)
