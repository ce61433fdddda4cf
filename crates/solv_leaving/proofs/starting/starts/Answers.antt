use Rattle.std.proofs.Common.{◌∙◌, length}
use Rattle.solv_pool.specs.Prelude.{Catalog, catalog_of}
use Rattle.solv_list.proofs.Lists.{whole_write}
use Rattle.solv_leaving.specs.Inner.Starting.{AreStarted}
use Rattle.solv_leaving.proofs.Begun.{are_starts}
use Rattle.solv_leaving.proofs.starting.starts.Goals as goal

pub returns : goal.returns
returns c =
    let catalog : Catalog = catalog_of c.args.task.now in
    let made : AreStarted catalog c.args.task.now.flags c.args.marks.now (length c.args.task.now.universe.packages) c.into_vec-table.result.items c.mark_each_started.new.table = rw c.deref_mut.ensures.value at c.in_ok-mark_each_started.ensures in
    rw (whole_write c.mark_each_started.new.table c.into_vec-table.result.items c.into_vec-table.result.len made.size c.into_vec-table.result.ok.0)
    (are_starts catalog c.args.task.now.flags c.args.marks.now c.args.task.now.jobs c.into_vec-table.result.items c.mark_each_started.new.table (c.into_vec-table.ensures ∙ c.in_ok-asked.ensures) made)
