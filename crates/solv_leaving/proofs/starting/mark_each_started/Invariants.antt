use Rattle.solv_pool.specs.Prelude.{catalog_of}
use Rattle.solv_leaving.specs.Inner.Starting.{AreStarted}
use Rattle.solv_leaving.proofs.starting.mark_each_started.Given as goal

abbrev pub invariant-loop-before : goal.invariant-loop-before
invariant-loop-before l = AreStarted (catalog_of l.ready.task.now) l.ready.task.now.flags l.ready.marks.now l.before l.initial.table l.table
