use Rattle.std.proofs.Common.{ℕ, ◌<◌, ◌+◌}
use Rattle.solv_pool.specs.Prelude.{catalog_of}
use Rattle.solv_clean.specs.Inner.Holding.{AreKnown}
use Rattle.solv_clean.specs.Inner.Joining.{AreJoined, LeadTo}
use Rattle.solv_clean.proofs.supplementing.join_packages.Given as goal

abbrev pub invariant-loop-before : goal.invariant-loop-before
invariant-loop-before l = (AreKnown (catalog_of l.members.task.now) l.members.in_set.now l.known) × (AreJoined (catalog_of l.members.task.now) l.members.in_set.now l.passed l.graph) × ((q : ℕ) → 0 < q → q < l.before + 1 → LeadTo (catalog_of l.members.task.now) l.members.in_set.now l.graph q)
