use Rattle.std.proofs.Common.{◌≡◌, ℕ, true, take}
use Rattle.solv_pool.specs.Prelude.{is_among, catalog_of}
use Rattle.solv_clean.specs.Inner.Holding.{AreKnown}
use Rattle.solv_clean.specs.Inner.Joining.{Grows, AreJoined, LeadByOne}
use Rattle.solv_clean.proofs.supplementing.join_supplements.Given as goal

abbrev pub invariant-loop-dep : goal.invariant-loop-dep
invariant-loop-dep l = (AreKnown (catalog_of l.members.task.now) l.members.in_set.now l.known) × (Grows l.initial.graph l.graph) × (AreJoined (catalog_of l.members.task.now) l.members.in_set.now l.passed l.graph) × ((id : ℕ) → is_among (take l.dep-index l.deps) id ≡ true → LeadByOne (catalog_of l.members.task.now) l.members.in_set.now l.graph l.pack id)
