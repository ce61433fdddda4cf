use Rattle.std.proofs.Common.{take}
use Rattle.solv_pool.specs.Prelude.{catalog_of}
use Rattle.solv_clean.specs.Inner.Finding.{Finds, ArePassed, serving}
use Rattle.solv_clean.proofs.finding.mark_recommended.Given as goal

abbrev pub invariant-loop-dep : goal.invariant-loop-dep
invariant-loop-dep l = (Finds l.members.in_set.now (serving (catalog_of l.members.task.now)) (take l.dep-index l.deps) l.initial.marks l.initial.found.items l.marks l.found.items) × ArePassed (serving (catalog_of l.members.task.now)) l.members.in_set.now l.passed l.marks
