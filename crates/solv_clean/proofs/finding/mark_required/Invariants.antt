use Rattle.std.proofs.Common.{take}
use Rattle.solv_pool.specs.Prelude.{catalog_of}
use Rattle.solv_clean.specs.Inner.Finding.{Finds, ArePassed, serving, serving_need}
use Rattle.solv_clean.proofs.finding.mark_required.Given as goal

abbrev pub invariant-loop-need : goal.invariant-loop-need
invariant-loop-need l = (Finds l.members.in_set.now (serving_need (catalog_of l.members.task.now)) (take l.need-index l.needs) l.initial.marks l.initial.found.items l.marks l.found.items) × ArePassed (serving (catalog_of l.members.task.now)) l.members.in_set.now l.passed l.marks
