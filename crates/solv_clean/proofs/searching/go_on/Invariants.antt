use Rattle.solv_pool.specs.Prelude.{catalog_of}
use Rattle.solv_clean.specs.Inner.Finding.{ArePassed, serving, next_to}
use Rattle.solv_clean.proofs.Walked.{Going}
use Rattle.solv_clean.proofs.searching.go_on.Given as goal

abbrev pub invariant-loop-place : goal.invariant-loop-place
invariant-loop-place l = (Going (next_to (catalog_of l.members.task.now) l.members.in_set.now l.supplements) l.may l.starts l.marks l.found.items l.place) × (ArePassed (serving (catalog_of l.members.task.now)) l.members.in_set.now l.passed l.marks)
