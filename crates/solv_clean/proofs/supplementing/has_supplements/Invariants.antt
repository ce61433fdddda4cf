use Rattle.std.proofs.Common.{◌≡◌, ℕ, ◌<◌, ◌+◌, false}
use Rattle.solv_pool.specs.Prelude.{catalog_of}
use Rattle.solv_clean.specs.Inner.Joining.{supplements_something}
use Rattle.solv_clean.proofs.supplementing.has_supplements.Given as goal

abbrev pub invariant-loop-before : goal.invariant-loop-before
invariant-loop-before l = (q : ℕ) → q < l.before + 1 → supplements_something (catalog_of l.members.task.now) q ≡ false
