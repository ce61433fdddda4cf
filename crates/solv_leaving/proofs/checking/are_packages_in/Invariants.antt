use Rattle.std.proofs.Common.{ℕ, ◌≡◌, ◌<◌, ◌+◌, false}
use Rattle.solv_pool.specs.Prelude.{catalog_of, marked}
use Rattle.solv_leaving.specs.Inner.Checking.{IsPackageIn}
use Rattle.solv_leaving.proofs.checking.are_packages_in.Given as goal

abbrev pub invariant-loop-before : goal.invariant-loop-before
invariant-loop-before l = (p : ℕ) → 0 < p → p < l.before + 1 → marked l.looked.left.now p ≡ false → IsPackageIn (catalog_of l.looked.task.now) l.looked.left.now p
