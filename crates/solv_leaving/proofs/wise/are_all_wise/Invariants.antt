use Rattle.std.proofs.Common.{◌≡◌, ◌<◌, ℕ, true}
use Rattle.solv_pool.specs.Prelude.{tree, package_wise}
use Rattle.solv_leaving.proofs.wise.are_all_wise.Given as goal

abbrev pub invariant-loop-number : goal.invariant-loop-number
invariant-loop-number l = (d : ℕ) → d < l.number → package_wise (tree l.pool.nodes d) ≡ true
