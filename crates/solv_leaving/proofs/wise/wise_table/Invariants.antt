use Rattle.std.proofs.Common.{◌≡◌}
use Rattle.solv_pool.specs.Prelude.{tree, package_wise}
use Rattle.solv_clean.specs.Inner.Tables.{table_of}
use Rattle.solv_leaving.proofs.wise.wise_table.Given as goal

abbrev pub invariant-loop-number : goal.invariant-loop-number
invariant-loop-number l = l.made.items ≡ table_of l.number (λ d. package_wise (tree l.pool.nodes d))
