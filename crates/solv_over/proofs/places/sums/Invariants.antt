use Rattle.std.proofs.Common.{◌≡◌, ◌++◌, drop}
use Rattle.solv_over.specs.Inner.Sums.{sums_from}
use Rattle.solv_over.proofs.places.sums.Given as goal

abbrev pub invariant-loop-number : goal.invariant-loop-number
invariant-loop-number l = l.sums.items ++ sums_from l.sum (drop l.number-index l.numbers) ≡ sums_from 0 l.numbers
