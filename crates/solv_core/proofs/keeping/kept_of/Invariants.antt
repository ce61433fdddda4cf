use Rattle.std.proofs.Common.{◌≡◌}
use Rattle.solv_derive.specs.Inner.Trimming.{is_on}
use Rattle.solv_core.specs.Inner.Holding.{entry_of, numbers_on}
use Rattle.solv_core.proofs.keeping.kept_of.Given as goal

abbrev pub invariant-loop-rule : goal.invariant-loop-rule
invariant-loop-rule l = record { kept : l.kept.items ≡ numbers_on (is_on l.flags) (entry_of l.numbers.kept.items l.numbers.first) 0 l.rule }
