use Rattle.std.proofs.Common.{◌≡◌, ℕ, ◌<◌, length}
use Rattle.solv_derive.specs.Inner.Trimming.{numbered_by}
use Rattle.solv_core.specs.Inner.Holding.{entry_of}
use Rattle.solv_core.proofs.refutation.places_of.Given as goal

abbrev pub invariant-loop-rule : goal.invariant-loop-rule
invariant-loop-rule l = record {
  size : length l.places.items ≡ l.entries;
  placed : (r : ℕ) → r < l.rule → numbered_by l.places.items (entry_of l.numbers.kept.items l.numbers.first r) ≡ r;
}
