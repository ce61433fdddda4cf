use Rattle.std.proofs.Common.{◌≡◌, ℕ, ◌<◌, List, length}
use Rattle.std.specs.Prelude.{ℤ}
use Rattle.solv_derive.specs.Inner.Trimming.{is_on}
use Rattle.solv_core.specs.Ledgers.{rests_on_enabled}
use Rattle.solv_core.specs.Inner.Holding.{entry_of}
use Rattle.solv_core.proofs.keeping.flags_of.Given as goal

abbrev pub invariant-loop-rule : goal.invariant-loop-rule
invariant-loop-rule l = record {
  size : length l.flags.items ≡ l.rule;
  room : length l.on.items ≡ length l.entries;
  each : (clauses : List (List ℤ)) → length l.used.owners.now ≡ length clauses → (r : ℕ) → r < l.rule → is_on l.flags.items r ≡ rests_on_enabled clauses l.used.owners.now l.used.enabled.now l.entries (entry_of l.numbers.kept.items l.numbers.first r);
  noted : (clauses : List (List ℤ)) → length l.used.owners.now ≡ length clauses → (r : ℕ) → r < l.rule → is_on l.on.items (entry_of l.numbers.kept.items l.numbers.first r) ≡ rests_on_enabled clauses l.used.owners.now l.used.enabled.now l.entries (entry_of l.numbers.kept.items l.numbers.first r);
}
