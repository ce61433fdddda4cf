use Rattle.std.proofs.Common.{◌≡◌, ◌≤◌, ◌+◌, ◌-◌}
use Rattle.std.specs.List.{range_with_len}
use Rattle.solv_pool.specs.Prelude.{catalog_of, packages}
use Rattle.solv_rules.specs.Books.{most_words}
use Rattle.solv_leaving.proofs.Totals.{total}
use Rattle.solv_leaving.specs.Inner.Fitting.{words_at}
use Rattle.solv_leaving.proofs.fitting.all_fit.Given as goal

abbrev pub invariant-loop-before : goal.invariant-loop-before
invariant-loop-before l = record {
  few : l.sum ≤ most_words;
  whole : l.sum + total (words_at (catalog_of l.task) l.left) (range_with_len (l.before + 1) (l.before-end - l.before)) ≡ l.words + total (words_at (catalog_of l.task) l.left) (packages (catalog_of l.task));
}
