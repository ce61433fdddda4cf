use Rattle.std.proofs.Common.{◌≡◌, ◌≤◌, ◌+◌, sum_by, drop}
use Rattle.solv_pool.specs.Prelude.{Catalog}
use Rattle.solv_prov.specs.Index.{IsIndexOf}
use Rattle.solv_rules.specs.Books.{most_words}
use Rattle.solv_leaving.specs.Inner.Fitting.{need_words}
use Rattle.solv_leaving.proofs.fitting.with_needs.Given as goal

abbrev pub invariant-loop-need : goal.invariant-loop-need
invariant-loop-need l = record {
  few : l.sum ≤ most_words;
  whole : (catalog : Catalog) → IsIndexOf l.prov catalog → l.sum + sum_by (need_words catalog) (drop l.need-index l.needs) ≡ l.words + sum_by (need_words catalog) l.needs;
}
