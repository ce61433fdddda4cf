use Rattle.std.proofs.Common.{◌≡◌, ◌≤◌, ◌+◌, drop}
use Rattle.solv_pool.specs.Prelude.{Catalog}
use Rattle.solv_prov.specs.Index.{IsIndexOf}
use Rattle.solv_over.specs.Inner.Sums.{needed_clauses}
use Rattle.solv_over.proofs.places.needed_clauses.Given as goal

abbrev pub invariant-loop-need : goal.invariant-loop-need
invariant-loop-need l = record {
  few : l.clauses ≤ l.need-index;
  whole : (catalog : Catalog) → IsIndexOf l.prov catalog → l.clauses + needed_clauses catalog l.pack (drop l.need-index l.needs) ≡ needed_clauses catalog l.pack l.needs;
}
