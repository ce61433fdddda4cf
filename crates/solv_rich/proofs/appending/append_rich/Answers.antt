use Rattle.std.proofs.Common.{◌∙◌, ap, length}
use Rattle.std.specs.List.{list_all}
use Rattle.solv_pool.specs.Prelude.{Catalog, catalog_of, dependency}
use Rattle.solv_rich.specs.Inner.Shortening.{has_number}
use Rattle.solv_rich.proofs.Appended.{numbered}
use Rattle.solv_rich.proofs.appending.append_rich.Goals as goal

pub append_all-requires-clause-few : goal.append_all-requires-clause-few
append_all-requires-clause-few c =
    rw (ap length c.in_ok-expansion.ensures.clauses_are) c.requires.few

pub append_all-requires-clause-numbers : goal.append_all-requires-clause-numbers
append_all-requires-clause-numbers c =
    let catalog : Catalog = catalog_of c.args.task.now in
    ap (list_all (list_all has_number)) c.in_ok-expansion.ensures.clauses_are ∙ numbered catalog c.args.except.now c.args.positive (dependency catalog c.args.dep) c.marks_each.ensures.packages_fit
