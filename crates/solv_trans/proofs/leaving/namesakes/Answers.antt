use Rattle.std.proofs.Common.{◌∙◌}
use Rattle.solv_pool.specs.Prelude.{catalog_of, same_name}
use Rattle.solv_trans.proofs.Listing.{named_are}
use Rattle.solv_trans.proofs.leaving.namesakes.Goals as goal
use Rattle.solv_pool.proofs.Placed.{packs_of}

pub returns-clause-exact : goal.returns-clause-exact
returns-clause-exact c =
    let catalog = catalog_of c.args.task.now in
    (rw c.name.ensures at (c.of_name.ensures.exact catalog c.requires.index)) ∙ named_are catalog c.args.pack c.package.result c.package.ensures.at

pub returns-clause-within : goal.returns-clause-within
returns-clause-within c = rw (returns-clause-exact c) (packs_of (catalog_of c.args.task.now) (same_name (catalog_of c.args.task.now) c.args.pack))
