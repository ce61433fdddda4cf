use Rattle.std.proofs.Common.{◌∙◌, ap, length}
use Rattle.std.specs.Prelude.{find}
use Rattle.solv_pool.specs.Prelude.{catalog_of, packages}
use Rattle.solv_pool.specs.Providing.{obsoletes}
use Rattle.solv_trans.specs.Inner.Joining.{is_marked}
use Rattle.solv_trans.proofs.Listing.{below_of, find_filter}
use Rattle.solv_trans.proofs.leaving.obsoleter.Goals as goal

pub first_chosen-requires : goal.first_chosen-requires
first_chosen-requires c =
    let catalog = catalog_of c.args.task.now in
    rw (c.obsoleted_by.ensures.exact catalog c.requires.index) (below_of catalog (λ q. obsoletes catalog q c.args.pack) (length c.args.chosen.now) c.requires.each)

pub returns : goal.returns
returns c =
    let catalog = catalog_of c.args.task.now in
    c.first_chosen.ensures
    ∙ ap (find (is_marked c.args.chosen.now)) (c.obsoleted_by.ensures.exact catalog c.requires.index)
    ∙ find_filter (is_marked c.args.chosen.now) (λ q. obsoletes catalog q c.args.pack) (packages catalog)
