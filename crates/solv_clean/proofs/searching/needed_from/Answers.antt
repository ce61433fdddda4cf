use Rattle.std.proofs.Common.{◌∙◌, ap}
use Rattle.solv_pool.specs.Prelude.{catalog_of}
use Rattle.solv_clean.specs.Inner.Tables.{is_marked}
use Rattle.solv_clean.proofs.Walked.{cut_are}
use Rattle.solv_clean.proofs.searching.needed_from.Goals as goal

pub returns : goal.returns
returns c q =
    ap (λ t. is_marked t q) c.truncate.ensures.items
    ∙ cut_are (catalog_of c.args.task.now) c.args.in_set.now c.requires.each c.reached_is_where_walks_lead.ensures c.args.starts.now c.requires.inside c.in_ok-marks.marks.items c.in_ok-marks.ensures q
