use Rattle.std.proofs.Common.{◌∙◌, ap, length}
use Rattle.std.specs.List.{list_all}
use Rattle.solv_pool.specs.Prelude.{catalog_of, is_pack}
use Rattle.solv_pool.specs.Updates.{is_feature}
use Rattle.solv_updates.proofs.replacing.dup.Goals as goal
use Rattle.solv_pool.proofs.Placed.{packs_of}

pub may_stay-requires-clause-within : goal.may_stay-requires-clause-within
may_stay-requires-clause-within c =
    ap (λ t. list_all (is_pack (length c.args.task.now.universe.packages)) t) (c.deref.ensures.value ∙ c.in_ok-features.ensures)
    ∙ packs_of (catalog_of c.args.task.now) (is_feature (catalog_of c.args.task.now) c.args.marks.now c.args.pack)
