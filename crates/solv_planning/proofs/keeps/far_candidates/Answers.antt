use Rattle.std.proofs.Common.{◌∙◌, ◌||◌, not, length, ap}
use Rattle.std.specs.Prelude.{◌==◌}
use Rattle.std.specs.List.{list_all}
use Rattle.solv_pool.specs.Prelude.{catalog_of, is_pack, is_among}
use Rattle.solv_pool.specs.Updates.{is_feature}
use Rattle.solv_planning.proofs.keeps.far_candidates.Goals as goal
use Rattle.solv_list.proofs.Lists.{list_all_filter}
use Rattle.solv_pool.proofs.Placed.{packs_of}

pub in_order-requires-clause-within : goal.in_order-requires-clause-within
in_order-requires-clause-within c =
    ap (λ t. list_all (is_pack (length c.args.ready.now.task.now.universe.packages)) t) (c.deref-2.ensures.value ∙ c.in_ok-rest.ensures)
    ∙ list_all_filter (is_pack (length c.args.ready.now.task.now.universe.packages)) (λ q. not (is_among c.args.close.now q)) c.deref.result.now
    (ap (λ t. list_all (is_pack (length c.args.ready.now.task.now.universe.packages)) t) (c.deref.ensures.value ∙ c.in_ok-features.ensures)
    ∙ packs_of (catalog_of c.args.ready.now.task.now) (λ q. (q == c.args.pack) || is_feature (catalog_of c.args.ready.now.task.now) c.args.ready.now.marks.now c.args.pack q))
