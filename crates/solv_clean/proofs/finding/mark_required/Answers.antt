use Rattle.std.proofs.Common.{◌<◌, ◌∷◌, [], take, length, refl, arith}
use Rattle.std.proofs.lemmas.Bool.{ltb-true}
use Rattle.solv_pool.specs.Prelude.{Catalog, catalog_of}
use Rattle.solv_clean.specs.Inner.Finding.{serving, serving_need}
use Rattle.solv_clean.specs.Inner.Readiness.{need_below}
use Rattle.solv_clean.proofs.Found.{finds_same, finds_more}
use Rattle.solv_clean.proofs.finding.mark_required.Goals as goal
use Rattle.solv_list.proofs.Lists.{all_get, take_next}

pub mark_serving-requires-clause-held : goal.mark_serving-requires-clause-held
mark_serving-requires-clause-held c =
    let lt : c.loop-need.need-index < length c.args.needs.now = omega arith in
    ltb-true c.need-item.result.dep (length c.args.members.now.task.now.pool.nodes) (all_get (need_below (length c.args.members.now.task.now.pool.nodes)) c.args.needs.now c.loop-need.need-index c.need-item.result c.requires.held lt c.need-item.is)

pub loop-need-preserved : goal.loop-need-preserved
loop-need-preserved c =
    let catalog : Catalog = catalog_of c.args.members.now.task.now in
    let lt : c.loop-need.need-index < length c.args.needs.now = omega arith in (
      rw (take_next c.args.needs.now c.loop-need.need-index c.need-item.result lt c.need-item.is)
          (finds_more c.args.members.now.in_set.now (serving_need catalog) (take c.loop-need.need-index c.args.needs.now) (c.need-item.result ∷ []) c.args.marks.now c.args.found.now.items c.loop-need.marks c.loop-need.found.items c.mark_serving.new.marks c.mark_serving.new.found.items c.loop-need.invariant.0
          (finds_same c.args.members.now.in_set.now (serving catalog) (serving_need catalog) (c.need-item.result.dep ∷ []) (c.need-item.result ∷ []) c.loop-need.marks c.loop-need.found.items c.mark_serving.new.marks c.mark_serving.new.found.items (λ q h. refl) c.in_ok-mark_serving.ensures.found)),
      c.in_ok-mark_serving.ensures.passed,
    )
