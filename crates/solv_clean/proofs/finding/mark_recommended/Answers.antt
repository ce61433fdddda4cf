use Rattle.std.proofs.Common.{◌<◌, ◌∷◌, [], take, length, refl, arith}
use Rattle.std.proofs.lemmas.Bool.{ltb-true}
use Rattle.solv_pool.specs.Prelude.{Catalog, catalog_of}
use Rattle.solv_clean.specs.Inner.Finding.{serving}
use Rattle.solv_clean.specs.Inner.Readiness.{dep_below}
use Rattle.solv_clean.proofs.Found.{finds_same, finds_more}
use Rattle.solv_clean.proofs.finding.mark_recommended.Goals as goal
use Rattle.solv_list.proofs.Lists.{all_get, take_next}

pub mark_serving-requires-clause-held : goal.mark_serving-requires-clause-held
mark_serving-requires-clause-held c =
    let lt : c.loop-dep.dep-index < length c.args.deps.now = omega arith in
    ltb-true c.dep-item.result (length c.args.members.now.task.now.pool.nodes) (all_get (dep_below (length c.args.members.now.task.now.pool.nodes)) c.args.deps.now c.loop-dep.dep-index c.dep-item.result c.requires.held lt c.dep-item.is)

pub loop-dep-preserved : goal.loop-dep-preserved
loop-dep-preserved c =
    let catalog : Catalog = catalog_of c.args.members.now.task.now in
    let lt : c.loop-dep.dep-index < length c.args.deps.now = omega arith in (
      rw (take_next c.args.deps.now c.loop-dep.dep-index c.dep-item.result lt c.dep-item.is)
          (finds_more c.args.members.now.in_set.now (serving catalog) (take c.loop-dep.dep-index c.args.deps.now) (c.dep-item.result ∷ []) c.args.marks.now c.args.found.now.items c.loop-dep.marks c.loop-dep.found.items c.mark_serving.new.marks c.mark_serving.new.found.items c.loop-dep.invariant.0
          (finds_same c.args.members.now.in_set.now (serving catalog) (serving catalog) (c.dep-item.result ∷ []) (c.dep-item.result ∷ []) c.loop-dep.marks c.loop-dep.found.items c.mark_serving.new.marks c.mark_serving.new.found.items (λ q h. refl) c.in_ok-mark_serving.ensures.found)),
      c.in_ok-mark_serving.ensures.passed,
    )
