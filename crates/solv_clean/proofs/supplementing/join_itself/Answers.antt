use Rattle.solv_pool.specs.Prelude.{catalog_of}
use Rattle.solv_clean.proofs.supplementing.join_itself.Goals as goal

pub returns : goal.returns
returns c =
    let exact = c.of.ensures.exact (catalog_of c.args.members.now.task.now) c.args.members.now.index in
    rw (exact, c.vertex_of-to.ensures) at c.in_ok-join_all_from.ensures
