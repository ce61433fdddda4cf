use Rattle.std.proofs.Common.{◌∙◌, ap}
use Rattle.solv_pool.specs.Prelude.{is_among}
use Rattle.solv_remedy.proofs.Shown.{table_is}
use Rattle.solv_remedy.proofs.showing.inside.Goals as goal

pub returns : goal.returns
returns c = λ over.
    table_is c.args.trail.now.events c.in_ok-packs.packs.items c.args.count c.in_ok-table.table.items c.in_ok-packs.ensures over c.in_ok-table.ensures.size (λ p less. c.in_ok-table.ensures.on p less ∙ ap (λ l. is_among l p) c.deref.ensures.value)
