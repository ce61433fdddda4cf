use Rattle.std.proofs.Common.{◌≡◌, sym, rules}
use Rattle.solv_pool.specs.Prelude.{text_at}
use Rattle.solv_prov.proofs.Meeting.{meets-same}
use Rattle.solv_prov.proofs.capability.evr_ids_meet.Goals as goal

pub returns-then-wanted : goal.returns-then-wanted
returns-then-wanted c =
    let same : c.args.have ≡ c.args.want = search rules in
    rw (← same)
    (sym (meets-same c.args.provided (text_at c.args.pool.now c.args.have) c.args.wanted (c.evr_order_is_total.ensures.reflexive (text_at c.args.pool.now c.args.have)) c.if-provided.true c.if-wanted.true))
