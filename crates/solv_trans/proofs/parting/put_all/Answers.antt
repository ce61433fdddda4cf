use Rattle.std.proofs.Common.{◌∷◌, [], false, take, get_or}
use Rattle.solv_trans.specs.declared.edges.Link.{Link}
use Rattle.std.proofs.lemmas.Grind.{take_at_read}
use Rattle.solv_trans.proofs.Parted.{link_told, puts_more}
use Rattle.solv_trans.proofs.parting.put_all.Goals as goal

pub put_between-requires-clause-from : goal.put_between-requires-clause-from
put_between-requires-clause-from c =
    let link : Link = get_or c.args.links.now c.loop-link.link-index (record { from = 0; to = 0; pre = false }) in
    c.requires.starts link.from link.to (link_told c.args.links.now c.loop-link.link-index (record { from = 0; to = 0; pre = false }) c.loop-link-test.true)

pub put_between-requires-clause-to : goal.put_between-requires-clause-to
put_between-requires-clause-to c =
    let link : Link = get_or c.args.links.now c.loop-link.link-index (record { from = 0; to = 0; pre = false }) in
    c.requires.ends link.from link.to (link_told c.args.links.now c.loop-link.link-index (record { from = 0; to = 0; pre = false }) c.loop-link-test.true)

pub loop-link-preserved : goal.loop-link-preserved
loop-link-preserved c =
    let link : Link = get_or c.args.links.now c.loop-link.link-index (record { from = 0; to = 0; pre = false }) in
    rw (take_at_read c.args.links.now c.loop-link.link-index (record { from = 0; to = 0; pre = false }) c.loop-link-test.true).1
    (puts_more c.args.parts.now (take c.loop-link.link-index c.args.links.now) (link ∷ []) c.args.edges.now c.loop-link.edges c.put_between.new.edges c.loop-link.invariant c.in_ok-put_between.ensures)
