use Rattle.solv_trans.proofs.Parted.{puts_one}
use Rattle.solv_trans.proofs.parting.put_between.Goals as goal

pub returns : goal.returns
returns c =
    puts_one c.args.parts.now c.requires.rising c.args.link.now c.place_of-from.result c.place_of-to.result c.place_of-from.ensures.below c.place_of-to.ensures.below c.place_of-from.ensures.there c.place_of-to.ensures.there c.args.edges.now c.add_edge.new.edges
    c.in_ok-add_edge.ensures.size c.in_ok-add_edge.ensures.pre_size c.in_ok-add_edge.ensures.all c.in_ok-add_edge.ensures.pre
