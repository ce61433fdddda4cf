use Rattle.solv_rich.specs.Inner.Expansions.{clauses_in}
use Rattle.solv_rich.proofs.Numbered.{crosses}
use Rattle.solv_rich.proofs.Counted.{crossed_is}
use Rattle.solv_rich.proofs.expansion.numbers_of.Goals as goal

pub nonzero_div-result : goal.nonzero_div-result
nonzero_div-result c = (crossed_is c.args.first.now c.args.second.now c.args.count c.args.number c.requires.counted c.requires.few c.requires.there).some

pub nonzero_rem-result : goal.nonzero_rem-result
nonzero_rem-result c = (crossed_is c.args.first.now c.args.second.now c.args.count c.args.number c.requires.counted c.requires.few c.requires.there).some

pub returns : goal.returns
returns c = crosses (clauses_in c.args.first.now) (clauses_in c.args.second.now) c.args.count c.args.number (crossed_is c.args.first.now c.args.second.now c.args.count c.args.number c.requires.counted c.requires.few c.requires.there)
