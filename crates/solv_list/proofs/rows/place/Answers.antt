use Rattle.solv_list.proofs.Layouts.{piece_within}
use Rattle.solv_list.proofs.rows.place.Goals as goal

pub returns-clause-forward : goal.returns-clause-forward
returns-clause-forward c = rw c.begin.ensures (piece_within 0 c.args.ends.now c.args.items c.args.row c.requires.in_order c.requires.held).forward

pub returns-clause-inside : goal.returns-clause-inside
returns-clause-inside c = (piece_within 0 c.args.ends.now c.args.items c.args.row c.requires.in_order c.requires.held).inside
