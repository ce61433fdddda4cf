use Rattle.solv_list.proofs.Layouts.{piece_at}
use Rattle.solv_list.proofs.rows.row_of.Goals as goal

pub returns : goal.returns
returns g c = rw (c.place-start.ensures.start, c.place-start.ensures.end) (piece_at c.args.items.now 0 c.args.ends.now c.args.row c.requires.held)
