use Rattle.solv_deps.specs.Inner.Recent.{IsRead}
use Rattle.solv_deps.proofs.Recents.{written_keeps}
use Rattle.solv_deps.proofs.recent.Recent.keep.Goals as goal

pub returns-then-at-len-2 : goal.returns-then-at-len-2
returns-then-at-len-2 c = λ pool are read below. written_keeps (IsRead pool) c.args.self.now.rows.items c.args.spot.at c.row_of.result (c.row_of.ensures pool read below) are
