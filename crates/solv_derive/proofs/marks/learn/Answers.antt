use Rattle.solv_derive.proofs.Tables.{shows_learn}
use Rattle.solv_derive.proofs.marks.learn.Goals as goal

pub returns : goal.returns
returns c = λ facts h. rw c.place.ensures.number (shows_learn c.args.count c.args.marks.now c.args.now facts c.args.lit c.requires.over h)
