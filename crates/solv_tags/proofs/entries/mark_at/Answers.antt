use Rattle.solv_tags.proofs.Noted.{marked}
use Rattle.solv_tags.proofs.entries.mark_at.Goals as goal

pub returns : goal.returns
returns c = rw c.also_pre.ensures (marked c.args.dep c.args.pre c.args.place c.args.needs.now c.index-needs-place.result c.index-needs-place.is c.requires.once)
