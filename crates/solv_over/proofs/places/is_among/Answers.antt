use Rattle.std.proofs.Common.{sym}
use Rattle.solv_over.proofs.Ascending.{found_among, missed_among}
use Rattle.solv_over.proofs.places.is_among.Goals as goal

pub returns-in-Ok : goal.returns-in-Ok
returns-in-Ok c = sym (found_among c.args.packs.now c.args.pack c.in-Ok.field-0 c.requires c.in-Ok.ensures.position)

pub returns-in-Err : goal.returns-in-Err
returns-in-Err c = sym (missed_among c.args.packs.now c.args.pack c.in-Err.field-0 c.requires c.in-Err.ensures.position)
