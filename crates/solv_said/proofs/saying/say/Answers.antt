use Rattle.std.proofs.Common.{refl, inr}
use Rattle.solv_said.specs.Runs.{cut_off}
use Rattle.solv_said.proofs.Reported.{all_prefix}
use Rattle.solv_said.proofs.saying.say.Goals as goal

pub returns-in-Err-Failed-put-clause-said : goal.returns-in-Err-Failed-put-clause-said
returns-in-Err-Failed-put-clause-said g c =
    let whole = rw c.held.ensures at c.in-Ok.ensures.whole in
    let prefix = rw c.held-2.ensures at c.in-Err-Failed-put.ensures.prefix in
    cut_off refl (inr (rw c.in-Err-Failed-put.field-0-is at c.in-Err-Failed-put.ensures.faults)) (all_prefix _ _ c.args.due.now.out whole) prefix
