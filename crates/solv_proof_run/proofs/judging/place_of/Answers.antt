use Rattle.std.proofs.Common.{rules}
use Rattle.solv_proof_run.proofs.Judged.{no_place, place_is}
use Rattle.solv_proof_run.proofs.judging.place_of.Goals as goal

pub returns-clause-some : goal.returns-clause-some
returns-clause-some c = place_is c.args.script.now c.args.round (search rules) (search rules)

pub returns-then-place-len-clause-none : goal.returns-then-place-len-clause-none
returns-then-place-len-clause-none c = no_place c.args.script.now c.args.round (search rules) (search rules)
