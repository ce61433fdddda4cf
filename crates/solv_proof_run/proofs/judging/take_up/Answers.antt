use Rattle.std.proofs.Common.{rules}
use Rattle.solv_rounds.proofs.FirstLimits.{memory_alone}
use Rattle.solv_script.specs.Rounds.{tasks}
use Rattle.solv_proof_run.proofs.judging.take_up.Goals as goal

pub unreachable-requires : goal.unreachable-requires
unreachable-requires c =
    let only = memory_alone (tasks c.args.script.now) c.args.place c.in-Err.field-0 c.requires.ready.fits c.in-Err.ensures.fault in
    search (rules, only)
