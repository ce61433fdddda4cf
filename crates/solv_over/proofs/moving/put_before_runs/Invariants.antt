use Rattle.std.proofs.Common.{◌≡◌, ◌++◌, map, take, drop}
use Rattle.solv_over.specs.Inner.Places.{put_before, run_at}
use Rattle.solv_over.proofs.moving.put_before_runs.Given as goal

abbrev pub invariant-loop-run : goal.invariant-loop-run
invariant-loop-run l = take l.run-index l.runs ++ map (run_at (put_before l.more)) (drop l.run-index l.runs) ≡ map (run_at (put_before l.more)) l.fn.runs
