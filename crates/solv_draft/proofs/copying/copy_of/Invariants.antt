use Rattle.std.proofs.Common.{◌≡◌, take}
use Rattle.solv_draft.proofs.copying.copy_of.Given as goal

abbrev pub invariant-loop-dep : goal.invariant-loop-dep
invariant-loop-dep l = l.copy ≡ record { names = l.pool.names; nodes = take l.dep l.pool.nodes }
