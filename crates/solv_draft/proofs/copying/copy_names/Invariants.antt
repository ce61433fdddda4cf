use Rattle.std.proofs.Common.{◌≡◌, [], take}
use Rattle.solv_draft.proofs.copying.copy_names.Given as goal

abbrev pub invariant-loop-name : goal.invariant-loop-name
invariant-loop-name l = l.copy ≡ record { names = take l.name l.pool.names; nodes = [] }
