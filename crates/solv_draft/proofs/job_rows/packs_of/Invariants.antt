use Rattle.std.proofs.Common.{◌≡◌, ◌++◌, drop}
use Rattle.solv_draft.proofs.job_rows.packs_of.Given as goal

abbrev pub invariant-loop-pack : goal.invariant-loop-pack
invariant-loop-pack l = l.made.items ++ drop l.pack-index l.packs ≡ l.packs
