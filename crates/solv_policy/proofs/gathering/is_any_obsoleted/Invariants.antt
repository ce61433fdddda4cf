use Rattle.std.proofs.Common.{◌≡◌, true, length, drop}
use Rattle.std.specs.List.{list_all}
use Rattle.solv_pool.specs.Prelude.{is_pack}
use Rattle.solv_policy.proofs.gathering.is_any_obsoleted.Given as goal

abbrev pub invariant-loop-pack : goal.invariant-loop-pack
invariant-loop-pack l = list_all (is_pack (length l.task.universe.packages)) (drop l.pack-index l.list) ≡ true
