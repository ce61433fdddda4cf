use Rattle.std.proofs.Common.{◌≤◌, ◌+◌, ◌-◌}
use Rattle.solv_remedy.specs.Inner.Correcting.{open_count, KeepsParted}
use Rattle.solv_remedy.specs.Inner.Runs.{MayRun, HasRun}
use Rattle.solv_remedy.proofs.correcting.correct.Given as goal

abbrev pub invariant-loop-left : goal.invariant-loop-left
invariant-loop-left l = record {
  may_run : MayRun l.setting l.core l.ledger;
  has_run : HasRun l.setting (((open_count l.initial.parted - open_count l.parted) + (open_count l.initial.parted - open_count l.parted)) + (open_count l.initial.parted - open_count l.parted)) l.initial.core l.core l.initial.ledger l.ledger;
  few : open_count l.parted ≤ open_count l.initial.parted;
  kept : KeepsParted l.setting l.initial.core.made l.initial.parted l.parted;
}

abbrev pub decreases-loop-left : goal.decreases-loop-left
decreases-loop-left l = open_count l.parted
