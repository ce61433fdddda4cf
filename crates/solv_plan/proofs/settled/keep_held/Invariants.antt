use Rattle.std.proofs.Common.{◌≡◌, ◌≤◌, take, drop}
use Rattle.solv_trail.specs.Inner.Numbers.{has}
use Rattle.solv_plan.proofs.Grouped.{IsKept}
use Rattle.solv_plan.proofs.settled.keep_held.Given as goal

abbrev pub invariant-loop-place : goal.invariant-loop-place
invariant-loop-place l = record {
  group : l.group ≤ l.end;
  end : l.end ≤ l.place;
  behind : drop l.place l.entries ≡ drop l.place l.initial.entries;
  kept : IsKept l.initial.entries (has l.rests) (has l.initial.done) (has l.done) (take l.end l.entries) l.group l.place l.lost;
}
