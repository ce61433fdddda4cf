use Rattle.std.proofs.Common.{◌≡◌, ◌++◌}
use Rattle.solv_prov.specs.Inner.Groups.{group_at}
use Rattle.solv_prov.proofs.groups.Groups.listed.Given as goal

abbrev pub invariant-loop-value : goal.invariant-loop-value
invariant-loop-value g l = record {
  callable : (goal.iterator-loop-value g).can_next l.value-iterator;
  ends : (goal.iterator-loop-value g).is_finite l.value-iterator;
  left : l.list.items ++ l.value-iterator ≡ group_at l.fn.self l.fn.group;
}
