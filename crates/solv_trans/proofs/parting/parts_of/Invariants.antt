use Rattle.std.proofs.Common.{◌≡◌, ◌≤◌, length, filter}
use Rattle.solv_graph.specs.Classes.{numbers}
use Rattle.solv_graph.specs.Inner.Orders.{part_of}
use Rattle.solv_trans.proofs.parting.parts_of.Given as goal

abbrev pub invariant-loop-pack : goal.invariant-loop-pack
invariant-loop-pack l = record {
  few : length l.parts.items ≤ l.pack;
  parts : l.parts.items ≡ filter (part_of l.turns) (numbers l.pack);
}
