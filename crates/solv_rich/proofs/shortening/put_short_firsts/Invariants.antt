use Rattle.std.proofs.Common.{◌≡◌, ◌++◌, [], true, drop, take, map, length}
use Rattle.std.specs.List.{list_all}
use Rattle.solv_pool.specs.Prelude.{number_of}
use Rattle.solv_rich.specs.Inner.Expansions.{literal_of}
use Rattle.solv_rich.specs.Inner.Shortening.{has_number, each_first}
use Rattle.solv_rich.proofs.shortening.put_short_firsts.Given as goal

abbrev pub invariant-loop-place : goal.invariant-loop-place
invariant-loop-place l = record {
  numbers : list_all has_number (map literal_of (drop l.place l.said)) ≡ true;
  same : l.lits.items ++ map number_of (each_first (map literal_of (take l.place l.said)) (map literal_of (drop l.place l.said))) ≡ l.fn.lits.items ++ map number_of (each_first [] (map literal_of l.said));
  kept : take (length l.fn.lits.items) l.lits.items ≡ l.fn.lits.items;
}
