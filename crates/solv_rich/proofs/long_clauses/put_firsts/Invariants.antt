use Rattle.std.proofs.Common.{◌≡◌, ◌++◌, [], true, drop, take, map, length}
use Rattle.std.specs.List.{list_all}
use Rattle.solv_pool.specs.Prelude.{number_of}
use Rattle.solv_rich.specs.Inner.Expansions.{literal_of}
use Rattle.solv_rich.specs.Inner.LongClauses.{IsSetOf}
use Rattle.solv_rich.specs.Inner.Shortening.{has_number, each_first}
use Rattle.solv_rich.proofs.long_clauses.put_firsts.Given as goal

abbrev pub invariant-loop-each : goal.invariant-loop-each
invariant-loop-each l = record {
  numbers : list_all has_number (map literal_of (drop l.each-index l.said)) ≡ true;
  seen : IsSetOf l.set (map literal_of (take l.each-index l.said));
  same : l.lits.items ++ map number_of (each_first (map literal_of (take l.each-index l.said)) (map literal_of (drop l.each-index l.said))) ≡ l.fn.lits.items ++ map number_of (each_first [] (map literal_of l.said));
  kept : take (length l.fn.lits.items) l.lits.items ≡ l.fn.lits.items;
}
