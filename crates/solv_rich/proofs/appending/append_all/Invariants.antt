use Rattle.std.proofs.Common.{◌≡◌, ◌++◌, drop, take, length}
use Rattle.std.specs.Prelude.{flat_map}
use Rattle.solv_pool.specs.Prelude.{kept, in_numbers}
use Rattle.solv_rich.specs.Inner.Counts.{ends_behind}
use Rattle.solv_rich.specs.Inner.Expansions.{clauses_in}
use Rattle.solv_rich.proofs.appending.append_all.Given as goal

abbrev pub invariant-loop-number : goal.invariant-loop-number
invariant-loop-number l = record {
  lits : l.lits.items ++ flat_map (λ c. c) (in_numbers (kept (drop l.number (clauses_in l.expansion)))) ≡ l.fn.lits.items ++ flat_map (λ c. c) (in_numbers (kept (clauses_in l.expansion)));
  ends : l.ends.items ++ ends_behind (length l.lits.items) (in_numbers (kept (drop l.number (clauses_in l.expansion)))) ≡ l.fn.ends.items ++ ends_behind (length l.fn.lits.items) (in_numbers (kept (clauses_in l.expansion)));
  kept_lits : take (length l.fn.lits.items) l.lits.items ≡ l.fn.lits.items;
  kept_ends : take (length l.fn.ends.items) l.ends.items ≡ l.fn.ends.items;
}
