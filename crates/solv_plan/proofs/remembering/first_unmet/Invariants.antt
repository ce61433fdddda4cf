use Rattle.std.proofs.Common.{◌≡◌, ◌-◌, ◌≤◌, true}
use Rattle.solv_pool.specs.Prelude.{is_fact}
use Rattle.solv_plan.specs.Inner.Entries.{are_right}
use Rattle.solv_plan.specs.Inner.Settling.{wants_settled, Fits, AreMetBelow}
use Rattle.solv_plan.proofs.remembering.first_unmet.Given as goal

abbrev pub invariant-loop-number : goal.invariant-loop-number
invariant-loop-number l = record {
  right : are_right (wants_settled l.relations l.wants) l.settled ≡ true;
  fits : Fits (is_fact l.known.lits) l.settled;
  some : 1 ≤ l.from;
  below : AreMetBelow l.relations l.wants l.known.lits l.from;
}

abbrev pub decreases-loop-number : goal.decreases-loop-number
decreases-loop-number l = 2147483648 - l.from
