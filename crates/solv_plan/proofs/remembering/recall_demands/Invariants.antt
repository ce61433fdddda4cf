use Rattle.std.proofs.Common.{◌≡◌, ◌-◌, true, length, drop}
use Rattle.std.specs.Prelude.{flat_map}
use Rattle.solv_pool.specs.Prelude.{is_fact}
use Rattle.solv_questions.specs.Questions.{first_ask}
use Rattle.solv_plan.specs.Inner.Plans.{demand_queries}
use Rattle.solv_plan.specs.Inner.Entries.{are_right}
use Rattle.solv_plan.specs.Inner.Settling.{demands_settled, demands_quiet, Fits, AreQuiet}
use Rattle.solv_plan.proofs.remembering.recall_demands.Given as goal

abbrev pub invariant-loop-place : goal.invariant-loop-place
invariant-loop-place l = record {
  right : are_right (demands_settled l.demands) l.settled ≡ true;
  fits : Fits (is_fact l.known.lits) l.settled;
  quiet : AreQuiet (demands_quiet (is_fact l.known.lits) l.demands) l.quiet;
  left : first_ask (is_fact l.known.lits) (flat_map (demand_queries (is_fact l.known.lits) l.enabled) (drop l.place l.demands)) ≡ first_ask (is_fact l.known.lits) (flat_map (demand_queries (is_fact l.known.lits) l.enabled) l.demands);
}

abbrev pub decreases-loop-place : goal.decreases-loop-place
decreases-loop-place l = length l.demands - l.place
