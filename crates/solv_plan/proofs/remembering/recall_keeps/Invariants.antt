use Rattle.std.proofs.Common.{◌≡◌, ◌-◌, true, length, drop}
use Rattle.std.specs.Prelude.{flat_map}
use Rattle.solv_pool.specs.Prelude.{is_fact}
use Rattle.solv_questions.specs.Questions.{first_ask}
use Rattle.solv_plan.specs.Inner.Plans.{keep_queries}
use Rattle.solv_plan.specs.Inner.Entries.{are_right}
use Rattle.solv_plan.specs.Inner.Settling.{keeps_settled, keeps_quiet, Fits, AreQuiet}
use Rattle.solv_plan.proofs.remembering.recall_keeps.Given as goal

abbrev pub invariant-loop-place : goal.invariant-loop-place
invariant-loop-place l = record {
  right : are_right (keeps_settled l.keeps) l.settled ≡ true;
  fits : Fits (is_fact l.known.lits) l.settled;
  quiet : AreQuiet (keeps_quiet (is_fact l.known.lits) l.keeps) l.quiet;
  left : first_ask (is_fact l.known.lits) (flat_map (keep_queries (is_fact l.known.lits) l.enabled) (drop l.place l.keeps)) ≡ first_ask (is_fact l.known.lits) (flat_map (keep_queries (is_fact l.known.lits) l.enabled) l.keeps);
}

abbrev pub decreases-loop-place : goal.decreases-loop-place
decreases-loop-place l = length l.keeps - l.place
