use Rattle.std.proofs.Common.{◌≡◌, ◌-◌, ◌≤◌, true}
use Rattle.std.specs.Prelude.{flat_map, filter}
use Rattle.solv_pool.specs.Prelude.{is_fact}
use Rattle.solv_questions.specs.Questions.{first_ask}
use Rattle.solv_plan.specs.Inner.Plans.{question_of, want_queries}
use Rattle.solv_plan.specs.Inner.Entries.{are_right}
use Rattle.solv_plan.specs.Inner.Settling.{wants_settled, Fits}
use Rattle.solv_plan.proofs.Recalled.{from_pack}
use Rattle.solv_plan.proofs.remembering.recall_wants_above.Given as goal

abbrev pub invariant-loop-number : goal.invariant-loop-number
invariant-loop-number l = record {
  right : are_right (wants_settled l.relations l.wants) l.settled ≡ true;
  fits : Fits (is_fact l.known.lits) l.settled;
  some : 1 ≤ l.from;
  left : first_ask (is_fact l.known.lits) (flat_map (want_queries (is_fact l.known.lits) l.relations (question_of l.asking)) (filter (from_pack l.from) l.wants)) ≡ first_ask (is_fact l.known.lits) (flat_map (want_queries (is_fact l.known.lits) l.relations (question_of l.asking)) (filter (from_pack 1) l.wants));
}

abbrev pub decreases-loop-number : goal.decreases-loop-number
decreases-loop-number l = 2147483648 - l.from
