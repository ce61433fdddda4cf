use Rattle.std.proofs.Common.{◌≡◌, ◌-◌, ◌∷◌, [], true, length, drop}
use Rattle.std.specs.Prelude.{flat_map}
use Rattle.solv_pool.specs.Prelude.{is_fact}
use Rattle.solv_questions.specs.Questions.{first_ask}
use Rattle.solv_plan.specs.Inner.Plans.{named_query}
use Rattle.solv_plan.specs.Inner.Entries.{are_right}
use Rattle.solv_plan.specs.Inner.Settling.{names_settled, Fits}
use Rattle.solv_plan.proofs.remembering.recall_names.Given as goal

abbrev pub invariant-loop-place : goal.invariant-loop-place
invariant-loop-place l = record {
  right : are_right (names_settled l.names) l.settled ≡ true;
  fits : Fits (is_fact l.known.lits) l.settled;
  left : first_ask (is_fact l.known.lits) (flat_map (λ named. named_query (is_fact l.known.lits) l.relations named ∷ []) (drop l.place l.names)) ≡ first_ask (is_fact l.known.lits) (flat_map (λ named. named_query (is_fact l.known.lits) l.relations named ∷ []) l.names);
}

abbrev pub decreases-loop-place : goal.decreases-loop-place
decreases-loop-place l = length l.names - l.place
