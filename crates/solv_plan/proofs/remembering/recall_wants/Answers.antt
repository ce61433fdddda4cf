use Rattle.std.proofs.Common.{◌≡◌, ℕ, Bool, List, Option, sym, ap, ◌∙◌}
use Rattle.std.specs.Prelude.{ℤ, flat_map, filter}
use Rattle.solv_pool.specs.Prelude.{is_fact}
use Rattle.solv_questions.specs.Questions.{first_ask}
use Rattle.solv_plan.specs.declared.plans.Relations.{Relations}
use Rattle.solv_plan.specs.declared.plans.Want.{Want}
use Rattle.solv_plan.specs.Inner.Plans.{question_of, want_queries}
use Rattle.std.specs.Option.{option_or}
use Rattle.solv_trail.specs.declared.questions.Ask.{Ask}
use Rattle.solv_trail.specs.declared.questions.Question.{Question}
use Rattle.solv_plan.proofs.Joining.{found_first, found_later}
use Rattle.solv_plan.proofs.Recalled.{from_pack, from_nothing, one_package}
use Rattle.solv_plan.proofs.remembering.recall_wants.Goals as goal
use Rattle.solv_plan.proofs.remembering.recall_wants.Goals.{After-ask_each-ask}

-- what the system asks for, or what the packages do
all_is : (c : After-ask_each-ask) → option_or c.ask_each-ask.result (first_ask (is_fact c.args.known.now.lits) (flat_map (want_queries (is_fact c.args.known.now.lits) c.args.relations.now (question_of c.args.asking)) (filter (from_pack 1) c.args.wants.now)))
    ≡ first_ask (is_fact c.args.known.now.lits) (flat_map (want_queries (is_fact c.args.known.now.lits) c.args.relations.now (question_of c.args.asking)) c.args.wants.now)
all_is c =
    let known : ℤ → Bool = is_fact c.args.known.now.lits in
    let relations : Relations = c.args.relations.now in
    let asking : ℕ → ℕ → Question = question_of c.args.asking in
    let ws : List Want = c.args.wants.now in
    let rest : Option Ask = first_ask known (flat_map (want_queries known relations asking) (filter (from_pack 1) ws)) in
    ap (λ a. option_or a rest) (c.ask_each-ask.ensures ∙ ap (λ l. first_ask known (flat_map (want_queries known relations asking) l)) c.of.ensures)
    ∙ sym (one_package known relations asking ws c.rise.ensures 0) ∙ ap (λ l. first_ask known (flat_map (want_queries known relations asking) l)) (from_nothing ws)

pub returns-then-is_some-clause-asked : goal.returns-then-is_some-clause-asked
returns-then-is_some-clause-asked c =
    let d = (goal.at.returns-then-is_some-clause-asked c).After-ask_each-ask in
    found_first c.ask_each-ask.result _ (sym c.is_some.ensures ∙ c.if-is_some.true) ∙ all_is d

pub returns-clause-asked : goal.returns-clause-asked
returns-clause-asked c =
    let d = (goal.at.returns-clause-asked c).After-ask_each-ask in
    found_later c.ask_each-ask.result c.recall_wants_from.result (sym c.is_some.ensures ∙ c.if-is_some.false) ∙ ap (option_or c.ask_each-ask.result) c.recall_wants_from.ensures.asked ∙ all_is d
