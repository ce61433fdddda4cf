use Rattle.std.proofs.Common.{Bool, ◌++◌, map, sym, ap, ◌∙◌}
use Rattle.std.specs.Prelude.{ℤ, flat_map}
use Rattle.solv_pool.specs.Prelude.{is_fact}
use Rattle.solv_trail.specs.declared.questions.Question.TheVariants as question
use Rattle.solv_questions.specs.Questions.{first_ask}
use Rattle.solv_plan.specs.Inner.Plans.{demand_queries, keep_queries, want_queries, named_query}
use Rattle.solv_plan.proofs.Joining.{asked_first, asked_later}
use Rattle.solv_plan.proofs.remembering.next_remembering.Goals as goal

pub returns-then-is_some-clause-asked : goal.returns-then-is_some-clause-asked
returns-then-is_some-clause-asked c =
    let known : ℤ → Bool = is_fact c.args.known.now.lits in
    let on = c.args.enabled.now in
    let plan = c.args.plan.now in
    asked_first known (flat_map (demand_queries known on) plan.demands)
    (flat_map (keep_queries known on) plan.keeps ++ (flat_map (want_queries known plan.relations question.Requires) plan.required ++ (flat_map (want_queries known plan.relations question.Recommends) plan.recommended ++ map (named_query known plan.relations) plan.supplements)))
    c.recall_demands-demanded.result (c.recall_demands-demanded.ensures.asked ∙ ap (λ xs. first_ask known (flat_map (demand_queries known on) xs)) c.held.ensures) (sym c.is_some.ensures ∙ c.if-is_some.true)

pub returns-then-is_some-2-clause-asked : goal.returns-then-is_some-2-clause-asked
returns-then-is_some-2-clause-asked c =
    let known : ℤ → Bool = is_fact c.args.known.now.lits in
    let on = c.args.enabled.now in
    let plan = c.args.plan.now in
    let rest = flat_map (want_queries known plan.relations question.Requires) plan.required ++ (flat_map (want_queries known plan.relations question.Recommends) plan.recommended ++ map (named_query known plan.relations) plan.supplements) in
    asked_later known (flat_map (demand_queries known on) plan.demands) (flat_map (keep_queries known on) plan.keeps ++ rest)
    c.recall_demands-demanded.result c.recall_keeps-kept.result (c.recall_demands-demanded.ensures.asked ∙ ap (λ xs. first_ask known (flat_map (demand_queries known on) xs)) c.held.ensures) (sym c.is_some.ensures ∙ c.if-is_some.false)
    (asked_first known (flat_map (keep_queries known on) plan.keeps) rest c.recall_keeps-kept.result (c.recall_keeps-kept.ensures.asked ∙ ap (λ xs. first_ask known (flat_map (keep_queries known on) xs)) c.held-2.ensures) (sym c.is_some-2.ensures ∙ c.if-is_some-2.true))

pub returns-clause-asked : goal.returns-clause-asked
returns-clause-asked c =
    let known : ℤ → Bool = is_fact c.args.known.now.lits in
    let on = c.args.enabled.now in
    let plan = c.args.plan.now in
    let rest = flat_map (want_queries known plan.relations question.Requires) plan.required ++ (flat_map (want_queries known plan.relations question.Recommends) plan.recommended ++ map (named_query known plan.relations) plan.supplements) in
    asked_later known (flat_map (demand_queries known on) plan.demands) (flat_map (keep_queries known on) plan.keeps ++ rest)
    c.recall_demands-demanded.result c.recall_dependencies.result (c.recall_demands-demanded.ensures.asked ∙ ap (λ xs. first_ask known (flat_map (demand_queries known on) xs)) c.held.ensures) (sym c.is_some.ensures ∙ c.if-is_some.false)
    (asked_later known (flat_map (keep_queries known on) plan.keeps) rest c.recall_keeps-kept.result c.recall_dependencies.result (c.recall_keeps-kept.ensures.asked ∙ ap (λ xs. first_ask known (flat_map (keep_queries known on) xs)) c.held-2.ensures) (sym c.is_some-2.ensures ∙ c.if-is_some-2.false)
    c.recall_dependencies.ensures.asked)
