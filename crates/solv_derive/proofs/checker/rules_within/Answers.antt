use Rattle.std.proofs.Common.{◌+◌, ◌∙◌, sym, ap, ◌&&◌, drop}
use Rattle.solv_pool.specs.Prelude.{are_over}
use Rattle.solv_derive.proofs.Hints.{over_next}
use Rattle.solv_derive.proofs.checker.rules_within.Goals as goal

pub returns-then-not-clause_within : goal.returns-then-not-clause_within
returns-then-not-clause_within c =
    let i = c.loop-rule.rule in
    sym (sym c.loop-rule.invariant ∙ over_next c.args.count c.args.memory.now.rules i c.lits.result.now c.lits.ensures.held
    ∙ ap (λ b. b && are_over c.args.count (drop (i + 1) c.args.memory.now.rules)) (sym c.clause_within.ensures ∙ c.if-not-clause_within.true))

pub loop-rule-preserved : goal.loop-rule-preserved
loop-rule-preserved c =
    let i = c.loop-rule.rule in
    sym (over_next c.args.count c.args.memory.now.rules i c.lits.result.now c.lits.ensures.held
    ∙ ap (λ b. b && are_over c.args.count (drop (i + 1) c.args.memory.now.rules)) (sym c.clause_within.ensures ∙ c.if-not-clause_within.false))
    ∙ c.loop-rule.invariant
