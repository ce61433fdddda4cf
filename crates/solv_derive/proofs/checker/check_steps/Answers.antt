use Rattle.std.proofs.Common.{◌≡◌, ◌∙◌, List, map, take, get_or, sym, ap, arith}
use Rattle.std.specs.Prelude.{ℤ, neg_ℤ, Option}
use Rattle.solv_derive.specs.Logs.{hint_clause, ends_in_conflict, is_good_step}
use Rattle.solv_derive.specs.declared.logs.Hint.{Hint}
use Rattle.solv_derive.proofs.Steps.{bad_next, bad_here, checked_bad}
use Rattle.solv_derive.proofs.checker.check_steps.Goals as goal
use Rattle.solv_derive.proofs.checker.check_steps.Goals.{After-leads_to_conflict}

good_is : (c : After-leads_to_conflict) → c.leads_to_conflict.result ≡ is_good_step c.args.memory.now.rules (map (λ s. s.clause) (take c.loop-i.i c.args.steps.now)) (get_or c.args.steps.now c.loop-i.i c.index-steps-i.result)
good_is c =
    let look : Hint → Option (List ℤ) = hint_clause c.args.memory.now.rules (map (λ s. s.clause) (take c.loop-i.i c.args.steps.now)) in
    c.leads_to_conflict.ensures.same (map neg_ℤ c.held.result.now) c.assume_false.ensures
    ∙ ap (λ v. ends_in_conflict look (map neg_ℤ v) c.held-in-loop-i.result.now) c.held.ensures
    ∙ ap (ends_in_conflict look (map neg_ℤ c.index-steps-i.result.clause)) c.held-in-loop-i.ensures
    ∙ ap (is_good_step c.args.memory.now.rules (map (λ s. s.clause) (take c.loop-i.i c.args.steps.now))) c.index-steps-i.is

pub returns-then-not-leads_to_conflict : goal.returns-then-not-leads_to_conflict
returns-then-not-leads_to_conflict c =
    let d = (goal.at.returns-then-not-leads_to_conflict c).After-leads_to_conflict in
    sym (checked_bad c.args.memory.now.rules c.args.steps.now c.loop-i.i
    (sym c.loop-i.invariant.good ∙ bad_here c.args.memory.now.rules c.args.steps.now c.loop-i.i c.index-steps-i.result (omega arith) (sym (good_is d) ∙ c.if-not-leads_to_conflict.true)))

pub loop-i-preserved : goal.loop-i-preserved
loop-i-preserved c =
    let d = (goal.at.loop-i-preserved c).After-leads_to_conflict in
    record {
      size = grind (arith, c.loop-i.invariant.size);
      upto = c.leads_to_conflict.ensures.upto (map neg_ℤ c.held.result.now) c.assume_false.ensures;
      good = sym (bad_next c.args.memory.now.rules c.args.steps.now c.loop-i.i c.index-steps-i.result (omega arith) (sym (good_is d) ∙ c.if-not-leads_to_conflict.false)) ∙ c.loop-i.invariant.good;
    }
