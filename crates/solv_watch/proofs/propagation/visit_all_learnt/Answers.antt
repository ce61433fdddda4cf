use Rattle.std.proofs.Common.{◌≡◌, ◌<◌, ℕ, inl, inr, refl, ◌∙◌, subst, arith, length}
use Rattle.std.proofs.lemmas.Bool.{cases_lt}
use Rattle.solv_trail.specs.Inner.Propagated.{IsUsed, IsGrown}
use Rattle.solv_watch.specs.Inner.Watching.{always}
use Rattle.solv_watch.proofs.Keeping.{part_any, held_satisfied, grown_then}
use Rattle.solv_watch.proofs.Walks.{used_among}
use Rattle.solv_watch.proofs.propagation.visit_all_learnt.Goals as goal
use Rattle.solv_list.proofs.Lists.{place_there}

pub returns-then-not-visit_learnt-clause-grown : goal.returns-then-not-visit_learnt-clause-grown
returns-then-not-visit_learnt-clause-grown c = λ all used part.
    grown_then all used c.args.known.now c.loop-rule.known c.visit_learnt.new.known (c.loop-rule.invariant.grown all used part) (c.visit_learnt.ensures.grown all used part)

pub returns-then-not-visit_learnt-clause-clash : goal.returns-then-not-visit_learnt-clause-clash
returns-then-not-visit_learnt-clause-clash c = λ all used part.
    let f = c.if-not-visit_learnt.ensures.falsified refl in
    (f.0, used_among all used c.args.base c.args.rules.now.rules always part c.loop-rule.rule f.0 f.1, f.2)

pub loop-rule-preserved : goal.loop-rule-preserved
loop-rule-preserved c =
    let p = part_any c.args.base c.args.rules.now.rules in
    let g : IsGrown p.0 always c.loop-rule.known c.visit_learnt.new.known = c.visit_learnt.ensures.grown p.0 always p.1 in
    record {
      count = g.count ∙ c.loop-rule.invariant.count;
      grown = λ all used part. grown_then all used c.args.known.now c.loop-rule.known c.visit_learnt.new.known (c.loop-rule.invariant.grown all used part) (c.visit_learnt.ensures.grown all used part);
      satisfied = λ r d less u few. elim (cases_lt r c.loop-rule.rule) [
        | inl small ↦ held_satisfied p.0 always c.loop-rule.known c.visit_learnt.new.known g d (c.loop-rule.invariant.satisfied r d small u few)
        | inr large ↦
            let e : r ≡ c.loop-rule.rule = omega arith in
            let P : ℕ → Type 0 = λ i. IsUsed c.args.rules.now.rules always i d in
            c.if-not-visit_learnt.ensures.satisfied refl d (subst P e u) few
      ];
    }

pub returns-clause-satisfied : goal.returns-clause-satisfied
returns-clause-satisfied c = λ none r d u few. c.loop-rule.invariant.satisfied r d (let w : r < length c.args.rules.now.rules = place_there c.args.rules.now.rules r d u.found in omega arith) u few
