use Rattle.std.proofs.Common.{◌≡◌, ℕ, inl, inr, refl, ◌∙◌, subst, arith, get_or}
use Rattle.std.proofs.lemmas.Bool.{cases_lt}
use Rattle.solv_trail.specs.Propagated.{in_use}
use Rattle.solv_trail.specs.Inner.Propagated.{IsUsed, IsGrown}
use Rattle.solv_watch.proofs.Keeping.{part_self, held_satisfied, grown_then}
use Rattle.solv_watch.proofs.propagation.visit_all_narrow.Goals as goal

pub loop-rule-preserved : goal.loop-rule-preserved
loop-rule-preserved c =
    let own = in_use c.args.owners.now c.args.enabled.now in
    let g : IsGrown c.args.rules.now.rules own c.loop-rule.known c.visit_narrow.new.known = c.if-not-visit_narrow.ensures.grown c.args.rules.now.rules own (part_self c.args.rules.now.rules own) in
    record {
      count = g.count ∙ c.loop-rule.invariant.count;
      grown = λ all used part. grown_then all used c.args.known.now c.loop-rule.known c.visit_narrow.new.known (c.loop-rule.invariant.grown all used part) (c.if-not-visit_narrow.ensures.grown all used part);
      satisfied = λ k h d u. elim (cases_lt k c.loop-rule.rule-index) [
        | inl small ↦ held_satisfied c.args.rules.now.rules own c.loop-rule.known c.visit_narrow.new.known g d (c.loop-rule.invariant.satisfied k small d u)
        | inr large ↦
            let e : k ≡ c.loop-rule.rule-index = omega arith in
            let P : ℕ → Type 0 = λ i. IsUsed c.args.rules.now.rules own (get_or c.args.narrow.now i 0) d in
            c.if-not-visit_narrow.ensures.satisfied refl d (subst P e u)
      ];
    }
