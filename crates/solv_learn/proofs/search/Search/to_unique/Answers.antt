use Rattle.std.proofs.Common.{◌≡◌, ℕ, ◌+◌, ◌-◌, ◌∙◌, false, refl, subst, arith}
use Rattle.std.specs.Prelude.{reverse}
use Rattle.solv_learn.specs.Inner.Marks.{has}
use Rattle.solv_learn.specs.Inner.Refuting.{Refutes}
use Rattle.solv_learn.proofs.search.Search.to_unique.Goals as goal

pub loop-self-preserved : goal.loop-self-preserved
loop-self-preserved c =
    let p : ℕ = c.loop-self.place in
    let i = c.loop-self.invariant in
    let e : p ≡ p - 1 + 1 = omega arith in
    let down = c.in_ok-resolve.ensures.lowest in
    record {
      count = c.resolve.ensures.count ∙ i.count;
      ahead = omega arith;
      within = let w = i.within in omega arith;
      collected = c.in_ok-resolve.ensures.collected i.collected;
      places = λ h. c.in_ok-resolve.ensures.places (i.places h);
      refutes = λ look finds start.
          let P : ℕ → Type 0 = λ v. Refutes look (λ x. false) c.args.known.now.lits v (has c.loop-self.self.marked) (reverse c.loop-self.self.hints.items) in
          c.in_ok-resolve.ensures.refutes look (λ x. false) finds refl (subst P e (i.refutes look finds start));
      in_use = λ used r h. c.in_ok-resolve.ensures.in_use used r (i.in_use used r h);
    }
