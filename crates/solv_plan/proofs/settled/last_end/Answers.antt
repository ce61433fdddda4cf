use Rattle.std.proofs.Common.{◌≡◌, ◌+◌, ◌-◌, ℕ, List, [], ◌∷◌, ◌++◌, take, arith, sym, ap, ◌∙◌}
use Rattle.std.proofs.lemmas.List.{take_more}
use Rattle.solv_list.proofs.Booleans.{or_false}
use Rattle.solv_plan.specs.Inner.Entries.{is_settled}
use Rattle.solv_plan.specs.declared.settled.Entry.{Entry}
use Rattle.solv_plan.specs.declared.settled.Entry.TheVariants.{Rests}
use Rattle.solv_plan.proofs.Resting.{settled_push}
use Rattle.solv_plan.proofs.settled.last_end.Goals as goal

pub loop-end-preserved : goal.loop-end-preserved
loop-end-preserved c =
    let xs : List Entry = c.args.entries.now in
    let n : ℕ = c.loop-end.end - 1 in
    let next : n + 1 ≡ c.loop-end.end = omega arith in
    let more : take c.loop-end.end xs ≡ take n xs ++ Rests c.in_default.field-0 ∷ []
    = ap (λ k. take k xs) (sym next) ∙ take_more xs n (Rests 0) (omega arith) ∙ ap (λ x. take n xs ++ x ∷ []) c.in_default.is in
    record {
      within = omega arith;
      settled = λ i. sym (ap (λ l. is_settled l i) more ∙ settled_push (take n xs) (Rests c.in_default.field-0) i ∙ or_false (is_settled (take n xs) i)) ∙ c.loop-end.invariant.settled i;
    }
