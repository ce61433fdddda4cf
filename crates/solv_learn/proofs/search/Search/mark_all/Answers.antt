use Rattle.std.proofs.Common.{◌≡◌, ◌∙◌, ◌++◌, ◌∷◌, [], ◌+◌, take, get_or, sym, ap, subst, arith, List}
use Rattle.std.specs.Prelude.{ℤ, pos}
use Rattle.std.proofs.lemmas.List.{take_more, get_or_read}
use Rattle.solv_learn.specs.Inner.Collecting.{HasMarked}
use Rattle.solv_learn.specs.Inner.Marks.{has}
use Rattle.solv_learn.proofs.Collected.{marked_more}
use Rattle.solv_learn.proofs.search.Search.mark_all.Goals as goal

pub loop-lit-preserved : goal.loop-lit-preserved
loop-lit-preserved c =
    let i = c.loop-lit.lit-index in
    let T = c.args.known.now.lits in
    let clause = c.args.clause.now in
    let x : c.lit-item.result ≡ get_or clause i (pos 0) = get_or_read clause i c.lit-item.result (omega arith) c.lit-item.is (pos 0) in
    let e : take (i + 1) clause ≡ take i clause ++ c.lit-item.result ∷ [] = take_more clause i (pos 0) (omega arith) ∙ ap (λ v. take i clause ++ v ∷ []) (sym x) in
    let P : List ℤ → Type 0 = λ v. HasMarked T v (has c.args.self.now.marked) (has c.mark.new.self.marked) in
    record {
      count = c.mark.ensures.count ∙ c.loop-lit.invariant.count;
      hints = c.mark.ensures.hints ∙ c.loop-lit.invariant.hints;
      marks = subst P (sym e) (marked_more T (take i clause) (c.lit-item.result ∷ []) (has c.args.self.now.marked) (has c.loop-lit.self.marked) (has c.mark.new.self.marked) c.loop-lit.invariant.marks c.in_ok-mark.ensures.marks);
      collected = λ h. c.in_ok-mark.ensures.collected (c.loop-lit.invariant.collected h);
      places = λ h. c.in_ok-mark.ensures.places (c.loop-lit.invariant.places h);
      lowest = let a = c.mark.ensures.lowest in let b = c.loop-lit.invariant.lowest in omega arith;
      nothing_kept = λ h. c.mark.ensures.nothing_kept h ∙ c.loop-lit.invariant.nothing_kept h;
    }
