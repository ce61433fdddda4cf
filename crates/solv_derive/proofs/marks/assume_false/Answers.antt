use Rattle.std.proofs.Common.{◌≡◌, ◌∷◌, ◌∙◌, ap, subst, take, map, get_or, arith}
use Rattle.std.specs.Prelude.{ℤ, pos, neg_ℤ}
use Rattle.std.proofs.lemmas.List.{get_or_read}
use Rattle.solv_derive.specs.Inner.Marks.{Shows}
use Rattle.solv_derive.proofs.Tables.{shows_next}
use Rattle.solv_derive.proofs.marks.assume_false.Goals as goal

pub loop-lit-preserved : goal.loop-lit-preserved
loop-lit-preserved c =
    let i = c.loop-lit.lit-index in
    let e : c.negated.result ≡ neg_ℤ (get_or c.args.clause.now i (pos 0)) = c.negated.ensures.number ∙ ap neg_ℤ (get_or_read c.args.clause.now i c.lit-item.result (omega arith) c.lit-item.is (pos 0)) in
    let P : ℤ → Type 0 = λ v. Shows c.args.count c.learn.new.marks c.args.now (v ∷ map neg_ℤ (take i c.args.clause.now)) in
    shows_next c.args.count c.learn.new.marks c.args.now c.args.clause.now i (omega arith)
    (subst P e (c.learn.ensures (map neg_ℤ (take i c.args.clause.now)) c.loop-lit.invariant))
