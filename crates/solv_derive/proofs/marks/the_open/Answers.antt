use Rattle.std.proofs.Common.{◌≡◌, ◌+◌, ◌∙◌, ap, sym, drop, get_or, arith, false}
use Rattle.std.specs.Prelude.{ℤ, pos, neg_ℤ}
use Rattle.std.proofs.lemmas.List.{get_or_read, at_drop_all}
use Rattle.solv_derive.specs.Inner.Marks.{is_marked}
use Rattle.solv_derive.proofs.Tables.{none_open, open_next, open_so_far, second_open}
use Rattle.solv_derive.proofs.marks.the_open.Goals as goal

pub returns-then-is_some : goal.returns-then-is_some
returns-then-is_some c =
    let i = c.loop-lit.lit-index in
    let known = is_marked c.args.marks.now c.args.now in
    let l : ℤ = get_or c.args.clause.now i (pos 0) in
    let e : c.lit-item.result ≡ l = get_or_read c.args.clause.now i c.lit-item.result (omega arith) c.lit-item.is (pos 0) in
    let h : known l ≡ false = ap known (sym e) ∙ sym c.holds.ensures ∙ c.if-holds.false in
    let k : known (neg_ℤ l) ≡ false = ap (λ v. known (neg_ℤ v)) (sym e) ∙ ap known (sym c.negated.ensures.number) ∙ sym c.holds-in-loop-lit.ensures ∙ c.if-not-holds.true in
    sym (second_open known c.loop-lit.open l (drop (i + 1) c.args.clause.now) h k (sym c.is_some.ensures ∙ c.if-is_some.true))
    ∙ sym (open_next known c.loop-lit.open c.args.clause.now i (omega arith)) ∙ c.loop-lit.invariant ∙ none_open known c.args.clause.now

pub returns : goal.returns
returns c =
    let known = is_marked c.args.marks.now c.args.now in
    sym (at_drop_all (open_so_far known c.loop-lit.open) c.args.clause.now c.loop-lit.lit-index (omega arith)) ∙ c.loop-lit.invariant ∙ none_open known c.args.clause.now
