use Rattle.std.proofs.Common.{◌≡◌, ◌∙◌, ◌+◌, ℕ, sym, ap, subst, take, get_or, arith, true}
use Rattle.std.specs.Prelude.{pos, neg_ℤ}
use Rattle.std.proofs.lemmas.List.{get_or_read, take_all}
use Rattle.solv_pool.specs.Prelude.{is_fact}
use Rattle.solv_trail.proofs.Walk.{known_at}
use Rattle.solv_learn.proofs.Levels.{IsHighest, highest_none, highest_next}
use Rattle.solv_learn.proofs.search.highest.Goals as goal

pub loop-lit-init : goal.loop-lit-init
loop-lit-init c = highest_none c.args.known.now.lits c.args.clause.now

pub place-place-requires : goal.place-place-requires
place-place-requires c =
    let i = c.loop-lit.lit-index in
    let x : c.lit-item.result ≡ get_or c.args.clause.now i (pos 0) = get_or_read c.args.clause.now i c.lit-item.result (omega arith) c.lit-item.is (pos 0) in
    let there : is_fact c.args.clause.now c.lit-item.result ≡ true = ap (is_fact c.args.clause.now) x ∙ known_at c.args.clause.now i (omega arith) in
    ap (is_fact c.args.known.now.lits) c.negated.ensures.number ∙ c.requires c.lit-item.result there

pub loop-lit-preserved : goal.loop-lit-preserved
loop-lit-preserved c =
    let i = c.loop-lit.lit-index in
    let x : c.lit-item.result ≡ get_or c.args.clause.now i (pos 0) = get_or_read c.args.clause.now i c.lit-item.result (omega arith) c.lit-item.is (pos 0) in
    let e : c.negated.result ≡ neg_ℤ (get_or c.args.clause.now i (pos 0)) = c.negated.ensures.number ∙ ap neg_ℤ x in
    let P : ℕ → Type 0 = λ v. IsHighest c.args.known.now.lits c.args.clause.now (i + 1) v in
    subst P (sym c.max-highest.ensures) (highest_next c.args.known.now.lits c.args.clause.now i c.loop-lit.highest c.place-place.result (omega arith) (λ f. ap (is_fact (take f c.args.known.now.lits)) (sym e) ∙ c.place-place.ensures.before f) c.loop-lit.invariant)

pub returns-clause-upper : goal.returns-clause-upper
returns-clause-upper c = λ l k e h.
    c.loop-lit.invariant.upper l (ap (λ v. is_fact v l) (take_all c.loop-lit.lit-index c.args.clause.now (omega arith)) ∙ k) e h

pub returns-clause-reached : goal.returns-clause-reached
returns-clause-reached c = λ h. c.loop-lit.invariant.reached (omega arith)
