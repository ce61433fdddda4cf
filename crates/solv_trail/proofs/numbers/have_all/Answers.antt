use Rattle.std.proofs.Common.{◌≡◌, ◌*◌, ◌-◌, inl, inr, arith, true, false, ◌∙◌, sym}
use Rattle.std.proofs.lemmas.Bool.{cases_lt}
use Rattle.solv_trail.proofs.Bits.{any_in, any_past, has_in, has_any}
use Rattle.solv_trail.proofs.numbers.have_all.Goals as goal

pub loop-place-preserved : goal.loop-place-preserved
loop-place-preserved c = λ k high h. elim (cases_lt k (c.loop-place.place * 64)) [
  | inl before ↦ c.loop-place.invariant k before h
  | inr after ↦ has_in c.args.words.now c.loop-place.place k after (omega arith)
      ∙ c.is_within.ensures c.if-not-is_within.false (k - c.loop-place.place * 64) (omega arith)
      (c.joined.ensures (k - c.loop-place.place * 64) ∙ sym (any_in c.args.a.now c.args.b.now c.args.c.now c.args.d.now c.loop-place.place k after (omega arith)) ∙ h)
]

pub returns : goal.returns
returns c = λ ended k h. elim (cases_lt k (c.loop-place.place * 64)) [
  | inl before ↦ c.loop-place.invariant k before h
  | inr after ↦ absurd (let none : has_any c.args.a.now c.args.b.now c.args.c.now c.args.d.now k ≡ false = any_past c.args.a.now c.args.b.now c.args.c.now c.args.d.now k (omega (arith, c.requires.a, c.loop-place-test.false)) (omega (arith, c.requires.b, c.loop-place-test.false)) (omega (arith, c.requires.c, c.loop-place-test.false)) (omega (arith, c.requires.d, c.loop-place-test.false)) in let both : true ≡ false = sym h ∙ none in cc)
]
