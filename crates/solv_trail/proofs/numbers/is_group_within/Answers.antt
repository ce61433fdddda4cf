use Rattle.std.proofs.Common.{◌≡◌, ◌∙◌, ℕ, ◌-◌, ◌*◌, ◌%◌, ◌&&◌, not, Bool, inl, inr, eqb, eqb-true, get_or, sym, ap, arith}
use Rattle.std.specs.Int.{bit_at}
use Rattle.std.proofs.lemmas.Bool.{cases_lt, or_parts}
use Rattle.std.proofs.lemmas.Nat.Bits.{bit_at-zero}
use Rattle.solv_trail.proofs.Bits.{has_in}
use Rattle.solv_trail.proofs.numbers.is_group_within.Goals as goal

pub loop-place-preserved : goal.loop-place-preserved
loop-place-preserved c = λ k low high none.
    let i : ℕ = k % 64 in
    let place : ℕ = c.loop-place.place in
    let own : Bool = eqb (bit_at (get_or c.args.words.now place 0) i) 1 && not (eqb (bit_at (get_or c.args.other.now place 0) i) 1) in
    let both = or_parts (eqb (bit_at c.loop-place.lacking i) 1) own (sym (c.lacked-lacking.ensures i (omega arith)) ∙ none) in
    elim (cases_lt k (place * 64)) [
      | inl before ↦ c.loop-place.invariant k low before both.0
      | inr after ↦
          let at : k - place * 64 ≡ i = omega (arith, high, after) in
          rw (has_in c.args.words.now place k after high, has_in c.args.other.now place k after high, at) both.1
    ]

pub returns : goal.returns
returns c = λ nothing k low high.
    c.loop-place.invariant k low (omega (arith, high, c.loop-place-test.false))
    (ap (λ n. eqb (bit_at n (k % 64)) 1) (eqb-true c.loop-place.lacking 0 nothing) ∙ ap (λ b. eqb b 1) (bit_at-zero (k % 64)))
