use Rattle.std.proofs.Common.{◌∙◌, ◌%◌, ◌/◌, ap, eqb, sym, get_or}
use Rattle.std.specs.Int.{bit_at}
use Rattle.std.proofs.lemmas.Nat.Bits.{shr_and_one}
use Rattle.solv_trail.proofs.Bits.{has_is}
use Rattle.solv_trail.proofs.numbers.NumberSet.has.Goals as goal

pub returns : goal.returns
returns c =
    ap (λ b. eqb b 1) (shr_and_one c.word_at-word.result (c.args.number % 64))
    ∙ ap (λ w. eqb (bit_at w (c.args.number % 64)) 1) (c.word_at-word.ensures ∙ ap (λ l. get_or l (c.args.number / 64) 0) (c.deref.ensures.value ∙ c.self.view_is))
    ∙ sym (has_is c.args.self.now c.args.number)
