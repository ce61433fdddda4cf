use Rattle.std.proofs.Common.{◌≡◌, ◌∙◌, ◌*◌, ◌+◌, sym, ap, not, ◌&&◌, get_or, eqb}
use Rattle.std.specs.Int.{bit_at}
use Rattle.solv_trail.specs.Inner.Numbers.{has}
use Rattle.solv_trail.proofs.Bits.{without, has_at}
use Rattle.solv_trail.proofs.numbers.beside.Goals as goal

pub returns : goal.returns
returns c = λ i small.
    let own : c.word_at.result ≡ get_or c.args.words.now c.args.place 0 = c.word_at.ensures in
    let his : c.word_at-2.result ≡ get_or c.args.other.now c.args.place 0 = c.word_at-2.ensures in
    let a : eqb (bit_at c.word_at.result i) 1 ≡ has c.args.words.now (c.args.place * 64 + i) = ap (λ w. eqb (bit_at w i) 1) own ∙ sym (has_at c.args.words.now c.args.place i small) in
    let b : eqb (bit_at c.word_at-2.result i) 1 ≡ has c.args.other.now (c.args.place * 64 + i) = ap (λ w. eqb (bit_at w i) 1) his ∙ sym (has_at c.args.other.now c.args.place i small) in
    without c.word_at.result c.word_at-2.result i c.word_at-2.type_inv small
    ∙ ap (λ x. x && not (eqb (bit_at c.word_at-2.result i) 1)) a
    ∙ ap (λ x. has c.args.words.now (c.args.place * 64 + i) && not x) b
