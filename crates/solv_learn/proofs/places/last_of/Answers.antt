use Rattle.std.proofs.Common.{ℕ, ◌+◌, ◌*◌, ap, subst, eqb, arith, Some, None}
use Rattle.std.specs.Int.{bit_at}
use Rattle.solv_trail.specs.Inner.Numbers.{has}
use Rattle.solv_learn.specs.Inner.Places.{IsLast}
use Rattle.solv_learn.proofs.Lasts.{none_of_word, last_of_word}
use Rattle.solv_learn.proofs.places.last_of.Goals as goal

pub returns-in-Some : goal.returns-in-Some
returns-in-Some c =
    let P : ℕ → Type 0 = λ e. IsLast (has c.args.words.now) (c.args.place * 64) e (Some (c.args.place * 64 + c.in-Some.bit)) in
    subst P (omega arith)
    (last_of_word c.args.words.now c.args.place c.word_at.result 64 (omega arith) (λ i h. ap (λ w. eqb (bit_at w i) 1) c.word_at.ensures) (λ i h g. absurd (omega arith)) c.in-Some.bit c.in-Some.ensures)

pub returns-in-None : goal.returns-in-None
returns-in-None c =
    let P : ℕ → Type 0 = λ e. IsLast (has c.args.words.now) (c.args.place * 64) e None in
    subst P (omega arith)
    (none_of_word c.args.words.now c.args.place c.word_at.result 64 (omega arith) (λ i h. ap (λ w. eqb (bit_at w i) 1) c.word_at.ensures) (λ i h g. absurd (omega arith)) c.in-None.ensures)
