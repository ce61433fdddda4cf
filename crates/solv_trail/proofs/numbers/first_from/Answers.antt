use Rattle.std.proofs.Common.{rules, ◌≤◌, ◌<◌, ◌*◌, ◌&&◌, not, ℕ, Bool, length, inl, inr, arith, ap}
use Rattle.std.proofs.lemmas.Bool.{cases_lt}
use Rattle.solv_trail.specs.Inner.Numbers.{has}
use Rattle.solv_trail.proofs.Bits.{none_in_word, first_in_word, has_past}
use Rattle.solv_trail.proofs.numbers.first_from.Goals as goal

pub overflow_add-result : goal.overflow_add-result
overflow_add-result c =
    let few : length c.args.words.now ≤ 33554432 = c.requires in
    let small : c.in-Some.bit < 64 = c.in-Some.ensures.within in
    let long : c.loop-place.place < length c.args.words.now = search rules in
    search rules

pub returns-in-Some-clause-first : goal.returns-in-Some-clause-first
returns-in-Some-clause-first c =
    let test : ℕ → Bool = λ k. has c.args.words.now k && not (has c.args.other.now k) in
    let first = first_in_word test c.loop-place.place c.beside.result c.beside.ensures 0 c.in-Some.bit c.in-Some.ensures.within c.in-Some.ensures.first in
    let auto = c.loop-place.auto in
    let forward = c.skip_from-place.ensures.forward in (
      omega arith,
      first.1,
      λ k low high. elim (cases_lt k (c.loop-place.place * 64)) [
        | inl before ↦ c.loop-place.invariant k low before
        | inr after ↦ first.2 k (omega arith) high
      ],
    )

pub loop-place-preserved : goal.loop-place-preserved
loop-place-preserved c =
    let test : ℕ → Bool = λ k. has c.args.words.now k && not (has c.args.other.now k) in
    λ k low high. elim (cases_lt k (c.loop-place.place * 64)) [
      | inl before ↦ c.loop-place.invariant k low before
      | inr after ↦ none_in_word test c.loop-place.place c.beside.result c.beside.ensures 0 c.in-None.ensures.first k (omega arith) high
    ]

pub returns-clause-first : goal.returns-clause-first
returns-clause-first c = λ k low. elim (cases_lt k (c.loop-place.place * 64)) [
  | inl before ↦ c.loop-place.invariant k low before
  | inr after ↦ ap (λ b. b && not (has c.args.other.now k)) (has_past c.args.words.now k (let end = c.loop-place-test.false in omega arith))
]
