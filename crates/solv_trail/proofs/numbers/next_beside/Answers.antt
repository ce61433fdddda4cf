use Rattle.std.proofs.Common.{rules, ◌≡◌, ◌≤◌, ◌<◌, ◌+◌, ◌*◌, ◌/◌, ◌%◌, ◌&&◌, not, ℕ, Bool, false, inl, inr, arith}
use Rattle.std.specs.Prelude.{Option, None, Some}
use Rattle.std.proofs.lemmas.Bool.{cases_lt}
use Rattle.solv_trail.specs.Inner.Numbers.{has, IsFirst}
use Rattle.solv_trail.proofs.Bits.{none_in_word, first_in_word, has_small}
use Rattle.solv_trail.proofs.numbers.next_beside.Goals as goal
use Rattle.solv_list.proofs.Booleans.{first_of_both}

pub overflow_add-result : goal.overflow_add-result
overflow_add-result c =
    let small : c.in-Some.bit < 64 = c.in-Some.ensures.within in
    let fits : c.args.from < 4294967296 = search rules in
    let sum : c.args.from / 64 * 64 + c.in-Some.bit < 4294967296 = omega arith in
    search rules

pub returns-in-Some-clause-first : goal.returns-in-Some-clause-first
returns-in-Some-clause-first c =
    let test : ℕ → Bool = λ k. has c.args.words.now k && not (has c.args.other.now k) in
    let first = first_in_word test (c.args.from / 64) c.beside.result c.beside.ensures (c.args.from % 64) c.in-Some.bit c.in-Some.ensures.within c.in-Some.ensures.first in
    (omega (arith, first.0), first.1, λ k low high. first.2 k (omega arith) high)

pub returns-in-None-clause-first : goal.returns-in-None-clause-first
returns-in-None-clause-first c =
    let test : ℕ → Bool = λ k. has c.args.words.now k && not (has c.args.other.now k) in
    let place : ℕ = c.args.from / 64 in
    go test c.args.from ((place + 1) * 64) c.first_from.result (omega arith)
    (λ k low high. none_in_word test place c.beside.result c.beside.ensures (c.args.from % 64) c.in-None.ensures.first k (omega arith) high) c.first_from.ensures.first
  where
    go : (test : ℕ → Bool) (from next : ℕ) (o : Option ℕ) → from ≤ next → ((k : ℕ) → from ≤ k → k < next → test k ≡ false) → IsFirst test next o → IsFirst test from o
    go test from next None far none first = λ k low. elim (cases_lt k next) [ inl before ↦ none k low before | inr after ↦ first k after ]
    go test from next (Some n) far none first =
        let low : next ≤ n = first.0 in
        (omega arith, first.1, λ k h b. elim (cases_lt k next) [ inl before ↦ none k h before | inr after ↦ first.2 k after b ])

pub returns-in-Some-clause-small : goal.returns-in-Some-clause-small
returns-in-Some-clause-small c =
    let test : ℕ → Bool = λ k. has c.args.words.now k && not (has c.args.other.now k) in
    let n : ℕ = c.args.from / 64 * 64 + c.in-Some.bit in
    let first = first_in_word test (c.args.from / 64) c.beside.result c.beside.ensures (c.args.from % 64) c.in-Some.bit c.in-Some.ensures.within c.in-Some.ensures.first in
    has_small c.args.words.now n c.requires (first_of_both (has c.args.words.now n) (not (has c.args.other.now n)) first.1)
