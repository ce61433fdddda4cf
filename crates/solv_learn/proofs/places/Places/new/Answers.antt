use Rattle.std.proofs.Common.{◌≡◌, ◌+◌, ◌/◌, ℕ, length, false, ap, sym, ◌∙◌, rules, arith}
use Rattle.std.specs.Prelude.{replicate}
use Rattle.std.proofs.lemmas.Bool.{false≢true}
use Rattle.std.proofs.lemmas.List.{length-replicate}
use Rattle.solv_trail.specs.Inner.Numbers.{has}
use Rattle.solv_trail.proofs.Bits.{has_none}
use Rattle.solv_learn.proofs.places.Places.new.Goals as goal
use Rattle.solv_learn.proofs.places.Places.new.Goals.{In_ok-words}

none : (c : In_ok-words) (k : ℕ) → has c.in_ok-words.words.items k ≡ false
none c k =
    let is : c.in_ok-words.words.items ≡ replicate (c.args.count / 64 + 1) 0 = search rules in
    ap (λ l. has l k) is ∙ has_none (c.args.count / 64 + 1) k

pub invariant_of-result : goal.invariant_of-result
invariant_of-result c =
    let size : ℕ = c.args.count / 64 + 1 in
    let words : c.in_ok-words.words.items ≡ replicate size 0 = search rules in
    let filled : c.in_ok-filled.filled.items ≡ replicate (size / 64 + 1) 0 = search rules in
    let many : length c.in_ok-words.words.items ≡ size = ap length words ∙ length-replicate size 0 in
    let groups : length c.in_ok-filled.filled.items ≡ size / 64 + 1 = ap length filled ∙ length-replicate (size / 64 + 1) 0 in
    record {
      space = omega arith;
      filled = λ k t. absurd (false≢true (sym (none (goal.at.invariant_of-result c).In_ok-words k) ∙ t));
    }

pub returns-clause-none : goal.returns-clause-none
returns-clause-none c = none (goal.at.returns-clause-none c).In_ok-words
