use Rattle.std.proofs.Common.{◌≡◌, ◌<◌, ◌*◌, ◌+◌, ◌/◌, length, ap, ◌∙◌, arith, rules}
use Rattle.std.specs.Prelude.{replicate}
use Rattle.std.proofs.lemmas.List.{length-replicate}
use Rattle.solv_trail.specs.Inner.Numbers.{has}
use Rattle.solv_trail.proofs.Bits.{has_all}
use Rattle.solv_trail.proofs.numbers.NumberSet.full.Goals as goal

pub returns-clause-all : goal.returns-clause-all
returns-clause-all c = λ k h.
    let is : c.in_ok-words.words.items ≡ replicate (c.args.count / 64 + 1) 18446744073709551615 = search rules in
    let long : length c.in_ok-words.words.items ≡ c.args.count / 64 + 1 = ap length is ∙ length-replicate (c.args.count / 64 + 1) 18446744073709551615 in
    let small : k < 64 * length c.in_ok-words.words.items = h in
    ap (λ l. has l k) is ∙ has_all (c.args.count / 64 + 1) k (omega arith)
