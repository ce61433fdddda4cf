use Rattle.std.proofs.Common.{◌≡◌, ◌+◌, ◌/◌, ap, ◌∙◌, rules}
use Rattle.std.specs.Prelude.{replicate}
use Rattle.solv_trail.specs.Inner.Numbers.{has}
use Rattle.solv_trail.proofs.Bits.{has_none}
use Rattle.solv_trail.proofs.numbers.NumberSet.new.Goals as goal

pub returns-clause-none : goal.returns-clause-none
returns-clause-none c = λ k.
    let is : c.in_ok-words.words.items ≡ replicate (c.args.count / 64 + 1) 0 = search rules in
    ap (λ l. has l k) is ∙ has_none (c.args.count / 64 + 1) k
