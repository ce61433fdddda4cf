use Rattle.std.proofs.Common.{◌∙◌, ap, not, ◌&&◌, []}
use Rattle.solv_trail.specs.Inner.Numbers.{has}
use Rattle.solv_trail.proofs.Bits.{beside_none, first_of}
use Rattle.solv_trail.proofs.numbers.NumberSet.next.Goals as goal

pub returns-clause-first : goal.returns-clause-first
returns-clause-first c = first_of (λ k. has c.deref.result.now k && not (has [] k)) (has c.args.self.now)
    (λ k. beside_none c.deref.result.now k ∙ ap (λ l. has l k) (c.deref.ensures.value ∙ c.self.view_is)) c.args.from c.next_beside.result c.next_beside.ensures.first
