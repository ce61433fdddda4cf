use Rattle.std.proofs.Common.{refl, arith, rules, ◌≡◌, ◌≤◌, ◌<◌, ◌/◌, ◌∙◌, length, ap, not, ◌&&◌, eqb}
use Rattle.std.proofs.lemmas.List.{get_or_read}
use Rattle.solv_trail.specs.Inner.Numbers.{has}
use Rattle.solv_trail.proofs.Bits.{removed, nothing_removed}
use Rattle.solv_trail.proofs.numbers.NumberSet.remove.Goals as goal

pub returns-then-place-len-clause-taken : goal.returns-then-place-len-clause-taken
returns-then-place-len-clause-taken c = λ k.
    let within : c.args.number / 64 < length c.self.inside.words.items = search rules in
    removed c.self.inside.words.items c.args.number (omega arith) _ c.index_mut.result.now (get_or_read c.self.inside.words.items (c.args.number / 64) c.index_mut.result.now within c.index_mut.ensures.value 0) refl k
    ∙ ap (λ l. not (eqb k c.args.number) && has l k) c.self.view_is

pub returns-else-place-len-clause-taken : goal.returns-else-place-len-clause-taken
returns-else-place-len-clause-taken c = λ k.
    let beyond : length c.self.inside.words.items ≤ c.args.number / 64 = search rules in
    let same : length c.self.inside.words.items ≡ length c.args.self.now = ap length c.self.view_is in
    nothing_removed c.args.self.now c.args.number (omega arith) k
