use Rattle.std.proofs.Common.{refl, arith, ◌/◌, ◌<◌, ◌*◌, ◌∙◌, length, ap, ◌||◌, eqb}
use Rattle.std.proofs.lemmas.List.{get_or_read}
use Rattle.solv_trail.specs.Inner.Numbers.{has}
use Rattle.solv_trail.proofs.Bits.{inserted}
use Rattle.solv_trail.proofs.numbers.NumberSet.insert.Goals as goal

pub returns-clause-put : goal.returns-clause-put
returns-clause-put c = λ k.
    let inside : c.args.number < 64 * length c.self.inside.words.items = rw (← c.self.view_is) at c.requires in
    inserted c.self.inside.words.items c.args.number inside _ c.index_mut.result.now (get_or_read c.self.inside.words.items (c.args.number / 64) c.index_mut.result.now (omega arith) c.index_mut.ensures.value 0) refl k
    ∙ ap (λ l. eqb k c.args.number || has l k) c.self.view_is
