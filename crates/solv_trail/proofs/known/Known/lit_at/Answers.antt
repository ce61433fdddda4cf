use Rattle.std.proofs.Common.{◌≡◌, ◌<◌, ◌∙◌, ap, get_or, length, true}
use Rattle.std.specs.Prelude.{pos, nat_lt}
use Rattle.std.proofs.lemmas.List.{get_or_read}
use Rattle.solv_pool.specs.Prelude.{is_fact}
use Rattle.solv_trail.proofs.Holding.{placed_before}
use Rattle.solv_trail.proofs.Walk.{known_at}
use Rattle.solv_trail.proofs.known.Known.lit_at.Goals as goal

pub returns-clause-before : goal.returns-clause-before
returns-clause-before c = λ e.
    let f = c.self.inside in
    let p = c.args.place in
    let small : p < length f.lits.items = rw (← c.self.view_is) at c.requires in
    let x : c.index.result.now ≡ get_or f.lits.items p (pos 0) = get_or_read f.lits.items p c.index.result.now small c.index.ensures (pos 0) in
    let known : is_fact f.lits.items (get_or f.lits.items p (pos 0)) ≡ true = known_at f.lits.items p small in
    rw (← c.self.view_is, x)
    (placed_before f.count f.values.items f.places.items f.lits.items f.reasons.items f.marks.items c.self.invariant.held (get_or f.lits.items p (pos 0)) known e
    ∙ ap (λ v. nat_lt v e) (c.self.invariant.held.there p small))
