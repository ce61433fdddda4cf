use Rattle.std.proofs.Common.{List, ◌∷◌, sym, ap, ◌∙◌, subst}
use Rattle.std.specs.Prelude.{ℕ, flat_map}
use Rattle.solv_decide.specs.Inner.Sets.{pack_of}
use Rattle.solv_decide.specs.Sets.{IsSetOf}
use Rattle.solv_decide.proofs.SetOf.{set_is, set_if}
use Rattle.solv_decide.proofs.sets.set_of.Goals as goal

pub returns : goal.returns
returns c =
    let S : List ℕ → Type 0 = λ l. IsSetOf c.args.trail.now.events (0 ∷ l) in
    set_if (λ set. set.items) c.with_system.result c.args.trail.now.events c.deref.result.now c.with_system.ensures
    (subst S (sym c.deref.ensures.value)
    (set_is c.args.trail.now.events c.in_ok-packs.packs.items c.put_in_order.new.packs.items (c.in_ok-packs.ensures ∙ ap (flat_map pack_of) c.held.ensures) c.put_in_order.ensures.each))
