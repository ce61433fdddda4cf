use Rattle.std.proofs.Common.{◌≡◌, ◌∙◌, sym, ap, refl, length, ◌++◌, ◌∷◌, [], ◌<◌, false, arith}
use Rattle.std.proofs.lemmas.Grind.{common_steps}
use Rattle.solv_base.specs.Pool.{is_name, most}
use Rattle.solv_base.proofs.Places.{if_ok}
use Rattle.solv_base.proofs.Names.{id_of_new}
use Rattle.solv_base.proofs.Growth.{Grows-name}
use Rattle.solv_base.proofs.Pools.{name_at, IsPool-name}
use Rattle.solv_base.proofs.interning.Pool.intern.Goals as goal
use Rattle.solv_base.proofs.interning.Pool.intern.Goals.{Else-is_err}
use Rattle.solv_list.proofs.Lists.{at_end}

pub returns-in-Some-clause-text : goal.returns-in-Some-clause-text
returns-in-Some-clause-text c =
    rw (← c.self.view_is) (name_at c.self.inside.texts c.args.text.now c.in-Some.place c.in-Some.ensures.place c.in-Some.ensures.within)

fresh : (c : Else-is_err) → is_name c.self.inside.texts c.args.text.now ≡ false
fresh c = grind (arith, common_steps)

added : (c : Else-is_err) → c.enter.new.self ≡ c.self.inside.texts ++ c.args.text.now ∷ []
added c =
    let held = if_ok _ c.enter.result (sym c.is_err.ensures.value ∙ c.if-is_err.false) c.enter.ensures.held in
    rw (held, c.in-Ok.ensures, fresh c) refl

place : (c : Else-is_err) → length c.held-place.result.now ≡ length c.self.inside.texts
place c = ap length c.held-place.ensures

room : (c : Else-is_err) → length c.self.inside.texts < most
room c = let at = place c in omega arith

pub invariant_of-self-2 : goal.invariant_of-self-2
invariant_of-self-2 c = rw (added c) (IsPool-name c.self.inside.texts c.self.inside.relations c.args.text.now c.self.invariant (fresh c) (room c))

pub returns-clause-id : goal.returns-clause-id
returns-clause-id c = rw (← c.self.view_is) (place c ∙ sym (id_of_new c.self.inside.texts c.args.text.now (fresh c)))

pub returns-clause-text : goal.returns-clause-text
returns-clause-text c = rw (added c, place c) (at_end c.self.inside.texts c.args.text.now)

pub returns-clause-grows : goal.returns-clause-grows
returns-clause-grows c =
    rw (← c.self.view_is, added c) (Grows-name c.self.inside.texts c.self.inside.relations c.args.text.now c.self.invariant.names_held c.self.invariant.operands_before)
