use Rattle.std.proofs.Common.{◌≤◌, ◌<◌, ◌≡◌, ◌∙◌, ◌++◌, ◌∷◌, [], arith, vec_len, length, refl, ℕ, true, false, rules}
use Rattle.std.proofs.lemmas.Bool.{cond-true}
use Rattle.std.specs.Prelude.{nat_abs, is_ok}
use Rattle.solv_pool.specs.Prelude.{is_fact, is_refuted, names_package}
use Rattle.solv_trail.proofs.Holding.{held_room, held_push}
use Rattle.solv_trail.proofs.Ins.{one_more_in, fits_in}
use Rattle.solv_trail.proofs.known.Known.push.Goals as goal
use Rattle.solv_trail.proofs.known.Known.push.Goals.{After-len, After-push-2}

over : (c : After-len) → names_package c.self.inside.count c.args.lit ≡ true
over c = rw (← c.self.view_is) at c.requires.over

unknown : (c : After-len) → is_fact c.self.inside.lits.items c.args.lit ≡ false
unknown c = rw (← c.self.view_is) at c.requires.unknown

loose : (c : After-len) → is_refuted c.self.inside.lits.items c.args.lit ≡ false
loose c = rw (← c.self.view_is) at c.requires.not_false

room : (c : After-len) → length c.self.inside.lits.items < c.self.inside.count
room c = let f = c.self.inside in held_room f.count f.values.items f.places.items f.lits.items f.reasons.items f.marks.items c.self.invariant.held c.args.lit (over c) (unknown c) (loose c)

pub overflow_cast-len : goal.overflow_cast-len
overflow_cast-len c =
    let d = (goal.at.overflow_cast-len c).After-len in
    let r : length c.self.inside.lits.items < c.self.inside.count = room d in
    let long : vec_len c.self.inside.lits ≡ length c.self.inside.lits.items = c.self.inside.lits.ok.0 in
    let small : c.self.inside.count ≤ 1048575 = c.self.invariant.held.small in
    let e : c.len.result ≡ vec_len c.self.inside.lits = c.len.ensures in
    let n : c.len.result < 1048575 = omega arith in
    search rules

pub invariant_of-self : goal.invariant_of-self
invariant_of-self c =
    let d = (goal.at.invariant_of-self c).After-len in
    let f = c.self.inside in
    let p : ℕ = nat_abs c.args.lit in
    let r : length f.lits.items < f.count = room d in
    let long : vec_len f.lits ≡ length f.lits.items = f.lits.ok.0 in
    let longs : vec_len f.reasons ≡ length f.reasons.items = f.reasons.ok.0 in
    let sizes : length f.reasons.items ≡ length f.lits.items = c.self.invariant.held.reasons_size in
    let lits : c.push.new.self.items ≡ f.lits.items ++ c.args.lit ∷ [] = c.push.ensures.items ∙ cond-true (is_ok c.push.result) (f.lits.items ++ c.args.lit ∷ []) f.lits.items (c.push.ensures.succeeds (omega (arith, c.self.invariant.room))) in
    let reasons : c.push-2.new.self.items ≡ f.reasons.items ++ c.args.reason ∷ [] = c.push-2.ensures.items ∙ cond-true (is_ok c.push-2.result) (f.reasons.items ++ c.args.reason ∷ []) f.reasons.items (c.push-2.ensures.succeeds (omega (arith, c.self.invariant.reasons_room))) in
    let at : c.package-pack.result ≡ p = c.package-pack.ensures.number in
    let place : c.len.result ≡ length f.lits.items = c.len.ensures ∙ long in
    record {
      held = rw (lits, reasons, at, c.code_of.ensures, place) (held_push f.count f.values.items f.places.items f.lits.items f.reasons.items f.marks.items c.self.invariant.held c.args.lit (over d) (unknown d) (loose d) c.args.reason);
      room = omega (arith, c.self.invariant.room, c.push.ensures.capacity);
      reasons_room = omega (arith, c.self.invariant.reasons_room, c.push-2.ensures.capacity);
      marks_room = c.self.invariant.marks_room;
      ins = rw lits (one_more_in f.count f.ins c.mark.new.ins f.lits.items c.args.lit c.self.invariant.ins c.mark.ensures.space c.mark.ensures.marked);
      questions = c.self.invariant.questions;
      questions_room = c.self.invariant.questions_room;
    }

pub returns-clause-room : goal.returns-clause-room
returns-clause-room c =
    let d = (goal.at.returns-clause-room c).After-len in
    rw (← c.self.view_is) (room d)

pub returns-clause-added : goal.returns-clause-added
returns-clause-added c =
    let d = (goal.at.returns-clause-added c).After-len in
    let f = c.self.inside in
    let r : length f.lits.items < f.count = room d in
    let long : vec_len f.lits ≡ length f.lits.items = f.lits.ok.0 in
    let longs : vec_len f.reasons ≡ length f.reasons.items = f.reasons.ok.0 in
    let sizes : length f.reasons.items ≡ length f.lits.items = c.self.invariant.held.reasons_size in
    let lits : c.push.new.self.items ≡ f.lits.items ++ c.args.lit ∷ [] = c.push.ensures.items ∙ cond-true (is_ok c.push.result) (f.lits.items ++ c.args.lit ∷ []) f.lits.items (c.push.ensures.succeeds (omega (arith, c.self.invariant.room))) in
    let reasons : c.push-2.new.self.items ≡ f.reasons.items ++ c.args.reason ∷ [] = c.push-2.ensures.items ∙ cond-true (is_ok c.push-2.result) (f.reasons.items ++ c.args.reason ∷ []) f.reasons.items (c.push-2.ensures.succeeds (omega (arith, c.self.invariant.reasons_room))) in
    rw (← c.self.view_is, lits, reasons) refl

pub mark-requires-clause-some : goal.mark-requires-clause-some
mark-requires-clause-some c = let f = c.self.inside in (fits_in f.count f.ins f.lits.items c.args.lit c.self.invariant.ins (rw (← c.self.view_is) at c.requires.over)).0

pub mark-requires-clause-space : goal.mark-requires-clause-space
mark-requires-clause-space c = let f = c.self.inside in (fits_in f.count f.ins f.lits.items c.args.lit c.self.invariant.ins (rw (← c.self.view_is) at c.requires.over)).1
