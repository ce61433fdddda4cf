use Rattle.std.proofs.Common.{◌≤◌, ◌<◌, ◌≡◌, ◌∙◌, ◌++◌, ◌∷◌, [], arith, vec_len, length, refl, ℕ, true, false, rules}
use Rattle.std.proofs.lemmas.Bool.{cond-true}
use Rattle.std.proofs.lemmas.List.{length_push}
use Rattle.std.specs.Prelude.{nat_abs, is_ok}
use Rattle.solv_pool.specs.Prelude.{is_fact, is_refuted, names_package}
use Rattle.solv_trail.proofs.Holding.{held_room, held_choose}
use Rattle.solv_trail.proofs.Ins.{one_more_in, fits_in}
use Rattle.solv_trail.proofs.known.Known.choose.Goals as goal
use Rattle.solv_trail.proofs.known.Known.choose.Goals.{After-len-place, After-push-3}

over : (c : After-len-place) → names_package c.self.inside.count c.args.lit ≡ true
over c = rw (← c.self.view_is) at c.requires.over

unknown : (c : After-len-place) → is_fact c.self.inside.lits.items c.args.lit ≡ false
unknown c = rw (← c.self.view_is) at c.requires.unknown

loose : (c : After-len-place) → is_refuted c.self.inside.lits.items c.args.lit ≡ false
loose c = rw (← c.self.view_is) at c.requires.not_false

room : (c : After-len-place) → length c.self.inside.lits.items < c.self.inside.count
room c = let f = c.self.inside in held_room f.count f.values.items f.places.items f.lits.items f.reasons.items f.marks.items c.self.invariant.held c.args.lit (over c) (unknown c) (loose c)

pub overflow_cast-place : goal.overflow_cast-place
overflow_cast-place c =
    let d = (goal.at.overflow_cast-place c).After-len-place in
    let r : length c.self.inside.lits.items < c.self.inside.count = room d in
    let long : vec_len c.self.inside.lits ≡ length c.self.inside.lits.items = c.self.inside.lits.ok.0 in
    let small : c.self.inside.count ≤ 1048575 = c.self.invariant.held.small in
    let e : c.len-place.result ≡ vec_len c.self.inside.lits = c.len-place.ensures in
    let n : c.len-place.result < 1048575 = omega arith in
    search rules

pub invariant_of-self : goal.invariant_of-self
invariant_of-self c =
    let d = (goal.at.invariant_of-self c).After-len-place in
    let f = c.self.inside in
    let p : ℕ = nat_abs c.args.lit in
    let r : length f.lits.items < f.count = room d in
    let long : vec_len f.lits ≡ length f.lits.items = f.lits.ok.0 in
    let longs : vec_len f.reasons ≡ length f.reasons.items = f.reasons.ok.0 in
    let longm : vec_len f.marks ≡ length f.marks.items = f.marks.ok.0 in
    let few : length f.marks.items ≤ length f.lits.items = c.self.invariant.held.marks_few in
    let sizes : length f.reasons.items ≡ length f.lits.items = c.self.invariant.held.reasons_size in
    let marks : c.push.new.self.items ≡ f.marks.items ++ c.len-place.result ∷ [] = c.push.ensures.items ∙ cond-true (is_ok c.push.result) (f.marks.items ++ c.len-place.result ∷ []) f.marks.items (c.push.ensures.succeeds (omega (arith, c.self.invariant.marks_room))) in
    let lits : c.push-2.new.self.items ≡ f.lits.items ++ c.args.lit ∷ [] = c.push-2.ensures.items ∙ cond-true (is_ok c.push-2.result) (f.lits.items ++ c.args.lit ∷ []) f.lits.items (c.push-2.ensures.succeeds (omega (arith, c.self.invariant.room))) in
    let reasons : c.push-3.new.self.items ≡ f.reasons.items ++ 4294967295 ∷ [] = c.push-3.ensures.items ∙ cond-true (is_ok c.push-3.result) (f.reasons.items ++ 4294967295 ∷ []) f.reasons.items (c.push-3.ensures.succeeds (omega (arith, c.self.invariant.reasons_room))) in
    let at : c.package-pack.result ≡ p = c.package-pack.ensures.number in
    let place : c.len-place.result ≡ length f.lits.items = c.len-place.ensures ∙ long in
    record {
      held = rw (lits, reasons, marks, at, c.code_of.ensures, place) (held_choose f.count f.values.items f.places.items f.lits.items f.reasons.items f.marks.items c.self.invariant.held c.args.lit (over d) (unknown d) (loose d) 4294967295);
      room = omega (arith, c.self.invariant.room, c.push-2.ensures.capacity);
      reasons_room = omega (arith, c.self.invariant.reasons_room, c.push-3.ensures.capacity);
      marks_room = omega (arith, c.self.invariant.marks_room, c.push.ensures.capacity);
      ins = rw lits (one_more_in f.count f.ins c.mark.new.ins f.lits.items c.args.lit c.self.invariant.ins c.mark.ensures.space c.mark.ensures.marked);
      questions = rw (c.keep_question.ensures.items, marks, length_push f.questions.items c.args.ask.question, length_push f.marks.items c.len-place.result, c.self.invariant.questions) refl;
      questions_room = omega (arith, c.self.invariant.questions_room, c.keep_question.ensures.room);
    }

pub returns-clause-room : goal.returns-clause-room
returns-clause-room c =
    let d = (goal.at.returns-clause-room c).After-len-place in
    rw (← c.self.view_is) (room d)

pub returns-clause-added : goal.returns-clause-added
returns-clause-added c =
    let d = (goal.at.returns-clause-added c).After-len-place in
    let f = c.self.inside in
    let r : length f.lits.items < f.count = room d in
    let long : vec_len f.lits ≡ length f.lits.items = f.lits.ok.0 in
    let longs : vec_len f.reasons ≡ length f.reasons.items = f.reasons.ok.0 in
    let longm : vec_len f.marks ≡ length f.marks.items = f.marks.ok.0 in
    let few : length f.marks.items ≤ length f.lits.items = c.self.invariant.held.marks_few in
    let sizes : length f.reasons.items ≡ length f.lits.items = c.self.invariant.held.reasons_size in
    let marks : c.push.new.self.items ≡ f.marks.items ++ c.len-place.result ∷ [] = c.push.ensures.items ∙ cond-true (is_ok c.push.result) (f.marks.items ++ c.len-place.result ∷ []) f.marks.items (c.push.ensures.succeeds (omega (arith, c.self.invariant.marks_room))) in
    let lits : c.push-2.new.self.items ≡ f.lits.items ++ c.args.lit ∷ [] = c.push-2.ensures.items ∙ cond-true (is_ok c.push-2.result) (f.lits.items ++ c.args.lit ∷ []) f.lits.items (c.push-2.ensures.succeeds (omega (arith, c.self.invariant.room))) in
    let reasons : c.push-3.new.self.items ≡ f.reasons.items ++ 4294967295 ∷ [] = c.push-3.ensures.items ∙ cond-true (is_ok c.push-3.result) (f.reasons.items ++ 4294967295 ∷ []) f.reasons.items (c.push-3.ensures.succeeds (omega (arith, c.self.invariant.reasons_room))) in
    let place : c.len-place.result ≡ length f.lits.items = c.len-place.ensures ∙ long in
    rw (← c.self.view_is, lits, reasons, marks, place, c.keep_question.ensures.items) refl

pub keep_question-requires : goal.keep_question-requires
keep_question-requires c =
    let d = (goal.at.keep_question-requires c).After-len-place in
    let f = c.self.inside in
    let r : length f.lits.items < f.count = room d in
    let long : vec_len f.questions ≡ length f.questions.items = f.questions.ok.0 in
    let same : length f.questions.items ≡ length f.marks.items = c.self.invariant.questions in
    let few : length f.marks.items ≤ length f.lits.items = c.self.invariant.held.marks_few in
    omega (arith, c.self.invariant.questions_room)

pub mark-requires-clause-some : goal.mark-requires-clause-some
mark-requires-clause-some c = let f = c.self.inside in (fits_in f.count f.ins f.lits.items c.args.lit c.self.invariant.ins (rw (← c.self.view_is) at c.requires.over)).0

pub mark-requires-clause-space : goal.mark-requires-clause-space
mark-requires-clause-space c = let f = c.self.inside in (fits_in f.count f.ins f.lits.items c.args.lit c.self.invariant.ins (rw (← c.self.view_is) at c.requires.over)).1
