use Rattle.std.proofs.Common.{◌≤◌, ◌<◌, ◌≡◌, ◌∙◌, ◌+◌, ◌-◌, ◌++◌, ◌∷◌, [], arith, vec_len, length, refl, ℕ, sym, ap, subst, take, get_or}
use Rattle.std.proofs.lemmas.List.{take_all, get_or-take, length-take-le, length_push}
use Rattle.solv_trail.specs.Inner.Held.{IsHeld, AreIn}
use Rattle.solv_trail.proofs.Holding.{held_marks_cut, held_pop, pop_take, last_split}
use Rattle.solv_trail.proofs.Ins.{one_less_in}
use Rattle.solv_trail.proofs.known.Known.take_back.Goals as goal

pub loop-self-init : goal.loop-self-init
loop-self-init c =
    let f = c.self.inside in
    let level : c.args.level ≤ length f.marks.items = rw (← c.self.view_is) at c.requires.level in
    let marks : c.truncate.new.self.items ≡ take c.args.level f.marks.items = c.truncate.ensures.items in
    let long : length (take c.args.level f.marks.items) ≡ c.args.level = length-take-le c.args.level f.marks.items level in
    let under : (k : ℕ) → k < c.args.level → get_or f.marks.items k 0 < c.args.end = rw (← c.self.view_is) at c.requires.below in
    let far : c.args.end ≤ length f.lits.items = rw (← c.self.view_is) at c.requires.end in
    let some : c.args.level ≤ c.args.end = c.requires.few in
    record {
      held = rw marks (held_marks_cut f.count f.values.items f.places.items f.lits.items f.reasons.items f.marks.items c.args.level level c.self.invariant.held);
      ins = c.self.invariant.ins;
      room = c.self.invariant.room;
      reasons_room = c.self.invariant.reasons_room;
      marks_room = omega (arith, c.self.invariant.marks_room, c.truncate.ensures.capacity);
      below = λ k h.
          let small : k < c.args.level = let q = h in omega (arith, ap length marks) in
          rw (marks, get_or-take c.args.level f.marks.items k 0 small) (under k small);
      few = rw (marks, long) some;
      far = far;
      lits = sym (take_all (length f.lits.items) f.lits.items (omega arith));
      reasons = let s : length f.reasons.items ≡ length f.lits.items = c.self.invariant.held.reasons_size in sym (take_all (length f.lits.items) f.reasons.items (omega arith));
      same = refl;
      marks = refl;
      questions = refl;
      questions_size = rw (c.truncate-2.ensures.items, marks, length-take-le c.args.level f.questions.items (omega (arith, c.self.invariant.questions)), long) refl;
      questions_room = omega (arith, c.self.invariant.questions_room, c.truncate-2.ensures.capacity);
    }

pub loop-self-preserved-in-Some : goal.loop-self-preserved-in-Some
loop-self-preserved-in-Some c =
    let f = c.loop-self.self-inside in
    let i = c.loop-self.invariant in
    let long : vec_len f.lits ≡ length f.lits.items = f.lits.ok.0 in
    let longs : vec_len f.reasons ≡ length f.reasons.items = f.reasons.ok.0 in
    let more : c.args.end < length f.lits.items = omega (arith, c.len.ensures) in
    let sizes : length f.reasons.items ≡ length f.lits.items = i.held.reasons_size in
    let lits : f.lits.items ≡ c.pop.new.self.items ++ c.in-Some.lit ∷ [] = c.in-Some.ensures.items in
    let short : length f.lits.items ≡ length c.pop.new.self.items + 1 = ap length lits ∙ length_push c.pop.new.self.items c.in-Some.lit in
    let k : ℕ = length c.pop.new.self.items in
    let split : f.reasons.items ≡ take k f.reasons.items ++ get_or f.reasons.items k 0 ∷ [] = last_split f.reasons.items k (omega arith) in
    let cut : c.pop-in-Some.new.self.items ≡ take k f.reasons.items = c.pop-in-Some.ensures.rest ∙ (let e : vec_len f.reasons - 1 ≡ k = omega arith in ap (λ v. take v f.reasons.items) e) in
    let shorter : length (take k f.reasons.items) ≡ k = length-take-le k f.reasons.items (omega arith) in
    let held : IsHeld f.count f.values.items f.places.items (c.pop.new.self.items ++ c.in-Some.lit ∷ []) (take k f.reasons.items ++ get_or f.reasons.items k 0 ∷ []) f.marks.items =
    let P : _ → Type 0 = λ v. IsHeld f.count f.values.items f.places.items v (take k f.reasons.items ++ get_or f.reasons.items k 0 ∷ []) f.marks.items in
    let Q : _ → Type 0 = λ v. IsHeld f.count f.values.items f.places.items f.lits.items v f.marks.items in
    subst P lits (subst Q split i.held) in
    record {
      held = rw (c.package.ensures.number, cut) (held_pop f.count f.values.items f.places.items c.pop.new.self.items c.in-Some.lit (take k f.reasons.items) (get_or f.reasons.items k 0) f.marks.items held
          (λ n h. let b : get_or f.marks.items n 0 < c.args.end = i.below n h in omega arith) (let w : length f.marks.items ≤ c.args.end = i.few in omega arith));
      ins = one_less_in f.count f.values.items f.places.items c.pop.new.self.items c.in-Some.lit (take k f.reasons.items) (get_or f.reasons.items k 0) f.marks.items held f.ins c.unmark.new.ins
          (let P : _ → Type 0 = λ v. AreIn f.count f.ins v in subst P lits i.ins) c.unmark.ensures.space c.unmark.ensures.unmarked;
      room = omega (arith, i.room, c.in-Some.ensures.capacity);
      reasons_room = omega (arith, i.reasons_room, c.pop-in-Some.ensures.capacity);
      marks_room = i.marks_room;
      below = i.below;
      few = i.few;
      far = omega arith;
      lits = pop_take c.pop.new.self.items c.in-Some.lit f.lits.items c.self.inside.lits.items (length f.lits.items) k lits i.lits refl (omega arith);
      reasons = cut ∙ pop_take (take k f.reasons.items) (get_or f.reasons.items k 0) f.reasons.items c.self.inside.reasons.items (length f.lits.items) k split i.reasons shorter (omega arith);
      same = i.same;
      marks = i.marks;
      questions = i.questions;
      questions_size = i.questions_size;
      questions_room = i.questions_room;
    }
