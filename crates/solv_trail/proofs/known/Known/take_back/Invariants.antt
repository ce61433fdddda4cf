use Rattle.std.proofs.Common.{◌≡◌, ℕ, ◌<◌, ◌≤◌, length, take, get_or}
use Rattle.std.specs.Prelude.{vec_capacity}
use Rattle.solv_trail.specs.Inner.Held.{IsHeld, AreIn}
use Rattle.solv_trail.proofs.known.Known.take_back.Given as goal

abbrev pub invariant-loop-self : goal.invariant-loop-self
invariant-loop-self l = record {
  held : IsHeld l.self-inside.count l.self-inside.values.items l.self-inside.places.items l.self-inside.lits.items l.self-inside.reasons.items l.self-inside.marks.items;
  ins : AreIn l.self-inside.count l.self-inside.ins l.self-inside.lits.items;
  room : l.self-inside.count ≤ vec_capacity l.self-inside.lits;
  reasons_room : l.self-inside.count ≤ vec_capacity l.self-inside.reasons;
  marks_room : l.self-inside.count ≤ vec_capacity l.self-inside.marks;
  questions : l.self-inside.questions.items ≡ l.initial.self-inside.questions.items;
  questions_size : length l.self-inside.questions.items ≡ length l.self-inside.marks.items;
  questions_room : l.self-inside.count ≤ vec_capacity l.self-inside.questions;
  below : (k : ℕ) → k < length l.self-inside.marks.items → get_or l.self-inside.marks.items k 0 < l.end;
  few : length l.self-inside.marks.items ≤ l.end;
  far : l.end ≤ length l.self-inside.lits.items;
  lits : l.self-inside.lits.items ≡ take (length l.self-inside.lits.items) l.initial.self-inside.lits.items;
  reasons : l.self-inside.reasons.items ≡ take (length l.self-inside.lits.items) l.initial.self-inside.reasons.items;
  same : l.self-inside.count ≡ l.initial.self-inside.count;
  marks : l.self-inside.marks.items ≡ l.initial.self-inside.marks.items;
}

abbrev pub decreases-loop-self : goal.decreases-loop-self
decreases-loop-self l = length l.self-inside.lits.items
