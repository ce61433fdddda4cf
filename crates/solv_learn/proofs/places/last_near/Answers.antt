use Rattle.std.proofs.Common.{◌≡◌, ◌≤◌, ◌<◌, ℕ, ◌+◌, ◌*◌, ◌/◌, ◌%◌, ◌∙◌, false, subst, eqb, arith, get_or, Some, None}
use Rattle.std.specs.Int.{bit_at}
use Rattle.solv_trail.specs.Inner.Numbers.{has}
use Rattle.solv_learn.specs.Inner.Places.{IsLast}
use Rattle.solv_learn.proofs.Lasts.{none_of_word, last_of_word, below_top, above_top}
use Rattle.solv_learn.proofs.places.last_near.Goals as goal
use Rattle.solv_learn.proofs.places.last_near.Goals.{After-highest}

same : (c : After-highest) (i : ℕ) → i < c.args.end % 64 → eqb (bit_at c.lower.result i) 1 ≡ eqb (bit_at (get_or c.args.words.now (c.args.end / 64) 0) i) 1
same c i h = c.lower.ensures i ∙ below_top c.word_at.result (get_or c.args.words.now (c.args.end / 64) 0) (c.args.end % 64) i c.word_at.ensures h

none_above : (c : After-highest) (i : ℕ) → c.args.end % 64 ≤ i → eqb (bit_at c.lower.result i) 1 ≡ false
none_above c i h = c.lower.ensures i ∙ above_top c.word_at.result (c.args.end % 64) i h

pub returns-in-Some : goal.returns-in-Some
returns-in-Some c =
    let d = (goal.at.returns-in-Some c).After-highest in
    let P : ℕ → Type 0 = λ e. IsLast (has c.args.words.now) (c.args.end / 64 * 64) e (Some (c.args.end / 64 * 64 + c.in-Some.bit)) in
    subst P (omega arith) (last_of_word c.args.words.now (c.args.end / 64) c.lower.result (c.args.end % 64) (omega arith) (same d) (λ i h g. none_above d i h) c.in-Some.bit c.in-Some.ensures)

pub returns-in-None : goal.returns-in-None
returns-in-None c =
    let d = (goal.at.returns-in-None c).After-highest in
    let P : ℕ → Type 0 = λ e. IsLast (has c.args.words.now) (c.args.end / 64 * 64) e None in
    subst P (omega arith) (none_of_word c.args.words.now (c.args.end / 64) c.lower.result (c.args.end % 64) (omega arith) (same d) (λ i h g. none_above d i h) c.in-None.ensures)
