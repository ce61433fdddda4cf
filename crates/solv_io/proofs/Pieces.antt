-- Pieces appended one after another.
use Rattle.std.proofs.Common.{ℕ, ◌≡◌, ◌+◌, ◌<◌, ◌≤◌, ◌∙◌, List, ◌++◌, length, take, drop, refl, sym, ap, arith, append_assoc, length-append, length-drop, length-take-le, take_at, take_all, replicate, ◌-◌, Option, Some, None}
use Rattle.std.specs.Io.KnownBytes.{Consumes, IsAtEnd}
use Rattle.std.proofs.Math.Seq.{take-add}
use Rattle.std.proofs.lemmas.List.{take-append-drop, length-replicate}
use Rattle.solv_io.specs.Fetches.{AppendsUpTo}
use Rattle.solv_io.specs.Reading.{HasReadPiece}
use Rattle.solv_io.specs.Writes.{then_bytes}

-- a prefix of a piece, and a prefix of what follows it, are a longer prefix
pub then_bytes-take : (old : Option (List ℕ)) (piece : List ℕ) (a n : ℕ) → then_bytes (then_bytes old (take a piece)) (take n (drop a piece)) ≡ then_bytes old (take (a + n) piece)
then_bytes-take None piece a n = refl
then_bytes-take (Some bytes) piece a n = rw (take-add a n piece, append_assoc) refl

-- a list that begins with another, and is longer by so much, is that list and a piece of so much
pub AppendsUpTo-prefix : (most : ℕ) (old new : List ℕ) → take (length old) new ≡ old → length new ≤ length old + most → AppendsUpTo most old new
AppendsUpTo-prefix most old new front bound =
    (drop (length old) new, rw (length-drop (length old) new) (omega arith), sym (take-append-drop (length old) new) ∙ ap (λ xs. xs ++ drop (length old) new) front)

-- a list that was filled up for a piece, of which the first n places were read
module _ (most n len start : ℕ) (left rest : Option (List ℕ)) (old filled lent whole new : List ℕ) where
  abbrev zeros : List ℕ
  zeros = replicate (start + most - len) 0

  pub piece_behind : len ≡ length old → start ≡ len → filled ≡ take (start + most) old ++ zeros → lent ≡ filled → take start whole ≡ take start lent → length whole ≡ length lent → start + n ≤ length whole
      → Consumes left rest (take n (drop start whole)) → (n ≡ 0 → start < length whole → IsAtEnd rest) → new ≡ take (start + n) whole → HasReadPiece most n left rest old new
  piece_behind is_len at filled_is same front size fits taken end is =
      let room : filled ≡ old ++ zeros = filled_is ∙ ap (λ xs. xs ++ zeros) (take_all (start + most) old (omega arith)) in
      let many : length zeros ≡ start + most - len = length-replicate {A = ℕ} (start + most - len) 0 in
      let long : length whole ≡ length old + (start + most - len) = size ∙ ap length same ∙ ap length room ∙ length-append old zeros ∙ ap (λ k. length old + k) many in
      let kept : take start whole ≡ old = front ∙ ap (take start) same ∙ ap (take start) room ∙ take_at old zeros start (sym (at ∙ is_len)) in
      record {
        piece = take n (drop start whole);
        is = is ∙ take-add start n whole ∙ ap (λ xs. xs ++ take n (drop start whole)) kept;
        count = length-take-le n (drop start whole) (rw (length-drop start whole) (omega arith));
        within = omega arith;
        taken = taken;
        end = λ none some. end none (omega arith);
      }
