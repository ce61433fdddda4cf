-- A rule that was moved down within its block.
use Rattle.std.proofs.Common.{◌≡◌, ◌≤◌, ◌+◌, ◌-◌, ℕ, List, [], length, take, drop, sym, ap, ◌∙◌, subst, arith}
use Rattle.std.specs.Prelude.{slice_set}
use Rattle.std.specs.List.{copy_within}
use Rattle.std.proofs.lemmas.List.{length-drop, length-set, get_or-set_same, get_or-set_other, drop-drop}
use Rattle.std.proofs.lemmas.List.Edits.{length-paste, take-paste, drop-paste}
use Rattle.solv_pack.specs.declared.place.Place.{Place}
use Rattle.solv_pack.specs.Inner.Layout.{block_at, IsInside}
use Rattle.solv_pack.specs.Inner.Moving.{HasMoved}

-- lists with the same after a place have the same after a later one
pub drop_further : {X : Type 0} (xs ys : List X) (a b : ℕ) → a ≤ b → drop a xs ≡ drop a ys → drop b xs ≡ drop b ys
drop_further xs ys a b le e =
    let fit : a + (b - a) ≡ b = omega arith in
    ap (λ n. drop n xs) (sym fit) ∙ sym (drop-drop (b - a) a xs) ∙ ap (λ t. drop (b - a) t) e ∙ drop-drop (b - a) a ys ∙ ap (λ n. drop n ys) fit

module _ {X : Type 0} (old new : List (List X)) (from : Place) (start : ℕ) (is : new ≡ slice_set old from.block (copy_within (block_at old from.block) from.start (from.start + from.len) start)) (inside : IsInside old from) (le : start ≤ from.start) where
  abbrev xs : List X
  xs = block_at old from.block

  abbrev s : ℕ
  s = from.start

  abbrev m : ℕ
  m = (from.start + from.len) - from.start

  abbrev moved : List X
  moved = copy_within xs s (s + from.len) start

  count_is : m ≡ from.len
  count_is = omega arith

  here : block_at new from.block ≡ moved
  here = ap (λ t. block_at t from.block) is ∙ get_or-set_same old from.block moved [] inside.there

  inner : s + from.len ≤ length xs
  inner = inside.whole

  room : m ≤ length (drop s xs)
  room = rw (length-drop s xs) (omega (arith, inner))

  fits : start ≤ length xs
  fits = omega (arith, inner, le)

  whole : start + m ≤ length xs
  whole = omega (arith, inner, le)

  pub has_slid : HasMoved old new from from.block start
  has_slid = record {
    count = ap (λ t. length t) is ∙ length-set old from.block moved;
    other = λ k ne. ap (λ t. block_at t k) is ∙ get_or-set_other old from.block k moved [] ne;
    front = ap (λ n. take (start + n) (block_at new from.block)) (sym count_is) ∙ ap (λ t. take (start + m) t) here ∙ take-paste xs start (drop s xs) m fits room;
    back = λ _. ap (λ t. drop (s + from.len) t) here ∙ drop_further moved xs (start + m) (s + from.len) (omega (arith, le, count_is)) (drop-paste xs start (drop s xs) m fits room);
    long = λ _. ap (λ t. length t) here ∙ length-paste xs start (drop s xs) m whole room;
    reach = omega (arith, ap (λ t. length t) here, length-paste xs start (drop s xs) m whole room, inner, le);
  }

-- and where its block is named otherwise
pub has_slid_to : {X : Type 0} (old new : List (List X)) (from : Place) (block start : ℕ) → block ≡ from.block → HasMoved old new from from.block start → HasMoved old new from block start
has_slid_to old new from block start e h = let P : ℕ → Type 0 = λ b. HasMoved old new from b start in subst P (sym e) h
