-- Blocks seen as the lists of their words and of their rooms.
use Rattle.std.proofs.Common.{◌≡◌, ◌<◌, ◌≤◌, ◌+◌, ◌-◌, ◌^◌, ℕ, zero, suc, List, [], ◌∷◌, ◌++◌, length, take, drop, get_or, sym, ap, ◌∙◌, arith, length-append}
use Rattle.std.specs.Prelude.{slice_range, slice_set, swap}
use Rattle.std.proofs.lemmas.List.{map-set, get_or-map, length-drop, get_or_append_left, get_or-append_right, set-append_left}
use Rattle.std.proofs.lemmas.List.Edits.{length-swap}
use Rattle.std.proofs.Math.Seq.{map-set_same}
use Rattle.solv_pack.specs.declared.block.Block.{Block}
use Rattle.solv_pack.specs.Inner.Lending.{with_words}
use Rattle.solv_pack.specs.declared.place.Place.{Place}
use Rattle.solv_pack.specs.Inner.Layout.{words_of, rooms_of, block_at, rule_in}
use Rattle.solv_pack.proofs.BlockEl.{with_words_is}

module _ {X Z : Type 0} (bs : List (Block X Z)) (k : ℕ) where
  pub words_set : (b : Block X Z) → words_of (slice_set bs k b) ≡ slice_set (words_of bs) k b.items
  words_set b = map-set (λ b. b.items) bs k b

  pub rooms_set : (b d : Block X Z) → b.cap ≡ (get_or bs k d).cap → rooms_of (slice_set bs k b) ≡ rooms_of bs
  rooms_set b d e = map-set_same (λ b. b.cap) bs k b d e

  pub block_is : (d : Block X Z) → k < length bs → block_at (words_of bs) k ≡ (get_or bs k d).items
  block_is d lt = get_or-map (λ b. b.items) bs k d [] lt

  -- a block's words are now these
  pub words_changed : (d : Block X Z) (shown ws now : List X) → k < length bs → shown ≡ (get_or bs k d).items → length ws ≡ length shown → (shown ≡ block_at (words_of bs) k → ws ≡ now)
      → words_of (slice_set bs k (with_words (get_or bs k d) ws)) ≡ slice_set (words_of bs) k now
  words_changed d shown ws now lt seen size e =
      let b = get_or bs k d in
      words_set (with_words b ws) ∙ ap (λ t. slice_set (words_of bs) k t) (with_words_is b ws (size ∙ ap (λ t. length t) seen ∙ sym b.ok.0) ∙ e (seen ∙ sym (block_is d lt)))

  -- two of a block's words change places
  pub words_swapped : (i j : ℕ) (d : Block X Z) (shown ws : List X) → k < length bs → shown ≡ (get_or bs k d).items → ws ≡ swap shown i j
      → words_of (slice_set bs k (with_words (get_or bs k d) ws)) ≡ slice_set (words_of bs) k (swap (block_at (words_of bs) k) i j)
  words_swapped i j d shown ws lt seen e =
      let b = get_or bs k d in
      let size : length ws ≡ b.len = ap (λ t. length t) e ∙ length-swap shown i j ∙ ap (λ t. length t) seen ∙ sym b.ok.0 in
      words_set (with_words b ws)
      ∙ ap (λ t. slice_set (words_of bs) k t) (with_words_is b ws size ∙ e ∙ ap (λ t. swap t i j) (seen ∙ sym (block_is d lt)))

-- a block's words get more after them
pub words_longer : {X Z : Type 0} (bs : List (Block X Z)) (k : ℕ) (b d : Block X Z) (more : List X) → k < length bs → b.items ≡ (get_or bs k d).items ++ more
    → words_of (slice_set bs k b) ≡ slice_set (words_of bs) k (block_at (words_of bs) k ++ more)
words_longer bs k b d more lt e = words_set bs k b ∙ ap (λ t. slice_set (words_of bs) k t) (e ∙ ap (λ t. t ++ more) (sym (block_is bs k d lt)))

-- no block has too many words to count
pub words_few : {X Z : Type 0} (bs : List (Block X Z)) (k : ℕ) → length (block_at (words_of bs) k) < 2 ^ 32
words_few [] k = omega arith
words_few (b ∷ bs) zero = omega (arith, b.ok.0, b.ok.1, b.small)
words_few (b ∷ bs) (suc k) = words_few bs k

-- there is room for the next of what is written
pub room_next : {X Z : Type 0} (b first : Block X Z) (i : ℕ) (xs : List X) → b.items ++ drop i xs ≡ first.items ++ xs → b.cap ≡ first.cap → length first.items + length xs ≤ first.cap → i < length xs → b.len < b.cap
room_next b first i xs e room fits lt =
    omega (arith, b.ok.0, ap (λ t. length t) e, length-append b.items (drop i xs), length-append first.items xs, length-drop i xs, room)

-- a block among the first ones gets what lies in the first of the others
module _ {X Z : Type 0} (bs front back : List (Block X Z)) (from : Place) (k : ℕ) (b d e : Block X Z) (parts : bs ≡ front ++ back) (count : length front ≡ from.block) (before : k < from.block) where
  within : k < length front
  within = omega (arith, count, before)

  whole_set : slice_set front k b ++ back ≡ slice_set bs k b
  whole_set = sym (set-append_left front back k b within) ∙ ap (λ t. slice_set t k b) (sym parts)

  first_is : get_or front k d ≡ get_or bs k d
  first_is = sym (get_or_append_left front back d k within) ∙ ap (λ t. get_or t k d) (sym parts)

  other_is : get_or back 0 e ≡ get_or bs from.block e
  other_is =
      let none : from.block - from.block ≡ 0 = omega arith in
      sym (ap (λ t. get_or t from.block e) parts ∙ get_or-append_right front back from.block from.block e count (omega arith) ∙ ap (λ n. get_or back n e) none)

  pub words_carried : (start : ℕ) (lits : List X) → from.block < length bs → b.items ≡ take start (get_or front k d).items ++ lits → lits ≡ slice_range (get_or back 0 e).items from.start (from.start + from.len)
      → words_of (slice_set front k b ++ back) ≡ slice_set (words_of bs) k (take start (block_at (words_of bs) k) ++ rule_in (words_of bs) from)
  words_carried start lits held items seen =
      let here : k < length bs = omega (arith, held, before) in
      ap (λ t. words_of t) whole_set ∙ words_set bs k b
      ∙ ap (λ t. slice_set (words_of bs) k t)
      (items
      ∙ ap (λ t. take start t ++ lits) (ap (λ x. x.items) first_is ∙ sym (block_is bs k d here))
      ∙ ap (λ t. take start (block_at (words_of bs) k) ++ t) (seen ∙ ap (λ t. slice_range t from.start (from.start + from.len)) (ap (λ x. x.items) other_is ∙ sym (block_is bs from.block e held))))

  pub rooms_carried : b.cap ≡ (get_or front k d).cap → rooms_of (slice_set front k b ++ back) ≡ rooms_of bs
  rooms_carried e = ap (λ t. rooms_of t) whole_set ∙ rooms_set bs k b d (e ∙ ap (λ x. x.cap) first_is)
