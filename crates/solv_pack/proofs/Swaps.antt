-- Two literals of a rule change places, within the block's words.
use Rattle.std.proofs.Common.{◌≡◌, ◌<◌, ◌≤◌, ◌+◌, ◌-◌, ℕ, List, [], ◌++◌, length, take, drop, get_or, refl, sym, ap, ◌∙◌, arith, length-append}
use Rattle.std.specs.Prelude.{slice_range, slice_set, swap}
use Rattle.std.proofs.lemmas.List.{length-set, get_or-set_same, get_or-set_other, length-map, length-take-le, length-drop}
use Rattle.std.proofs.lemmas.List.Edits.{length-swap}
use Rattle.std.proofs.lemmas.Slice.{take-put_mid_below, between-put_mid, drop-put_mid}
use borrow.Rule.Slice.PartMut.{put_mid}
use Rattle.solv_pack.specs.declared.block.Block.{Block}
use Rattle.solv_pack.specs.declared.place.Place.{Place}
use Rattle.solv_pack.specs.Inner.Lending.{with_words}
use Rattle.solv_pack.specs.Inner.Layout.{words_of, block_at, rule_in, IsInside}
use Rattle.solv_pack.specs.Inner.Moving.{HasChanged}
use Rattle.solv_pack.proofs.Blocks.{words_changed, block_is}
use Rattle.solv_pack.proofs.Views.{length_rule}

module _ {X : Type 0} (old new : List (List X)) (p : Place) (ys : List X) (m : ℕ) (inside : IsInside old p) (size : m ≡ p.len) (long : length ys ≡ m) (is : new ≡ slice_set old p.block (put_mid p.start m (block_at old p.block) ys)) where
  abbrev xs : List X
  xs = block_at old p.block

  here : block_at new p.block ≡ put_mid p.start m xs ys
  here = ap (λ t. block_at t p.block) is ∙ get_or-set_same old p.block (put_mid p.start m xs ys) [] inside.there

  fits : p.start ≤ length xs
  fits = omega (arith, inside.whole)

  back_is : drop (p.start + p.len) (put_mid p.start m xs ys) ≡ drop (p.start + p.len) xs
  back_is = drop-put_mid p.start m xs ys (p.start + p.len) (omega (arith, size)) fits long

  pub length-mid : length (put_mid p.start m xs ys) ≡ length xs
  length-mid =
      let back : List X = drop m (drop p.start xs) in
      let whole : length (put_mid p.start m xs ys) ≡ length (take p.start xs) + length (ys ++ back) = length-append (take p.start xs) (ys ++ back) in
      omega (arith, whole, length-append ys back, length-take-le p.start xs fits, length-drop m (drop p.start xs), length-drop p.start xs, long, size, inside.whole)

  pub has_changed : HasChanged old new p ys
  has_changed = record {
    count = ap (λ t. length t) is ∙ length-set old p.block (put_mid p.start m xs ys);
    other = λ k ne. ap (λ t. block_at t k) is ∙ get_or-set_other old p.block k (put_mid p.start m xs ys) [] ne;
    front = ap (λ t. take p.start t) here ∙ take-put_mid_below p.start m xs ys p.start (omega arith) fits;
    is = ap (λ t. slice_range t p.start (p.start + p.len)) here ∙ between-put_mid p.start m xs ys (p.start + p.len) fits (long ∙ size ∙ (omega arith));
    back = ap (λ t. drop (p.start + p.len) t) here ∙ back_is;
    long = ap (λ t. length t) here ∙ length-mid;
  }

pub swapped_there : {X Z : Type 0} (bs : List (Block X Z)) (p : Place) (i j : ℕ) (d : Block X Z) (shown ys : List X) → IsInside (words_of bs) p → shown ≡ (get_or bs p.block d).items → ys ≡ swap (slice_range shown p.start (p.start + p.len)) i j
    → HasChanged (words_of bs) (words_of (slice_set bs p.block (with_words (get_or bs p.block d) (put_mid p.start ((p.start + p.len) - p.start) shown ys)))) p (swap (rule_in (words_of bs) p) i j)
swapped_there bs p i j d shown ys inside seen e =
    let m = (p.start + p.len) - p.start in
    let W = words_of bs in
    let held : p.block < length bs = omega (arith, inside.there, length-map bs (λ b. b.items)) in
    let same : shown ≡ block_at W p.block = seen ∙ sym (block_is bs p.block d held) in
    let size : m ≡ p.len = omega arith in
    let ys_are : ys ≡ swap (rule_in W p) i j = e ∙ ap (λ t. swap (slice_range t p.start (p.start + p.len)) i j) same in
    let long : length ys ≡ m = ap (λ t. length t) ys_are ∙ length-swap (rule_in W p) i j ∙ length_rule W p inside ∙ sym size in
    let whole : length (put_mid p.start m shown ys) ≡ length shown = rw same (length-mid W (slice_set W p.block (put_mid p.start m (block_at W p.block) ys)) p ys m inside size long refl) in
    let new_is = words_changed bs p.block d shown (put_mid p.start m shown ys) (put_mid p.start m (block_at W p.block) ys) held seen whole (λ s. ap (λ t. put_mid p.start m t ys) s) in
    rw (← ys_are) (has_changed W _ p ys m inside size long new_is)
