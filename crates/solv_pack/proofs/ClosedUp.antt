-- Closing up: the rules that are kept move down, from first to last, and those that are still to come stay as they are.
use Rattle.std.proofs.Common.{◌≡◌, ◌<◌, ◌≤◌, ◌+◌, ℕ, Bool, true, false, List, [], ◌∷◌, ◌++◌, length, take, drop, get_or, inl, inr, refl, sym, ap, ◌∙◌, subst, arith, append_assoc}
use Rattle.std.specs.Prelude.{slice_set}
use Rattle.std.proofs.lemmas.List.{append-nil, take-take, length-take-le, drop_more, drop_all, take_more_set, drop-set-lt, drop_at, take_at, length-set}
use Rattle.solv_pack.specs.declared.place.Place.{Place}
use Rattle.solv_pack.specs.Inner.Packing.{kept}
use Rattle.solv_pack.specs.Inner.Layout.{block_at, rule_in, rules_in, IsInside, AreInside, AreBehind}
use Rattle.solv_pack.specs.Inner.Moving.{IsPoint, IsTarget, HasMoved, EndsBefore, AllBefore, IsClosed}
use Rattle.solv_pack.proofs.Places.{rules_in-append, inside-append, behind_sooner, before_later, before-append, behind_snoc, same_block, same_front, same_back}
use Rattle.std.proofs.lemmas.Bool.{cases_eq}
use Rattle.solv_list.proofs.Layouts.{cons, range_is}

-- some rules are closed up, and those that are left make the whole with them
pub record IsClosing {X : Type 0} (whole : List (List X)) (words : List (List X)) (places : List Place) (keep : List Bool) (i count block start : ℕ) : Type 0 where
  pub done_inside : AreInside words (take count places)
  pub done_behind : AreBehind 0 0 (take count places)
  pub done_before : AllBefore block start (take count places)
  pub left_inside : AreInside words (drop i places)
  pub left_behind : AreBehind block start (drop i places)
  pub rules : rules_in words (take count places) ++ kept (drop i keep) (rules_in words (drop i places)) ≡ whole
  pub written : start ≤ length (block_at words block)
  pub fewer : count ≤ i
  pub each : length keep ≡ length places

pub closing_start : {X : Type 0} (words : List (List X)) (places : List Place) (keep : List Bool) → AreInside words places → AreBehind 0 0 places → length keep ≡ length places → IsClosing (kept keep (rules_in words places)) words places keep 0 0 0 0
closing_start words places keep h k each = record {
  done_inside = tt;
  done_behind = tt;
  done_before = tt;
  left_inside = h;
  left_behind = k;
  rules = refl;
  written = omega arith;
  fewer = omega arith;
  each = each;
}

kept_all : {X : Type 0} (keep : List Bool) (rules : List X) → keep ≡ [] → kept keep rules ≡ []
kept_all keep rules e = rw e refl

-- a rule moved to a point: what is before the point it was moved from, and what is after its place, stays
module _ {X : Type 0} (old new : List (List X)) (rooms : List ℕ) (from : Place) (block start to_block to_start : ℕ) (target : IsTarget old rooms from block start to_block to_start) (moved : HasMoved old new from to_block to_start) where
  -- before
  stays_before : (p : Place) → EndsBefore to_block to_start p → IsInside old p → (rule_in new p ≡ rule_in old p) × IsInside new p
  stays_before p ends h = elim (cases_eq p.block to_block) [
    | inl e ↦ at_block e
    | inr n ↦ same_block old new p moved.count (moved.other p.block n) h
  ]
    where
      at_block : p.block ≡ to_block → (rule_in new p ≡ rule_in old p) × IsInside new p
      at_block e = same_front old new p to_start moved.count (ends.1 e) (rw e (omega (arith, moved.reach))) (rw e front) h
        where
          front : take to_start (block_at new to_block) ≡ take to_start (block_at old to_block)
          front =
              sym (take-take to_start (to_start + from.len) (block_at new to_block) (omega arith))
              ∙ ap (λ t. take to_start t) moved.front
              ∙ take_at (take to_start (block_at old to_block)) (rule_in old from) to_start (length-take-le to_start (block_at old to_block) target.point.written)

  pub all_before : (ps : List Place) → AllBefore to_block to_start ps → AreInside old ps → (rules_in new ps ≡ rules_in old ps) × AreInside new ps
  all_before [] b h = (refl, tt)
  all_before (p ∷ ps) b h =
      let one = stays_before p b.0 h.0 in let more = all_before ps b.1 h.1 in
      (cons (rule_in new p) (rule_in old p) (rules_in new ps) (rules_in old ps) one.0 more.0, (one.1, more.1))

  -- after
  stays_behind : (p : Place) → from.block ≤ p.block → (from.block ≡ p.block → from.start + from.len ≤ p.start) → IsInside old p → (rule_in new p ≡ rule_in old p) × IsInside new p
  stays_behind p le starts h = elim (cases_eq p.block to_block) [
    | inl e ↦ at_block e
    | inr n ↦ same_block old new p moved.count (moved.other p.block n) h
  ]
    where
      at_block : p.block ≡ to_block → (rule_in new p ≡ rule_in old p) × IsInside new p
      at_block e =
          let here : to_block ≡ from.block = omega (arith, e, le, target.point.before) in
          same_back old new p (from.start + from.len) moved.count (starts (sym here ∙ sym e)) (rw e (moved.long here)) (rw e (moved.back here)) h

  pub all_behind : (b s : ℕ) (ps : List Place) → from.block ≤ b → (from.block ≡ b → from.start + from.len ≤ s) → AreBehind b s ps → AreInside old ps → (rules_in new ps ≡ rules_in old ps) × AreInside new ps
  all_behind b s [] le same k h = (refl, tt)
  all_behind b s (p ∷ ps) le same k h =
      let one = stays_behind p (omega (arith, le, k.0)) starts h.0 in let more = all_behind p.block (p.start + p.len) ps (omega (arith, le, k.0)) ends k.2 h.1 in
      (cons (rule_in new p) (rule_in old p) (rules_in new ps) (rules_in old ps) one.0 more.0, (one.1, more.1))
    where
      starts : from.block ≡ p.block → from.start + from.len ≤ p.start
      starts e =
          let at : from.block ≡ b = omega (arith, e, le, k.0) in
          omega (arith, same at, k.1 (sym at ∙ e))

      ends : from.block ≡ p.block → from.start + from.len ≤ p.start + p.len
      ends e = omega (arith, starts e)

  -- the rule itself
  abbrev pub to : Place
  to = record { block = to_block; len = from.len; start = to_start }

  pub moved_is : rule_in new to ≡ rule_in old from
  moved_is =
      range_is (block_at new to_block) to_start (to_start + from.len) (omega arith)
      ∙ ap (λ t. drop to_start t) moved.front
      ∙ drop_at (take to_start (block_at old to_block)) (rule_in old from) to_start (length-take-le to_start (block_at old to_block) target.point.written)

  pub moved_inside : IsInside old from → IsInside new to
  moved_inside h = record {
    there = omega (arith, target.point.before, h.there, moved.count);
    whole = moved.reach;
    short = h.short;
  }

module _ {X : Type 0} (whole : List (List X)) (words : List (List X)) (places : List Place) (keep : List Bool) (i count block start : ℕ) (h : IsClosing whole words places keep i count block start) where
  -- at the end
  pub closed : length keep ≤ i → IsClosed whole words (take count places) block start
  closed past = record {
    are =
        sym (append-nil (rules_in words (take count places)))
        ∙ ap (λ t. rules_in words (take count places) ++ t) (sym (kept_all (drop i keep) (rules_in words (drop i places)) (drop_all i keep past)))
        ∙ h.rules;
    inside = h.done_inside;
    behind = h.done_behind;
    before = h.done_before;
    written = h.written;
  }

  module _ (p d : Place) (within : i < length places) (is : p ≡ get_or places i d) where
    next_place : drop i places ≡ p ∷ drop (i + 1) places
    next_place = drop_more places i d within ∙ ap (λ q. q ∷ drop (i + 1) places) (sym is)

    inside_now : AreInside words (p ∷ drop (i + 1) places)
    inside_now = let P : List Place → Type 0 = λ t. AreInside words t in subst P next_place h.left_inside

    behind_now : AreBehind block start (p ∷ drop (i + 1) places)
    behind_now = let P : List Place → Type 0 = λ t. AreBehind block start t in subst P next_place h.left_behind

    pub next_inside : IsInside words p
    next_inside = inside_now.0

    pub next_point : IsPoint words p block start
    next_point = record { before = behind_now.0; here = behind_now.1; written = h.written }

    rules_now : (b : Bool) → drop i keep ≡ b ∷ drop (i + 1) keep → rules_in words (take count places) ++ kept (b ∷ drop (i + 1) keep) (rule_in words p ∷ rules_in words (drop (i + 1) places)) ≡ whole
    rules_now b now = rw (now, next_place) at h.rules

    -- a rule that is let go
    pub closing_past : drop i keep ≡ false ∷ drop (i + 1) keep → IsClosing whole words places keep (i + 1) count block start
    closing_past now = record {
      done_inside = h.done_inside;
      done_behind = h.done_behind;
      done_before = h.done_before;
      left_inside = inside_now.1;
      left_behind = behind_sooner p.block (p.start + p.len) block start (drop (i + 1) places) behind_now.2 behind_now.0 (λ e. omega (arith, behind_now.1 e));
      rules = rules_now false now;
      written = h.written;
      fewer = omega (arith, h.fewer);
      each = h.each;
    }

    -- a rule that is kept
    module _ (now : drop i keep ≡ true ∷ drop (i + 1) keep) (new : List (List X)) (rooms : List ℕ) (to_block to_start : ℕ) (target : IsTarget words rooms p block start to_block to_start) (moved : HasMoved words new p to_block to_start) where
      abbrev q : Place
      q = to words new rooms p block start to_block to_start target moved

      abbrev rest : List Place
      rest = drop (i + 1) places

      abbrev done : List Place
      done = take count places

      before : AllBefore to_block to_start done
      before = before_later block start to_block to_start done h.done_before target.later target.same

      front : (rules_in new done ≡ rules_in words done) × AreInside new done
      front = all_before words new rooms p block start to_block to_start target moved done before h.done_inside

      back : (rules_in new rest ≡ rules_in words rest) × AreInside new rest
      back = all_behind words new rooms p block start to_block to_start target moved p.block (p.start + p.len) rest (omega arith) (λ e. omega arith) behind_now.2 inside_now.1

      places_now : take (count + 1) (slice_set places count q) ≡ done ++ q ∷ []
      places_now = take_more_set places count q (omega (arith, h.fewer, within))

      places_left : drop (i + 1) (slice_set places count q) ≡ rest
      places_left = drop-set-lt (i + 1) places count q (omega (arith, h.fewer))

      one_more : rules_in new (done ++ q ∷ []) ≡ rules_in words done ++ rule_in words p ∷ []
      one_more =
          rules_in-append new done (q ∷ [])
          ∙ ap (λ t. t ++ rule_in new q ∷ []) front.0
          ∙ ap (λ t. rules_in words done ++ t ∷ []) (moved_is words new rooms p block start to_block to_start target moved)

      same_point : to_block ≡ p.block → to_start + p.len ≤ p.start + p.len
      same_point e = omega (arith, target.point.here e)

      pub closing_kept : IsClosing whole new (slice_set places count q) keep (i + 1) (count + 1) to_block (to_start + p.len)
      closing_kept = record {
        done_inside = rw places_now (inside-append new done (q ∷ []) front.1 (moved_inside words new rooms p block start to_block to_start target moved next_inside, tt));
        done_behind = rw places_now (behind_snoc 0 0 done q h.done_behind before (omega arith) (λ e. omega arith));
        done_before = rw places_now (before-append to_block (to_start + p.len) done (q ∷ []) (before_later to_block to_start to_block (to_start + p.len) done before (omega arith) (λ e. omega arith)) ((omega arith, λ e. omega arith), tt));
        left_inside = rw places_left back.1;
        left_behind = rw places_left (behind_sooner p.block (p.start + p.len) to_block (to_start + p.len) rest behind_now.2 target.point.before same_point);
        rules = rw (places_now, places_left, one_more, back.0) (append_assoc (rules_in words done) (rule_in words p ∷ []) (kept (drop (i + 1) keep) (rules_in words rest)) ∙ rules_now true now);
        written = moved.reach;
        fewer = omega (arith, h.fewer);
        each = h.each ∙ sym (length-set places count q);
      }
