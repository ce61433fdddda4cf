-- Places in order, what lies at them, and what is left of it where blocks change elsewhere.
use Rattle.std.proofs.Common.{◌≡◌, ◌<◌, ◌≤◌, ◌+◌, ◌-◌, ℕ, zero, suc, List, [], ◌∷◌, ◌++◌, length, take, drop, get_or, refl, sym, ap, ◌∙◌, arith}
use Rattle.std.specs.Prelude.{slice_get, slice_range, Some}
use Rattle.solv_pack.specs.declared.place.Place.{Place}
use Rattle.solv_pack.specs.Inner.Layout.{block_at, rule_in, rules_in, IsInside, AreInside, AreBehind}
use Rattle.solv_pack.specs.Inner.Moving.{AllBefore}
use Rattle.solv_pack.proofs.Moves.{drop_further}
use Rattle.solv_list.proofs.Layouts.{range-front}

pub length_rules_in : {X : Type 0} (words : List (List X)) (ps : List Place) → length (rules_in words ps) ≡ length ps
length_rules_in words [] = refl
length_rules_in words (p ∷ ps) = ap (λ n. suc n) (length_rules_in words ps)

pub rules_in-append : {X : Type 0} (words : List (List X)) (ps qs : List Place) → rules_in words (ps ++ qs) ≡ rules_in words ps ++ rules_in words qs
rules_in-append words [] qs = refl
rules_in-append words (p ∷ ps) qs = ap (λ t. rule_in words p ∷ t) (rules_in-append words ps qs)

pub inside-append : {X : Type 0} (words : List (List X)) (ps qs : List Place) → AreInside words ps → AreInside words qs → AreInside words (ps ++ qs)
inside-append words [] qs h k = k
inside-append words (p ∷ ps) qs h k = (h.0, inside-append words ps qs h.1 k)

-- a rule by its number
pub rule_at : {X : Type 0} (words : List (List X)) (ps : List Place) (k : ℕ) (d : Place) → k < length ps → slice_get (rules_in words ps) k ≡ Some (rule_in words (get_or ps k d))
rule_at words [] k d lt = absurd (omega arith)
rule_at words (p ∷ ps) zero d lt = refl
rule_at words (p ∷ ps) (suc k) d lt = rule_at words ps k d (omega arith)

pub inside_at : {X : Type 0} (words : List (List X)) (ps : List Place) (k : ℕ) (d : Place) → AreInside words ps → k < length ps → IsInside words (get_or ps k d)
inside_at words [] k d h lt = absurd (omega arith)
inside_at words (p ∷ ps) zero d h lt = h.0
inside_at words (p ∷ ps) (suc k) d h lt = inside_at words ps k d h.1 (omega arith)

-- places after a point are after one before it
pub behind_sooner : (b s c t : ℕ) (ps : List Place) → AreBehind b s ps → c ≤ b → (c ≡ b → t ≤ s) → AreBehind c t ps
behind_sooner b s c t [] h le same = tt
behind_sooner b s c t (p ∷ ps) h le same = (omega (arith, h.0, le), sooner, h.2)
  where
    sooner : c ≡ p.block → t ≤ p.start
    sooner e =
        let whole : c ≡ b = omega (arith, h.0, le, e) in
        omega (arith, same whole, h.1 (sym whole ∙ e))

pub before_later : (b s c t : ℕ) (ps : List Place) → AllBefore b s ps → b ≤ c → (b ≡ c → s ≤ t) → AllBefore c t ps
before_later b s c t [] h le same = tt
before_later b s c t (p ∷ ps) h le same = ((omega (arith, h.0.0, le), later), before_later b s c t ps h.1 le same)
  where
    later : p.block ≡ c → p.start + p.len ≤ t
    later e =
        let whole : b ≡ c = omega (arith, h.0.0, le, e) in
        omega (arith, same whole, h.0.1 (e ∙ sym whole))

pub before-append : (b s : ℕ) (ps qs : List Place) → AllBefore b s ps → AllBefore b s qs → AllBefore b s (ps ++ qs)
before-append b s [] qs h k = k
before-append b s (p ∷ ps) qs h k = (h.0, before-append b s ps qs h.1 k)

-- one more place after all
pub behind_snoc : (b s : ℕ) (ps : List Place) (q : Place) → AreBehind b s ps → AllBefore q.block q.start ps → b ≤ q.block → (b ≡ q.block → s ≤ q.start) → AreBehind b s (ps ++ q ∷ [])
behind_snoc b s [] q h k le same = (le, same, tt)
behind_snoc b s (p ∷ ps) q h k le same = (h.0, h.1, behind_snoc p.block (p.start + p.len) ps q h.2 k.1 k.0.0 k.0.1)

pub range_back : {X : Type 0} (xs ys : List X) (a b from : ℕ) → from ≤ a → drop from xs ≡ drop from ys → slice_range xs a b ≡ slice_range ys a b
range_back xs ys a b from le e = ap (λ t. take (b - a) t) (drop_further xs ys from a le e)

-- the block of a place is as it was
pub same_block : {X : Type 0} (old new : List (List X)) (p : Place) → length new ≡ length old → block_at new p.block ≡ block_at old p.block → IsInside old p → (rule_in new p ≡ rule_in old p) × IsInside new p
same_block old new p count e h = (
  ap (λ t. slice_range t p.start (p.start + p.len)) e,
  record {
    there = omega (arith, h.there, count);
    whole = omega (arith, h.whole, ap (λ t. length t) e);
    short = h.short;
  },
)

-- it has the same up to the end of the place
pub same_front : {X : Type 0} (old new : List (List X)) (p : Place) (upto : ℕ) → length new ≡ length old → p.start + p.len ≤ upto → upto ≤ length (block_at new p.block) → take upto (block_at new p.block) ≡ take upto (block_at old p.block) → IsInside old p → (rule_in new p ≡ rule_in old p) × IsInside new p
same_front old new p upto count ends long e h = (
  range-front (block_at new p.block) (block_at old p.block) p.start (p.start + p.len) upto (omega arith) ends e,
  record {
    there = omega (arith, h.there, count);
    whole = omega (arith, ends, long);
    short = h.short;
  },
)

-- it has the same from before the place on
pub same_back : {X : Type 0} (old new : List (List X)) (p : Place) (from : ℕ) → length new ≡ length old → from ≤ p.start → length (block_at new p.block) ≡ length (block_at old p.block) → drop from (block_at new p.block) ≡ drop from (block_at old p.block) → IsInside old p → (rule_in new p ≡ rule_in old p) × IsInside new p
same_back old new p from count starts long e h = (
  range_back (block_at new p.block) (block_at old p.block) p.start (p.start + p.len) from starts e,
  record {
    there = omega (arith, h.there, count);
    whole = omega (arith, h.whole, long);
    short = h.short;
  },
)
