-- What blocks that changed in one place do to the rules: one more rule, one block more, one rule changed, and what is after let go.
use Rattle.std.proofs.Common.{◌≡◌, ◌<◌, ◌≤◌, ◌+◌, ℕ, zero, suc, List, [], ◌∷◌, ◌++◌, length, take, drop, get_or, inl, inr, refl, sym, ap, ◌∙◌, subst, arith, length-append}
use Rattle.std.specs.Prelude.{slice_range, slice_set}
use Rattle.std.proofs.lemmas.List.{take-take, length-take-le, drop_at, take_at, get_or-set_same, get_or-set_other, length-set, get_or-take, length-take, take_all}
use Rattle.solv_pack.specs.declared.place.Place.{Place}
use Rattle.solv_pack.specs.Inner.Packing.{most_literals}
use Rattle.solv_pack.specs.Inner.Layout.{block_at, rule_in, rules_in, IsInside, AreInside, AreBehind, Grows}
use Rattle.solv_pack.specs.Inner.Moving.{EndsBefore, AllBefore, HasChanged}
use Rattle.solv_pack.proofs.Places.{rules_in-append, inside-append, behind_snoc, same_block, same_front, same_back}
use Rattle.std.proofs.lemmas.Bool.{cases_eq}
use Rattle.solv_list.proofs.Layouts.{cons, range_is}

-- a block more
pub all_grown : {X : Type 0} (old new : List (List X)) (ps : List Place) → Grows old new → AreInside old ps → (rules_in new ps ≡ rules_in old ps) × AreInside new ps
all_grown old new [] g h = (refl, tt)
all_grown old new (p ∷ ps) g h =
    let same : block_at new p.block ≡ block_at old p.block = g.same p.block h.0.there in
    let more = all_grown old new ps g h.1 in (
      cons (rule_in new p) (rule_in old p) (rules_in new ps) (rules_in old ps) (ap (λ t. slice_range t p.start (p.start + p.len)) same) more.0,
      (
        record {
          there = omega (arith, h.0.there, g.more);
          whole = omega (arith, h.0.whole, ap (λ t. length t) same);
          short = h.0.short;
        },
        more.1,
      ),
    )

-- a rule more, after the words of the last block
module _ {X : Type 0} (words new : List (List X)) (q : Place) (lits : List X) (last : q.block + 1 ≡ length words) (start : q.start ≡ length (block_at words q.block)) (len : q.len ≡ length lits) (is : new ≡ slice_set words q.block (block_at words q.block ++ lits)) where
  within : q.block < length words
  within = omega (arith, last)

  here : block_at new q.block ≡ block_at words q.block ++ lits
  here = ap (λ t. block_at t q.block) is ∙ get_or-set_same words q.block (block_at words q.block ++ lits) [] within

  count : length new ≡ length words
  count = ap (λ t. length t) is ∙ length-set words q.block (block_at words q.block ++ lits)

  reach : length (block_at new q.block) ≡ q.start + q.len
  reach = omega (arith, ap (λ t. length t) here, length-append (block_at words q.block) lits, start, len)

  front : take q.start (block_at new q.block) ≡ take q.start (block_at words q.block)
  front =
      ap (λ t. take q.start t) here
      ∙ take_at (block_at words q.block) lits q.start (sym start)
      ∙ sym (take_all q.start (block_at words q.block) (omega (arith, start)))

  stays : (p : Place) → IsInside words p → (rule_in new p ≡ rule_in words p) × IsInside new p
  stays p h = elim (cases_eq p.block q.block) [
    | inl e ↦ at_block e
    | inr n ↦ same_block words new p count (ap (λ t. block_at t p.block) is ∙ get_or-set_other words q.block p.block (block_at words q.block ++ lits) [] n) h
  ]
    where
      at_block : p.block ≡ q.block → (rule_in new p ≡ rule_in words p) × IsInside new p
      at_block e = same_front words new p q.start count (omega (arith, h.whole, start, ap (λ k. length (block_at words k)) e)) (rw e (omega (arith, reach))) (rw e front) h

  pub all_stay : (ps : List Place) → AreInside words ps → (rules_in new ps ≡ rules_in words ps) × AreInside new ps
  all_stay [] h = (refl, tt)
  all_stay (p ∷ ps) h =
      let one = stays p h.0 in let more = all_stay ps h.1 in
      (cons (rule_in new p) (rule_in words p) (rules_in new ps) (rules_in words ps) one.0 more.0, (one.1, more.1))

  all_before : (ps : List Place) → AreInside words ps → AllBefore q.block q.start ps
  all_before [] h = tt
  all_before (p ∷ ps) h = ((omega (arith, h.0.there, last), λ e. omega (arith, h.0.whole, start, ap (λ k. length (block_at words k)) e)), all_before ps h.1)

  added_is : rule_in new q ≡ lits
  added_is =
      range_is (block_at new q.block) q.start (q.start + q.len) (omega arith)
      ∙ ap (λ t. drop q.start t) (take_all (q.start + q.len) (block_at new q.block) (omega (arith, reach)) ∙ here)
      ∙ drop_at (block_at words q.block) lits q.start (sym start)

  pub added_rules : (ps : List Place) → AreInside words ps → rules_in new (ps ++ q ∷ []) ≡ rules_in words ps ++ lits ∷ []
  added_rules ps h = rules_in-append new ps (q ∷ []) ∙ ap (λ t. t ++ rule_in new q ∷ []) (all_stay ps h).0 ∙ ap (λ t. rules_in words ps ++ t ∷ []) added_is

  pub added_inside : (ps : List Place) → AreInside words ps → length lits ≤ most_literals → AreInside new (ps ++ q ∷ [])
  added_inside ps h short = inside-append new ps (q ∷ []) (all_stay ps h).1 (record { there = omega (arith, within, count); whole = omega (arith, reach); short = omega (arith, len, short) }, tt)

  pub added_behind : (ps : List Place) → AreInside words ps → AreBehind 0 0 ps → AreBehind 0 0 (ps ++ q ∷ [])
  added_behind ps h k = behind_snoc 0 0 ps q k (all_before ps h) (omega arith) (λ e. omega arith)

-- a rule changed
module _ {X : Type 0} (old new : List (List X)) (q : Place) (ys : List X) (c : HasChanged old new q ys) where
  inside_too : (p : Place) → IsInside old p → IsInside new p
  inside_too p h = elim (cases_eq p.block q.block) [
    | inl e ↦ record { there = omega (arith, h.there, c.count); whole = let same : length (block_at new p.block) ≡ length (block_at old p.block) = rw e c.long in omega (arith, h.whole, same); short = h.short }
    | inr n ↦ (same_block old new p c.count (c.other p.block n) h).1
  ]

  pub all_inside_too : (ps : List Place) → AreInside old ps → AreInside new ps
  all_inside_too [] h = tt
  all_inside_too (p ∷ ps) h = (inside_too p h.0, all_inside_too ps h.1)

  -- before the place
  same_before : (p : Place) → EndsBefore q.block q.start p → q.start ≤ length (block_at old q.block) → IsInside old p → rule_in new p ≡ rule_in old p
  same_before p ends le h = elim (cases_eq p.block q.block) [
    | inl e ↦ (same_front old new p q.start c.count (ends.1 e) (rw e (omega (arith, le, c.long))) (rw e c.front) h).0
    | inr n ↦ (same_block old new p c.count (c.other p.block n) h).0
  ]

  -- after it
  same_behind : (p : Place) → (q.block ≡ p.block → q.start + q.len ≤ p.start) → IsInside old p → rule_in new p ≡ rule_in old p
  same_behind p starts h = elim (cases_eq p.block q.block) [
    | inl e ↦ (same_back old new p (q.start + q.len) c.count (starts (sym e)) (rw e c.long) (rw e c.back) h).0
    | inr n ↦ (same_block old new p c.count (c.other p.block n) h).0
  ]

  all_same_behind : (b s : ℕ) (ps : List Place) → q.block ≤ b → (q.block ≡ b → q.start + q.len ≤ s) → AreBehind b s ps → AreInside old ps → rules_in new ps ≡ rules_in old ps
  all_same_behind b s [] le same k h = refl
  all_same_behind b s (p ∷ ps) le same k h =
      cons (rule_in new p) (rule_in old p) (rules_in new ps) (rules_in old ps) (same_behind p starts h.0) (all_same_behind p.block (p.start + p.len) ps (omega (arith, le, k.0)) (λ e. omega (arith, starts e)) k.2 h.1)
    where
      starts : q.block ≡ p.block → q.start + q.len ≤ p.start
      starts e =
          let at : q.block ≡ b = omega (arith, e, le, k.0) in
          omega (arith, same at, k.1 (sym at ∙ e))

-- a place is after those before it
pub behind_at : (b s : ℕ) (ps : List Place) (k : ℕ) (d : Place) → AreBehind b s ps → k < length ps → (b ≤ (get_or ps k d).block) × (b ≡ (get_or ps k d).block → s ≤ (get_or ps k d).start)
behind_at b s [] k d h lt = absurd (omega arith)
behind_at b s (p ∷ ps) zero d h lt = (h.0, h.1)
behind_at b s (p ∷ ps) (suc k) d h lt =
    let r = behind_at p.block (p.start + p.len) ps k d h.2 (omega arith) in
    (omega (arith, h.0, r.0), λ e. later r e)
  where
    later : (p.block ≤ (get_or ps k d).block) × (p.block ≡ (get_or ps k d).block → p.start + p.len ≤ (get_or ps k d).start) → b ≡ (get_or ps k d).block → s ≤ (get_or ps k d).start
    later r e =
        let at : b ≡ p.block = omega (arith, e, h.0, r.0) in
        omega (arith, h.1 at, r.1 (sym at ∙ e))

pub changed_rules : {X : Type 0} (old new : List (List X)) (ys : List X) (b s : ℕ) (ps : List Place) (k : ℕ) (d : Place) → HasChanged old new (get_or ps k d) ys → AreBehind b s ps → AreInside old ps → k < length ps
    → rules_in new ps ≡ slice_set (rules_in old ps) k ys
changed_rules old new ys b s [] k d c h i lt = absurd (omega arith)
changed_rules old new ys b s (p ∷ ps) zero d c h i lt =
    cons (rule_in new p) ys (rules_in new ps) (rules_in old ps) c.is (all_same_behind old new p ys c p.block (p.start + p.len) ps (omega arith) (λ e. omega arith) h.2 i.1)
changed_rules old new ys b s (p ∷ ps) (suc k) d c h i lt =
    let q = get_or ps k d in
    let held : k < length ps = omega arith in
    let le : q.start ≤ length (block_at old q.block) = omega (arith, (there ps k held i.1).whole) in
    cons (rule_in new p) (rule_in old p) (rules_in new ps) (slice_set (rules_in old ps) k ys) (same_before old new q ys c p (behind_at p.block (p.start + p.len) ps k d h.2 held) le i.0)
    (changed_rules old new ys p.block (p.start + p.len) ps k d c h.2 i.1 held)
  where
    there : (rs : List Place) (j : ℕ) → j < length rs → AreInside old rs → IsInside old (get_or rs j d)
    there [] j l a = absurd (omega arith)
    there (r ∷ rs) zero l a = a.0
    there (r ∷ rs) (suc j) l a = there rs j (omega arith) a.1

-- what is after a point is let go
module _ {X : Type 0} (words new : List (List X)) (block start : ℕ) (is : new ≡ take (block + 1) (slice_set words block (take start (block_at words block)))) (written : start ≤ length (block_at words block)) where
  abbrev cut : List (List X)
  cut = slice_set words block (take start (block_at words block))

  at : (k : ℕ) → k ≤ block → block_at new k ≡ block_at cut k
  at k le = ap (λ t. block_at t k) is ∙ get_or-take (block + 1) cut k [] (omega arith)

  keeps : (p : Place) → EndsBefore block start p → IsInside words p → (rule_in new p ≡ rule_in words p) × IsInside new p
  keeps p ends h = elim (cases_eq p.block block) [
    | inl e ↦ here e
    | inr n ↦ there n
  ]
    where
      long : p.block < length new
      long = omega (arith, h.there, ends.0, ap (λ t. length t) is, length-take (block + 1) cut, length-set words block (take start (block_at words block)))

      here : p.block ≡ block → (rule_in new p ≡ rule_in words p) × IsInside new p
      here e =
          let held : block < length words = omega (arith, e, h.there) in
          let now : block_at new p.block ≡ take start (block_at words p.block) = rw e (at block (omega arith) ∙ get_or-set_same words block (take start (block_at words block)) [] held) in
          let size : length (take start (block_at words p.block)) ≡ start = rw e (length-take-le start (block_at words block) written) in (
            range_is (block_at new p.block) p.start (p.start + p.len) (omega arith)
                ∙ ap (λ t. drop p.start (take (p.start + p.len) t)) now
                ∙ ap (λ t. drop p.start t) (take-take (p.start + p.len) start (block_at words p.block) (ends.1 e))
                ∙ sym (range_is (block_at words p.block) p.start (p.start + p.len) (omega arith)),
            record { there = long; whole = omega (arith, ends.1 e, ap (λ t. length t) now, size); short = h.short },
          )

      there : (p.block ≡ block → ⊥) → (rule_in new p ≡ rule_in words p) × IsInside new p
      there n =
          let same : block_at new p.block ≡ block_at words p.block = at p.block ends.0 ∙ get_or-set_other words block p.block (take start (block_at words block)) [] n in
          (ap (λ t. slice_range t p.start (p.start + p.len)) same, record { there = long; whole = omega (arith, h.whole, ap (λ t. length t) same); short = h.short })

  pub all_kept : (ps : List Place) → AllBefore block start ps → AreInside words ps → (rules_in new ps ≡ rules_in words ps) × AreInside new ps
  all_kept [] b h = (refl, tt)
  all_kept (p ∷ ps) b h =
      let one = keeps p b.0 h.0 in let more = all_kept ps b.1 h.1 in
      (cons (rule_in new p) (rule_in words p) (rules_in new ps) (rules_in words ps) one.0 more.0, (one.1, more.1))

-- the same of blocks that were lent, as its caller has them
pub record IsAdded {X : Type 0} (words new : List (List X)) (ps : List Place) (q : Place) (lits : List X) : Type 0 where
  pub rules : rules_in new (ps ++ q ∷ []) ≡ rules_in words ps ++ lits ∷ []
  pub inside : AreInside new (ps ++ q ∷ [])
  pub behind : AreBehind 0 0 (ps ++ q ∷ [])

pub added : {X : Type 0} (words shown new : List (List X)) (q : Place) (lits : List X) (ps : List Place) → shown ≡ words → q.block + 1 ≡ length shown → q.start ≡ length (block_at shown q.block) → q.len ≡ length lits → new ≡ slice_set shown q.block (block_at shown q.block ++ lits)
    → AreInside words ps → AreBehind 0 0 ps → length lits ≤ most_literals → IsAdded words new ps q lits
added {X} words shown new q lits ps e last start len is =
    let P : List (List X) → Type 0 = λ w. AreInside w ps → AreBehind 0 0 ps → length lits ≤ most_literals → IsAdded w new ps q lits in
    subst P e (λ i k s. record {
      rules = added_rules shown new q lits last start len is ps i;
      inside = added_inside shown new q lits last start len is ps i s;
      behind = added_behind shown new q lits last start len is ps i k;
    })
