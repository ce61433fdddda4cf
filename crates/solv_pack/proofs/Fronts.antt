-- The first of places in order: what lies at them, and the point after the last of them.
use Rattle.std.proofs.Common.{◌≡◌, ◌<◌, ◌≤◌, ◌+◌, ◌-◌, ℕ, zero, suc, List, [], ◌∷◌, length, take, get_or, refl, sym, ap, ◌∙◌, subst, arith}
use Rattle.std.specs.Prelude.{slice_set}
use Rattle.solv_pack.specs.declared.place.Place.{Place}
use Rattle.solv_pack.specs.Inner.Layout.{block_at, rule_in, rules_in, IsInside, AreInside, AreBehind}
use Rattle.solv_pack.specs.Inner.Moving.{AllBefore}
use Rattle.solv_pack.proofs.Places.{inside_at}
use Rattle.solv_pack.proofs.Changes.{behind_at, all_kept}

pub rules_front : {X : Type 0} (words : List (List X)) (count : ℕ) (ps : List Place) → rules_in words (take count ps) ≡ take count (rules_in words ps)
rules_front words zero ps = refl
rules_front words (suc n) [] = refl
rules_front words (suc n) (p ∷ ps) = ap (λ t. rule_in words p ∷ t) (rules_front words n ps)

pub inside_front : {X : Type 0} (words : List (List X)) (count : ℕ) (ps : List Place) → AreInside words ps → AreInside words (take count ps)
inside_front words zero ps h = tt
inside_front words (suc n) [] h = tt
inside_front words (suc n) (p ∷ ps) h = (h.0, inside_front words n ps h.1)

pub behind_front : (b s count : ℕ) (ps : List Place) → AreBehind b s ps → AreBehind b s (take count ps)
behind_front b s zero ps h = tt
behind_front b s (suc n) [] h = tt
behind_front b s (suc n) (p ∷ ps) h = (h.0, h.1, behind_front p.block (p.start + p.len) n ps h.2)

-- all places up to one end before its own end
pub before_end : (b s : ℕ) (ps : List Place) (k : ℕ) (d : Place) → AreBehind b s ps → k < length ps → AllBefore (get_or ps k d).block ((get_or ps k d).start + (get_or ps k d).len) (take (suc k) ps)
before_end b s [] k d h lt = absurd (omega arith)
before_end b s (p ∷ ps) zero d h lt = ((omega arith, λ e. omega arith), tt)
before_end b s (p ∷ ps) (suc k) d h lt =
    let r = behind_at p.block (p.start + p.len) ps k d h.2 (omega arith) in
    ((r.0, λ e. omega (arith, r.1 e)), before_end p.block (p.start + p.len) ps k d h.2 (omega arith))

-- the last of so many first places
pub record IsLast {X : Type 0} (words : List (List X)) (ps : List Place) (count : ℕ) (q : Place) : Type 0 where
  pub inside : IsInside words q
  pub before : AllBefore q.block (q.start + q.len) (take count ps)

pub last_is : {X : Type 0} (words : List (List X)) (ps shown : List Place) (count : ℕ) (q d : Place) → AreInside words ps → AreBehind 0 0 ps → count ≤ length ps → (count ≡ 0 → ⊥) → shown ≡ ps → get_or shown (count - 1) d ≡ q → IsLast words ps count q
last_is words ps shown count q d h k le some same at =
    let k1 : suc (count - 1) ≡ count = omega (arith, some) in
    let lt : count - 1 < length ps = omega (arith, k1, le) in
    let e : get_or ps (count - 1) d ≡ q = ap (λ t. get_or t (count - 1) d) (sym same) ∙ at in
    let last = get_or ps (count - 1) d in
    let P : Place → Type 0 = λ p. IsLast words ps count p in
    let Q : ℕ → Type 0 = λ n. AllBefore last.block (last.start + last.len) (take n ps) in
    subst P e (record {
      inside = inside_at words ps (count - 1) d h lt;
      before = subst Q k1 (before_end 0 0 ps (count - 1) d k lt);
    })

-- the first rules are kept where what is after the last of them is let go
pub front_kept : {X : Type 0} (words new : List (List X)) (ps : List Place) (count : ℕ) (q : Place) → IsLast words ps count q → AreInside words ps → new ≡ take (q.block + 1) (slice_set words q.block (take (q.start + q.len) (block_at words q.block)))
    → (rules_in new (take count ps) ≡ take count (rules_in words ps)) × AreInside new (take count ps)
front_kept words new ps count q last h is =
    let both = all_kept words new q.block (q.start + q.len) is last.inside.whole (take count ps) last.before (inside_front words count ps h) in
    (both.0 ∙ rules_front words count ps, both.1)
