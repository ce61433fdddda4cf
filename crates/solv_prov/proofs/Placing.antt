-- What loops over the places of provides keep.
use Rattle.std.proofs.Common.{◌≡◌, ◌≤◌, ◌<◌, ◌+◌, ◌≢◌, ℕ, Bool, true, false, List, [], ◌∷◌, ◌++◌, length, slice_get, Some, None, refl, sym, ap, subst, ◌∙◌, arith, get_or, eq-eqb, rules, Bor}
use Rattle.std.specs.Prelude.{Option, IfSome, slice_index, slice_set, replicate, ◌==◌, nat_eq, if◌then◌else◌}
use Rattle.std.specs.Option.{option_copied}
use Rattle.std.proofs.lemmas.Bool.{eqb-true, or_left, or_right, true≢false}
use Rattle.std.proofs.lemmas.List.{get_or-set_same, get_or-set_other, get_or-replicate}
use Rattle.std.proofs.lemmas.List.Folds.{list_any-append}
use Rattle.std.proofs.lemmas.Option.{slice_get_past, slice_get_within}
use Rattle.solv_pool.specs.Prelude.{Held, is_among}
use Rattle.solv_prov.specs.declared.capability.Provide.{Provide}
use Rattle.solv_prov.specs.declared.ranking.Placed.{Placed}
use Rattle.indexmap.specs.IndexMap.{IndexMap, get}
use Rattle.solv_prov.specs.Inner.Groups.{group_at}
use Rattle.solv_prov.specs.declared.ranking.Ranks.{Ranks}
use Rattle.solv_prov.specs.Inner.Ranking.{has_evr, AreRanksIn, AreOthersAny, IsRanked, AreRanked}

-- what holds of all numbers below one, and of it
pub one_more : (P : ℕ → Type 0) (n : ℕ) → ((p : ℕ) → p < n → P p) → P n → (p : ℕ) → p < n + 1 → P p
one_more P n before here p lt = by (p == n) refl
  where
    by : (b : Bool) → (p == n) ≡ b → P p
    by true e = let same : n ≡ p = sym (eqb-true p n e) in subst P same here
    by false e = before p (let other : p ≢ n = λ same. true≢false (sym (eq-eqb p n same) ∙ e) in omega (arith, lt, other))

-- what holds of the entry at a place
pub holds_there : {T : Type 0} (P : T → Type 0) (xs : List T) (at : ℕ) (y x : T) → slice_get xs at ≡ Some y → P y → slice_get xs at ≡ Some x → P x
holds_there P xs at y x there holds here =
    let same : Some y ≡ Some x = sym there ∙ here in
    let one : y ≡ x = cc in
    subst P one holds

-- what holds of what there is
pub holds_of_some : {T : Type 0} (P : T → Type 0) (o : Option T) (x : T) → o ≡ Some x → IfSome o P → P x
holds_of_some P None x is h = absurd (cc)
holds_of_some P (Some y) x is h = let one : y ≡ x = cc in subst P one h

-- one more number in a list
pub among_more : (xs : List ℕ) (y p : ℕ) → is_among xs p ≡ true → is_among (xs ++ y ∷ []) p ≡ true
among_more xs y p h = list_any-append (λ x. x == p) xs (y ∷ []) ∙ or_left (is_among xs p) (is_among (y ∷ []) p) h

pub among_last : (xs : List ℕ) (p : ℕ) → is_among (xs ++ p ∷ []) p ≡ true
among_last xs p = list_any-append (λ x. x == p) xs (p ∷ []) ∙ or_right (is_among xs p) (is_among (p ∷ []) p) (or_left (p == p) false (eq-eqb p p refl))

-- the same of equal lists
pub same_ranks : (xs ys : List Provide) (order others : List Placed) (ranks : List ℕ) → xs ≡ ys → order ≡ others → AreRanksIn xs order ranks → AreRanksIn ys others ranks
same_ranks xs ys order others ranks a b h = subst (λ o. AreRanksIn ys o ranks) b (subst (λ l. AreRanksIn l order ranks) a h)

pub same_others : (xs ys : List Provide) (n m : ℕ) (ranks rs : List ℕ) → xs ≡ ys → n ≡ m → ranks ≡ rs → AreOthersAny xs n ranks → AreOthersAny ys m rs
same_others xs ys n m ranks rs a b c h = subst (AreOthersAny ys m) c (subst (λ k. AreOthersAny ys k ranks) b (subst (λ l. AreOthersAny l n ranks) a h))

pub same_unranked : (n m : ℕ) (ranks rs places : List ℕ) → n ≡ m → ranks ≡ rs → ((p : ℕ) → p < length ranks → n ≤ slice_index ranks p → is_among places p ≡ true)
    → (p : ℕ) → p < length rs → m ≤ slice_index rs p → is_among places p ≡ true
same_unranked n m ranks rs places b c h = subst (λ l. (p : ℕ) → p < length l → m ≤ slice_index l p → is_among places p ≡ true) c (subst (λ k. (p : ℕ) → p < length ranks → k ≤ slice_index ranks p → is_among places p ≡ true) b h)

-- no provide has a rank yet
pub no_ranks : (xs : List Provide) (order : List Placed) (n most : ℕ) → n ≡ length xs → length order ≤ most → AreRanksIn xs order (replicate n most)
no_ranks xs order n most count few p x placed at there =
    let within : p < n = let h = slice_get_within xs p x at in omega (arith, h, count) in
    let is : slice_index (replicate n most) p ≡ most = get_or-replicate n p most 0 within in
    let gone : None ≡ Some placed = sym (slice_get_past order most few) ∙ ap (slice_get order) (sym is) ∙ there in
    absurd (cc)

-- one more has
pub one_rank : (xs : List Provide) (order : List Placed) (ranks : List ℕ) (at place : ℕ) (y : Placed) → AreRanksIn xs order ranks → place < length ranks
    → slice_get order at ≡ Some y → y.place ≡ place → ((x : Provide) → slice_get xs place ≡ Some x → has_evr x.version y.evr ≡ true) → AreRanksIn xs order (slice_set ranks place at)
one_rank xs order ranks at place y are within in_order same has p x placed here there = by (p == place) refl
  where
    by : (b : Bool) → (p == place) ≡ b → (has_evr x.version placed.evr ≡ true) × (placed.place ≡ p)
    by true e =
        let is : p ≡ place = eqb-true p place e in
        let rank : slice_index (slice_set ranks place at) p ≡ at = ap (λ k. get_or (slice_set ranks place at) k 0) is ∙ get_or-set_same ranks place at 0 within in
        let found : Some y ≡ Some placed = sym in_order ∙ ap (slice_get order) (sym rank) ∙ there in
        let one : y ≡ placed = cc in
        let has_it = has x (ap (slice_get xs) (sym is) ∙ here) in
        (ap (λ (z : Placed). has_evr x.version z.evr) (sym one) ∙ has_it, ap (λ (z : Placed). z.place) (sym one) ∙ same ∙ sym is)
    by false e =
        let other : p ≢ place = λ is. true≢false (sym (eq-eqb p place is) ∙ e) in
        let rank : slice_index (slice_set ranks place at) p ≡ slice_index ranks p = get_or-set_other ranks place p at 0 other in
        are p x placed here (ap (slice_get order) (sym rank) ∙ there)

-- one more name is in the map
pub entered : {S : Type 0} (pool : Held) (groups : List (List Provide)) (old new : IndexMap ℕ Ranks S) (name : ℕ) (r : Ranks) → ((k : ℕ) → get nat_eq new k ≡ (if name == k then Some r else get nat_eq old k)) → r.provides.items ≡ group_at groups name
    → IsRanked pool r → AreRanked pool groups old → AreRanked pool groups new
entered pool groups old new name r is listed ranked before k q found = by (name == k) refl
  where
    by : (b : Bool) → (name == k) ≡ b → (q.provides.items ≡ group_at groups k) × IsRanked pool q
    by true e =
        let there : Some r ≡ Some q = sym (ap (λ b. if b then Some r else get nat_eq old k) e) ∙ sym (is k) ∙ found in
        let one : r ≡ q = cc in
        (ap (λ (z : Ranks). z.provides.items) (sym one) ∙ listed ∙ ap (group_at groups) (eqb-true name k e), subst (IsRanked pool) one ranked)
    by false e = before k q (sym (ap (λ b. if b then Some r else get nat_eq old k) e) ∙ sym (is k) ∙ found)

-- the places of a run in order are put
abbrev pub IsPut : List Placed → ℕ → ℕ → List ℕ → Type 0
IsPut order from at places = (k : ℕ) → k < at → (y : Placed) → from ≤ k → slice_get order k ≡ Some y → is_among places y.place ≡ true

pub put_more : (order : List Placed) (from at : ℕ) (places : List ℕ) (z : Placed) → slice_get order at ≡ Some z → IsPut order from at places → IsPut order from (at + 1) (places ++ z.place ∷ [])
put_more order from at places z there put =
    one_more (λ k. (y : Placed) → from ≤ k → slice_get order k ≡ Some y → is_among (places ++ z.place ∷ []) y.place ≡ true) at
    (λ k lt y le here. among_more places z.place y.place (put k lt y le here))
    (λ y le here. holds_there (λ (q : Placed). is_among (places ++ z.place ∷ []) q.place ≡ true) order at z y there (among_last places z.place) here)

pub put_past : (order : List Placed) (from at : ℕ) (places : List ℕ) → length order ≤ at → IsPut order from at places → IsPut order from (at + 1) places
put_past order from at places past put =
    one_more (λ k. (y : Placed) → from ≤ k → slice_get order k ≡ Some y → is_among places y.place ≡ true) at put
    (λ y le here. let gone : None ≡ Some y = sym (slice_get_past order at past) ∙ here in absurd (cc))

-- what is found in the map
pub ranked_found : {S : Type 0} (pool : Held) (groups : List (List Provide)) (map : IndexMap ℕ Ranks S) (name : ℕ) (o : Option (Bor Ranks)) → option_copied o ≡ get nat_eq map name → AreRanked pool groups map → IfSome o (λ r. IsRanked pool r.now)
ranked_found pool groups map name None is are = search rules
ranked_found pool groups map name (Some r) is are = (are name r.now (sym is)).1
