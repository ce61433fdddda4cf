-- Entries that stand in a list, and what is known behind its first ones.
use Rattle.std.proofs.Common.{◌≡◌, ◌<◌, ◌+◌, ℕ, zero, suc, Bool, true, false, not, ◌||◌, List, [], ◌∷◌, ◌++◌, map, length, take, drop, Option, Some, None, refl, sym, ap, ◌∙◌, arith, length-append}
use Rattle.std.specs.Prelude.{◌==◌, nat_lt, slice_get, if◌then◌else◌, position, IfSome, cond, OnOk, Result, Ok, Err}
use Rattle.std.specs.List.{list_any, position_or_len}
use Rattle.std.proofs.lemmas.Bool.Decides.{nat_tests}
use Rattle.std.proofs.lemmas.Bool.{eqb-true, ltb-true}
use Rattle.std.proofs.lemmas.List.{map-append, length-map, drop-append-le, drop_all}
use Rattle.std.proofs.lemmas.List.Folds.{list_any-append}
use Rattle.solv_list.proofs.Booleans.{first_of_both, second_of_both}
use Rattle.solv_list.proofs.Numbers.{equal_to_itself, equal_swapped}
use Rattle.solv_pool.specs.declared.packages.Need.{Need}
use Rattle.solv_tags.specs.Inner.Tails.{stands_once, are_apart, noted, IsTail}
use Rattle.solv_tags.specs.Inner.TagReading.{also_pre_id, with_need_id, IsNeedTail, AreTails, package_of}
use Rattle.solv_tags.specs.declared.tails.Tails.{Tails}
use Rattle.solv_tags.specs.declared.package_words.PackageIds.{PackageIds}
use Rattle.std.proofs.Math.ListN.{set, get_or}

abbrev pub deps : List Need → List ℕ
deps needs = map (λ need. need.dep) needs

-- a test of the ids is one of the needs
pub any_dep : (d : ℕ) (needs : List Need) → list_any (λ other. d == other) (deps needs) ≡ list_any (λ need. d == need.dep) needs
any_dep d [] = refl
any_dep d (need ∷ needs) = ap (λ b. (d == need.dep) || b) (any_dep d needs)

-- the front and the rest
pub any_parts : (id n : ℕ) (ids : List ℕ) → list_any (λ other. id == other) ids ≡ (list_any (λ other. id == other) (take n ids) || list_any (λ other. id == other) (drop n ids))
any_parts id zero ids = refl
any_parts id (suc n) [] = refl
any_parts id (suc n) (x ∷ ids) = rw (any_parts id n ids) (or_assoc (id == x) (list_any (λ other. id == other) (take n ids)) (list_any (λ other. id == other) (drop n ids)))
  where
    or_assoc : (a b c : Bool) → (a || (b || c)) ≡ ((a || b) || c)
    or_assoc true b c = refl
    or_assoc false b c = refl

or_false : (a b : Bool) → (a || b) ≡ false → b ≡ false
or_false true b h = cc
or_false false b h = h

or_first : (a b : Bool) → (a || b) ≡ false → a ≡ false
or_first true b h = cc
or_first false b h = refl

-- the first place of an id has it
pub at_first : (id : ℕ) (ids : List ℕ) → position_or_len (λ other. id == other) ids < length ids → slice_get ids (position_or_len (λ other. id == other) ids) ≡ Some id
at_first id [] h = absurd (omega (arith, h))
at_first id (x ∷ ids) h =
    (elim (id == x) as (λ b. (id == x) ≡ b → cond (not b) (1 + position_or_len (λ other. id == other) ids) 0 < suc (length ids)
    → slice_get (x ∷ ids) (cond (not b) (1 + position_or_len (λ other. id == other) ids) 0) ≡ Some id) [
      | true ↦ λ e l. ap Some (sym (eqb-true id x e))
      | false ↦ λ e l.
          let next : 1 + position_or_len (λ other. id == other) ids ≡ suc (position_or_len (λ other. id == other) ids) = omega arith in
          rw next (at_first id ids (omega (arith, l)))
    ]) refl h

pub first_place : (id : ℕ) (ids : List ℕ) (r : Option ℕ) → r ≡ position (λ other. id == other) ids → IfSome r (λ place. slice_get ids place ≡ Some id)
first_place id ids r is = rw is
    ((elim (nat_lt (position_or_len (λ other. id == other) ids) (length ids)) as (λ b. nat_lt (position_or_len (λ other. id == other) ids) (length ids) ≡ b
    → IfSome (cond b (Some (position_or_len (λ other. id == other) ids)) None) (λ place. slice_get ids place ≡ Some id)) [
      | true ↦ λ e. at_first id ids (ltb-true (position_or_len (λ other. id == other) ids) (length ids) e)
      | false ↦ λ e. tt
    ]) refl)

-- what stands once is there
pub once_below : (id place : ℕ) (ids : List ℕ) → stands_once id place ids ≡ true → place < length ids
once_below id place [] h = absurd (cc)
once_below id zero (x ∷ ids) h = omega arith
once_below id (suc place) (x ∷ ids) h =
    let more : place < length ids = once_below id place ids (second_of_both (not (id == x)) (stands_once id place ids) h) in omega (arith, more)

or_true : (a b : Bool) → b ≡ true → (a || b) ≡ true
or_true true b h = refl
or_true false b h = h

pub there_once : (id place : ℕ) (ids : List ℕ) → stands_once id place ids ≡ true → list_any (λ other. id == other) ids ≡ true
there_once id place [] h = absurd (cc)
there_once id zero (x ∷ ids) h = rw (first_of_both (id == x) (not (list_any (λ other. id == other) ids)) h) refl
there_once id (suc place) (x ∷ ids) h = or_true (id == x) (list_any (λ other. id == other) ids) (there_once id place ids (second_of_both (not (id == x)) (stands_once id place ids) h))

-- where no id stands twice, what stands at a place stands once
not_there : (id x : ℕ) (ids : List ℕ) (place : ℕ) → list_any (λ other. x == other) ids ≡ false → slice_get ids place ≡ Some id → (id == x) ≡ false
not_there id x [] place h at = absurd (cc)
not_there id x (y ∷ ids) zero h at =
    (elim (x == y) as (λ b. (x == y) ≡ b → (id == x) ≡ false) [
      | true ↦ λ e. let no : true ≡ false = (rw e at h) in absurd (cc)
      | false ↦ λ e. let same : y ≡ id = ap (λ o. elim o as (λ _. ℕ) [ Some n ↦ n | None ↦ y ]) at in equal_swapped id x ∙ ap (λ n. x == n) (sym same) ∙ e
    ]) refl
not_there id x (y ∷ ids) (suc place) h at = not_there id x ids place (or_false (x == y) (list_any (λ other. x == other) ids) h) at

not_false : (b : Bool) → not b ≡ true → b ≡ false
not_false true h = cc
not_false false h = refl

pub one_place : (id place : ℕ) (ids : List ℕ) → are_apart ids ≡ true → slice_get ids place ≡ Some id → stands_once id place ids ≡ true
one_place id place [] h at = absurd (cc)
one_place id zero (x ∷ ids) h at =
    let same : x ≡ id = ap (λ o. elim o as (λ _. ℕ) [ Some n ↦ n | None ↦ x ]) at in
    rw (← same, equal_to_itself x) (first_of_both (not (list_any (λ other. x == other) ids)) (are_apart ids) h)
one_place id (suc place) (x ∷ ids) h at =
    let other : (id == x) ≡ false = not_there id x ids place (not_false (list_any (λ other. x == other) ids) (first_of_both (not (list_any (λ other. x == other) ids)) (are_apart ids) h)) at in
    rw other (one_place id place ids (second_of_both (not (list_any (λ other. x == other) ids)) (are_apart ids) h) at)

-- what stands at a place behind others
pub place_behind : (n place id : ℕ) (ids : List ℕ) → slice_get (drop n ids) place ≡ Some id → slice_get ids (n + place) ≡ Some id
place_behind zero place id ids h = let same : 0 + place ≡ place = omega arith in rw same h
place_behind (suc n) place id [] h = absurd (cc)
place_behind (suc n) place id (x ∷ ids) h = let next : suc n + place ≡ suc (n + place) = omega arith in rw next (place_behind n place id ids h)

pub place_before : (n place id : ℕ) (ids : List ℕ) → slice_get (take n ids) place ≡ Some id → slice_get ids place ≡ Some id
place_before zero place id ids h = absurd (cc)
place_before (suc n) place id [] h = absurd (cc)
place_before (suc n) zero id (x ∷ ids) h = h
place_before (suc n) (suc place) id (x ∷ ids) h = place_before n place id ids h

-- one id more
pub apart_more : (id : ℕ) (ids : List ℕ) → list_any (λ other. id == other) ids ≡ false → are_apart ids ≡ true → are_apart (ids ++ id ∷ []) ≡ true
apart_more id [] none h = refl
apart_more id (x ∷ ids) none h =
    let here : (x == id) ≡ false = equal_swapped x id ∙ or_first (id == x) (list_any (λ other. id == other) ids) none in
    let apart : list_any (λ other. x == other) ids ≡ false = not_false (list_any (λ other. x == other) ids) (first_of_both (not (list_any (λ other. x == other) ids)) (are_apart ids) h) in
    let more : are_apart (ids ++ id ∷ []) ≡ true = apart_more id ids (or_false (id == x) (list_any (λ other. id == other) ids) none) (second_of_both (not (list_any (λ other. x == other) ids)) (are_apart ids) h) in
    rw (list_any-append (λ other. x == other) ids (id ∷ []), apart, here) more

pub tail_more : (id count : ℕ) (known ids : List ℕ) → count ≡ length ids → IsTail known ids → list_any (λ other. id == other) ids ≡ false → IsTail (noted count id known) (ids ++ id ∷ [])
tail_more id count known ids is tail none = λ more.
    let long : 32 < length ids + 1 = rw (length-append ids (id ∷ [])) at more in
    let parts : drop 32 (ids ++ id ∷ []) ≡ drop 32 ids ++ id ∷ [] = drop-append-le 32 ids (id ∷ []) (omega (arith, long)) in
    let far : nat_lt count 32 ≡ false = grind (arith, nat_tests, is, long) in
    (elim (nat_lt 32 (length ids)) as (λ b. nat_lt 32 (length ids) ≡ b → noted count id known ≡ drop 32 (ids ++ id ∷ [])) [
      | true ↦ λ e.
          let longer : 32 < length ids = ltb-true 32 (length ids) e in
          let other : (count == 32) ≡ false = grind (arith, nat_tests, is, longer) in
          let new : list_any (λ other. id == other) (drop 32 ids) ≡ false
          = or_false (list_any (λ other. id == other) (take 32 ids)) (list_any (λ other. id == other) (drop 32 ids)) (sym (any_parts id 32 ids) ∙ none) in
          rw (far, other, tail longer, new) (sym parts)
      | false ↦ λ e.
          let full : length ids ≡ 32 = grind (arith, nat_tests, e, long) in
          let here : (count == 32) ≡ true = grind (arith, nat_tests, is, full) in
          let none : drop 32 ids ≡ [] = drop_all 32 ids (omega (arith, full)) in
          rw (far, here, parts, none) refl
    ]) refl

pub tail_after : (id n count : ℕ) (known ids after more : List ℕ) → n ≡ id → count ≡ length ids → IsTail known ids → list_any (λ other. id == other) ids ≡ false
    → after ≡ noted count n known → more ≡ ids ++ id ∷ [] → IsTail after more
tail_after id n count known ids after more same is tail none noted_is all = rw (noted_is, all, same) (tail_more id count known ids is tail none)

-- a short list has none behind
pub short_tail : (id : ℕ) (known ids more : List ℕ) → length ids < 32 → more ≡ ids ++ id ∷ [] → IsTail known more
short_tail id known ids more short is = λ long.
    let l : 32 < length ids + 1 = rw (is, length-append ids (id ∷ [])) at long in
    absurd (omega (arith, short, l))

-- where a need stands its relation does
pub dep_at : (d i : ℕ) (needs : List Need) (need : Need) → i < length needs → need ≡ get_or needs i need → (d == need.dep) ≡ true → slice_get (deps needs) i ≡ Some d
dep_at d i [] need l is h = absurd (omega (arith, l))
dep_at d zero (n ∷ needs) need l is h = ap Some (ap (λ (m : Need). m.dep) (sym is) ∙ sym (eqb-true d need.dep h))
dep_at d (suc i) (n ∷ needs) need l is h = dep_at d i needs need (omega (arith, l)) is h

-- a need that is of another relation stays
none_marked : (d : ℕ) (pre : Bool) (needs : List Need) → list_any (λ other. d == other) (deps needs) ≡ false → map (also_pre_id d pre) needs ≡ needs
none_marked d pre [] h = refl
none_marked d pre (n ∷ needs) h =
    rw (or_first (d == n.dep) (list_any (λ other. d == other) (deps needs)) h)
    (ap (λ rest. n ∷ rest) (none_marked d pre needs (or_false (d == n.dep) (list_any (λ other. d == other) (deps needs)) h)))

pub marked : (d : ℕ) (pre : Bool) (place : ℕ) (needs : List Need) (need : Need) → need ≡ get_or needs place need → stands_once d place (deps needs) ≡ true
    → set needs place (also_pre_id d pre need) ≡ map (also_pre_id d pre) needs
marked d pre place [] need is h = absurd (cc)
marked d pre zero (n ∷ needs) need is h =
    rw (is, none_marked d pre needs (not_false (list_any (λ other. d == other) (deps needs)) (second_of_both (d == n.dep) (not (list_any (λ other. d == other) (deps needs))) h))) refl
marked d pre (suc place) (n ∷ needs) need is h =
    let other : (d == n.dep) ≡ false = not_false (d == n.dep) (first_of_both (not (d == n.dep)) (stands_once d place (deps needs)) h) in
    rw other (ap (λ rest. n ∷ rest) (marked d pre place needs need is (second_of_both (not (d == n.dep)) (stands_once d place (deps needs)) h)))

-- a place that is found
pub once_in : (d : ℕ) (needs : List Need) (r : Option ℕ) → are_apart (deps needs) ≡ true → IfSome r (λ place. slice_get (deps needs) place ≡ Some d) → IfSome r (λ place. stands_once d place (deps needs) ≡ true)
once_in d needs None h at = tt
once_in d needs (Some place) h at = one_place d place (deps needs) h at

pub below_in : (d place : ℕ) (needs : List Need) → stands_once d place (deps needs) ≡ true → place < length needs
below_in d place needs h = let same = length-map needs (λ (need : Need). need.dep) in let l = once_below d place (deps needs) h in omega (arith, same, l)

pub all_below : (d : ℕ) (needs : List Need) (r : Option ℕ) → IfSome r (λ place. stands_once d place (deps needs) ≡ true) → IfSome r (λ place. place < length needs)
all_below d needs None h = tt
all_below d needs (Some place) h = below_in d place needs h

-- the front and the rest of needs
pub take_deps : (n : ℕ) (needs : List Need) → deps (take n needs) ≡ take n (deps needs)
take_deps zero needs = refl
take_deps (suc n) [] = refl
take_deps (suc n) (need ∷ needs) = ap (λ rest. need.dep ∷ rest) (take_deps n needs)

pub found_front : (d place : ℕ) (needs : List Need) → are_apart (deps needs) ≡ true → slice_get (deps (take 32 needs)) place ≡ Some d → stands_once d place (deps needs) ≡ true
found_front d place needs apart at = one_place d place (deps needs) apart (place_before 32 place d (deps needs) (rw (take_deps 32 needs) at at))

module _ (d : ℕ) (known : List ℕ) (needs : List Need) (tail : IsNeedTail known needs) (long : 32 < length needs) where
  rest_is : known ≡ drop 32 (deps needs)
  rest_is = let same = length-map needs (λ (need : Need). need.dep) in tail.behind (rw same long)

  pub found_behind : (place : ℕ) → slice_get known place ≡ Some d → stands_once d (32 + place) (deps needs) ≡ true
  found_behind place at = one_place d (32 + place) (deps needs) tail.apart (place_behind 32 place d (deps needs) (ap (λ ids. slice_get ids place) (sym rest_is) ∙ at))

  pub none_found : list_any (λ need. d == need.dep) (take 32 needs) ≡ false → list_any (λ other. d == other) known ≡ false → list_any (λ need. d == need.dep) needs ≡ false
  none_found front behind =
      let first : list_any (λ other. d == other) (take 32 (deps needs)) ≡ false = ap (λ ids. list_any (λ other. d == other) ids) (sym (take_deps 32 needs)) ∙ any_dep d (take 32 needs) ∙ front in
      let rest : list_any (λ other. d == other) (drop 32 (deps needs)) ≡ false = ap (λ ids. list_any (λ other. d == other) ids) (sym rest_is) ∙ behind in
      sym (any_dep d needs) ∙ any_parts d 32 (deps needs) ∙ rw (first, rest) refl

-- one requirement more
module _ (d : ℕ) (pre : Bool) (count : ℕ) (known : List ℕ) (needs : List Need) (is : count ≡ length needs) (tail : IsNeedTail known needs) where
  pub need_more : list_any (λ need. d == need.dep) needs ≡ false → IsNeedTail (noted count d known) (needs ++ record { dep = d; pre = pre } ∷ [])
  need_more none =
      let new : list_any (λ other. d == other) (deps needs) ≡ false = any_dep d needs ∙ none in
      let all : deps (needs ++ record { dep = d; pre = pre } ∷ []) ≡ deps needs ++ d ∷ [] = map-append (λ (need : Need). need.dep) needs (record { dep = d; pre = pre } ∷ []) in
      let same : count ≡ length (deps needs) = is ∙ sym (length-map needs (λ (need : Need). need.dep)) in
      record {
        behind = rw all (tail_more d count known (deps needs) same tail.behind new);
        apart = rw all (apart_more d (deps needs) new tail.apart);
      }

  pub need_after : (n : ℕ) (after : List ℕ) (more : List Need) → n ≡ d → list_any (λ need. d == need.dep) needs ≡ false → after ≡ noted count n known → more ≡ needs ++ record { dep = d; pre = pre } ∷ [] → IsNeedTail after more
  need_after n after more same none noted_is all = rw (noted_is, all, same) (need_more none)

  pub need_few : (more : List Need) → count < 32 → list_any (λ need. d == need.dep) needs ≡ false → more ≡ needs ++ record { dep = d; pre = pre } ∷ [] → IsNeedTail known more
  need_few more few none all =
      let m : IsNeedTail (noted count d known) (needs ++ record { dep = d; pre = pre } ∷ []) = need_more none in
      let low : nat_lt count 32 ≡ true = grind (arith, nat_tests, few) in
      rw all (rw low at m)

-- a requirement that is there is marked
pub marks_one : (d place : ℕ) (pre : Bool) (needs more : List Need) → stands_once d place (deps needs) ≡ true → more ≡ map (also_pre_id d pre) needs → more ≡ with_need_id d pre needs
marks_one d place pre needs more once is =
    let there : list_any (λ need. d == need.dep) needs ≡ true = sym (any_dep d needs) ∙ there_once d place (deps needs) once in
    rw there is

-- the relations stay where needs are marked
deps_marked : (d : ℕ) (pre : Bool) (needs : List Need) → deps (map (also_pre_id d pre) needs) ≡ deps needs
deps_marked d pre [] = refl
deps_marked d pre (need ∷ needs) =
    let first : (also_pre_id d pre need).dep ≡ need.dep
    = elim (d == need.dep) as (λ b. (if b then record { dep = need.dep; pre = need.pre || pre } else need).dep ≡ need.dep) [ true ↦ refl | false ↦ refl ] in
    rw (first, deps_marked d pre needs) refl

pub need_marked : (d : ℕ) (pre : Bool) (known : List ℕ) (needs : List Need) → IsNeedTail known needs → IsNeedTail known (map (also_pre_id d pre) needs)
need_marked d pre known needs tail = record { behind = rw (deps_marked d pre needs) tail.behind; apart = rw (deps_marked d pre needs) tail.apart }

-- no list has entries yet
pub no_tails : (tails : Tails) (repo : ℕ) (ids : PackageIds) → AreTails tails (package_of repo ids)
no_tails tails repo ids = record {
  provides = λ h. absurd (omega (arith, h));
  requires_ = record { behind = λ h. absurd (omega (arith, h)); apart = refl };
  conflicts = λ h. absurd (omega (arith, h));
  obsoletes = λ h. absurd (omega (arith, h));
  recommends = λ h. absurd (omega (arith, h));
  suggests = λ h. absurd (omega (arith, h));
  supplements = λ h. absurd (omega (arith, h));
  enhances = λ h. absurd (omega (arith, h));
  files = λ h. absurd (omega (arith, h));
}

pub on_both : {T E P Q R : Type 0} (r : Result T E) → (P → Q → R) → OnOk r P → OnOk r Q → OnOk r R
on_both (Ok x) f h k = f h k
on_both (Err e) f h k = tt

pub always_ok : {T E P : Type 0} (r : Result T E) → P → OnOk r P
always_ok (Ok x) h = h
always_ok (Err e) h = tt
