-- Tables of marks.
use Rattle.std.proofs.Common.{◌≡◌, ℕ, zero, suc, ◌+◌, ◌*◌, ◌<◌, ◌≤◌, Bool, true, false, not, ◌&&◌, ◌||◌, List, [], ◌∷◌, ◌++◌, length, take, drop, get_or, set, map, filter, eqb, Option, Some, None, inl, inr, refl, sym, ap, ◌∙◌, arith, length-set, get_or-set_same, get_or-set_other, eq-eqb, if◌then◌else◌}
use Rattle.std.specs.Prelude.{ℤ, pos, negsuc, neg_ℤ, nat_abs, nat_lt, nat_le, is_some}
use Rattle.std.specs.List.{list_any, list_all}
use Rattle.std.specs.Ordering.{int_eq}
use Rattle.std.proofs.lemmas.Bool.{or_left, and_parts, cases_Bool, cases_eq, false≢true, ltb-true, leb-true}
use Rattle.std.proofs.lemmas.List.{take_more, map-append, at_drop_more}
use Rattle.std.proofs.lemmas.List.Folds.{list_any-append}
use Rattle.solv_pack.specs.Inner.Literals.{place_of}
use Rattle.solv_pool.specs.Prelude.{is_fact, is_refuted, is_open, only, is_over, names_package}
use Rattle.solv_derive.specs.Forced.{is_falsified, forced}
use Rattle.solv_derive.specs.Inner.Marks.{Shows, is_marked}
use Rattle.solv_pool.specs.Inner.Propagation.{forced_by}
use Rattle.solv_derive.proofs.Facts.{same_self, all_member, filter_same, any_same, all_same}
use Rattle.solv_list.proofs.Numbers.{same_integer}

pub names_parts : (count : ℕ) (l : ℤ) → names_package count l ≡ true → (0 < nat_abs l) × (nat_abs l ≤ count)
names_parts count l h =
    let both = and_parts (nat_lt 0 (nat_abs l)) (nat_le (nat_abs l) count) h in
    (ltb-true 0 (nat_abs l) both.0, leb-true (nat_abs l) count both.1)

abs_neg : (l : ℤ) → nat_abs (neg_ℤ l) ≡ nat_abs l
abs_neg (pos zero) = refl
abs_neg (pos (suc n)) = refl
abs_neg (negsuc n) = refl

pub names_neg : (count : ℕ) (l : ℤ) → names_package count l ≡ true → names_package count (neg_ℤ l) ≡ true
names_neg count l h = rw abs_neg h

place_below : (l : ℤ) → place_of l < 2 * nat_abs l + 2
place_below (pos n) = omega arith
place_below (negsuc n) = omega arith

pub place_within : (count : ℕ) (l : ℤ) → names_package count l ≡ true → place_of l < 2 * count + 2
place_within count l h = let p = names_parts count l h in let q : place_of l < 2 * nat_abs l + 2 = place_below l in omega (arith, p.1)

pub place_of-injective : (l m : ℤ) → place_of l ≡ place_of m → l ≡ m
place_of-injective (pos n) (pos m) h = let e : n ≡ m = omega arith in ap pos e
place_of-injective (negsuc n) (negsuc m) h = let e : n ≡ m = omega arith in ap negsuc e
place_of-injective (pos n) (negsuc m) h = absurd (omega arith)
place_of-injective (negsuc n) (pos m) h = absurd (omega arith)

pub int_ne : (m l : ℤ) → (m ≡ l → ⊥) → int_eq m l ≡ false
int_ne m l h = elim (cases_Bool (int_eq m l)) [ inl e ↦ absurd (h (same_integer m l e)) | inr f ↦ f ]

pub shows_learn : (count : ℕ) (marks : List ℕ) (now : ℕ) (facts : List ℤ) (l : ℤ) → names_package count l ≡ true → Shows count marks now facts → Shows count (set marks (place_of l) now) now (l ∷ facts)
shows_learn count marks now facts l over shows = record {
  size = length-set marks (place_of l) now ∙ shows.size;
  upto = λ k. elim (cases_eq k (place_of l)) [
    | inl e ↦ let q : get_or (set marks (place_of l) now) k 0 ≡ now = ap (λ v. get_or (set marks (place_of l) now) v 0) e ∙ get_or-set_same marks (place_of l) now 0 inside in omega arith
    | inr n ↦ rw (get_or-set_other marks (place_of l) k now 0 n) (shows.upto k)
  ];
  is = λ m o. elim (cases_eq (place_of m) (place_of l)) [
    | inl e ↦
        let f : m ≡ l = place_of-injective m l e in
        let q : get_or (set marks (place_of l) now) (place_of m) 0 ≡ now = ap (λ v. get_or (set marks (place_of l) now) v 0) e ∙ get_or-set_same marks (place_of l) now 0 inside in
        eq-eqb (get_or (set marks (place_of l) now) (place_of m) 0) now q ∙ sym (or_left (int_eq m l) (is_fact facts m) (ap (λ v. int_eq v l) f ∙ same_self l))
    | inr n ↦
        let d : int_eq m l ≡ false = int_ne m l (λ e. n (ap place_of e)) in
        ap (λ v. eqb v now) (get_or-set_other marks (place_of l) (place_of m) now 0 n) ∙ shows.is m o ∙ sym (ap (λ b. b || is_fact facts m) d)
  ];
}
  where
    inside : place_of l < length marks
    inside = rw shows.size (place_within count l over)

-- the facts matter as a set
pub shows_same : (count : ℕ) (marks : List ℕ) (now : ℕ) (facts others : List ℤ) → ((l : ℤ) → is_fact facts l ≡ is_fact others l) → Shows count marks now facts → Shows count marks now others
shows_same count marks now facts others h shows = record { size = shows.size; upto = shows.upto; is = λ l o. shows.is l o ∙ h l }

or_comm : (a b : Bool) → (a || b) ≡ (b || (a || false))
or_comm true true = refl
or_comm true false = refl
or_comm false true = refl
or_comm false false = refl

pub known_push : (xs : List ℤ) (x l : ℤ) → is_fact (x ∷ xs) l ≡ is_fact (xs ++ x ∷ []) l
known_push xs x l = or_comm (int_eq l x) (is_fact xs l) ∙ sym (list_any-append (int_eq l) xs (x ∷ []))

pub shows_next : (count : ℕ) (marks : List ℕ) (now : ℕ) (c : List ℤ) (i : ℕ) → i < length c → Shows count marks now (neg_ℤ (get_or c i (pos 0)) ∷ map neg_ℤ (take i c)) → Shows count marks now (map neg_ℤ (take (i + 1) c))
shows_next count marks now c i h shows =
    let e : map neg_ℤ (take (i + 1) c) ≡ map neg_ℤ (take i c) ++ neg_ℤ (get_or c i (pos 0)) ∷ [] = ap (map neg_ℤ) (take_more c i (pos 0) h) ∙ map-append neg_ℤ (take i c) (get_or c i (pos 0) ∷ []) in
    rw e (shows_same count marks now (neg_ℤ (get_or c i (pos 0)) ∷ map neg_ℤ (take i c)) (map neg_ℤ (take i c) ++ neg_ℤ (get_or c i (pos 0)) ∷ []) (λ l. known_push (map neg_ℤ (take i c)) (neg_ℤ (get_or c i (pos 0))) l) shows)

-- the search for the open literal, from what was found so far
abbrev pub open_so_far : (ℤ → Bool) → Option ℤ → List ℤ → Option ℤ
open_so_far known o [] = o
open_so_far known o (l ∷ ls) =
    if known l then None else if known (neg_ℤ l) then open_so_far known o ls else elim o [ None ↦ open_so_far known (Some l) ls | Some m ↦ None ]

pub over_at : (count : ℕ) (c : List ℤ) (i : ℕ) → is_over count c ≡ true → i < length c → names_package count (get_or c i (pos 0)) ≡ true
over_at count [] i h k = absurd (omega arith)
over_at count (x ∷ c) zero h k = (and_parts (names_package count x) (is_over count c) h).0
over_at count (x ∷ c) (suc i) h k = over_at count c i (and_parts (names_package count x) (is_over count c) h).1 (omega arith)

same_ends : (b : Bool) (x : Option ℤ) → x ≡ None → None ≡ (if b then None else x)
same_ends true x h = refl
same_ends false x h = sym h

abbrev open_test : (ℤ → Bool) → ℤ → Bool
open_test known l = not (known l) && not (known (neg_ℤ l))

one_open : (known : ℤ → Bool) (m : ℤ) (c : List ℤ) → open_so_far known (Some m) c ≡ (if list_any known c then None else only (m ∷ filter (open_test known) c))
one_open known m [] = refl
one_open known m (l ∷ ls) = go (known l) (known (neg_ℤ l)) refl refl (one_open known m ls)
  where
    go : (a b : Bool) → known l ≡ a → known (neg_ℤ l) ≡ b → open_so_far known (Some m) ls ≡ (if list_any known ls then None else only (m ∷ filter (open_test known) ls))
        → open_so_far known (Some m) (l ∷ ls) ≡ (if list_any known (l ∷ ls) then None else only (m ∷ filter (open_test known) (l ∷ ls)))
    go true b h k rest = rw h refl
    go false true h k rest = rw (h, k) rest
    go false false h k rest = rw (h, k) (same_ends (list_any known ls) None refl)

pub none_open : (known : ℤ → Bool) (c : List ℤ) → open_so_far known None c ≡ forced_by known c
none_open known [] = refl
none_open known (l ∷ ls) = go (known l) (known (neg_ℤ l)) refl refl (none_open known ls) (one_open known l ls)
  where
    go : (a b : Bool) → known l ≡ a → known (neg_ℤ l) ≡ b → open_so_far known None ls ≡ forced_by known ls
        → open_so_far known (Some l) ls ≡ (if list_any known ls then None else only (l ∷ filter (open_test known) ls))
        → open_so_far known None (l ∷ ls) ≡ forced_by known (l ∷ ls)
    go true b h k rest one = rw h refl
    go false true h k rest one = rw (h, k) rest
    go false false h k rest one = rw (h, k) one

pub second_open : (known : ℤ → Bool) (o : Option ℤ) (l : ℤ) (ls : List ℤ) → known l ≡ false → known (neg_ℤ l) ≡ false → is_some o ≡ true → open_so_far known o (l ∷ ls) ≡ None
second_open known None l ls h k s = absurd (false≢true s)
second_open known (Some m) l ls h k s = rw (h, k) refl

-- a step of the search
pub open_next : (known : ℤ → Bool) (o : Option ℤ) (c : List ℤ) (i : ℕ) → i < length c → open_so_far known o (drop i c) ≡ open_so_far known o (get_or c i (pos 0) ∷ drop (i + 1) c)
open_next known o c i h = at_drop_more (open_so_far known o) c i (pos 0) h

-- what a table says of a clause is what its facts say
pub seen_forced : (count : ℕ) (marks : List ℕ) (now : ℕ) (facts c : List ℤ) → is_over count c ≡ true → Shows count marks now facts → forced_by (is_marked marks now) c ≡ forced facts c
seen_forced count marks now facts c over shows =
    let at : (l : ℤ) → is_fact c l ≡ true → names_package count l ≡ true = all_member (names_package count) c over in
    let trues : list_any (is_marked marks now) c ≡ list_any (is_fact facts) c = any_same (is_marked marks now) (is_fact facts) c (λ l h. shows.is l (at l h)) in
    let opens : filter (open_test (is_marked marks now)) c ≡ filter (is_open facts) c = filter_same (open_test (is_marked marks now)) (is_open facts) c (λ l h.
    let e : is_marked marks now l ≡ is_fact facts l = shows.is l (at l h) in
    let f : is_marked marks now (neg_ℤ l) ≡ is_fact facts (neg_ℤ l) = shows.is (neg_ℤ l) (names_neg count l (at l h)) in
    ap (λ a. not a && not (is_marked marks now (neg_ℤ l))) e ∙ ap (λ b. not (is_fact facts l) && not b) f) in
    ap (λ a. if a then None else only (filter (open_test (is_marked marks now)) c)) trues ∙ ap (λ v. if list_any (is_fact facts) c then None else only v) opens

pub seen_false : (count : ℕ) (marks : List ℕ) (now : ℕ) (facts c : List ℤ) → is_over count c ≡ true → Shows count marks now facts → list_all (λ l. is_marked marks now (neg_ℤ l)) c ≡ is_falsified facts c
seen_false count marks now facts c over shows =
    all_same (λ l. is_marked marks now (neg_ℤ l)) (is_refuted facts) c (λ l h. shows.is (neg_ℤ l) (names_neg count l (all_member (names_package count) c over l h)))
