-- The places of made rules, and of their clauses, among all.
use Rattle.std.proofs.Common.{◌≡◌, ℕ, zero, suc, ◌+◌, ◌-◌, ◌<◌, ◌≤◌, Bool, true, false, List, [], ◌∷◌, ◌++◌, length, Option, Some, None, ◌⊎◌, inl, inr, refl, sym, ap, ◌∙◌, subst, arith, if◌then◌else◌}
use Rattle.std.specs.Prelude.{ℤ, slice_get, flat_map, replicate, nat_lt, unwrap_or}
use Rattle.std.proofs.lemmas.Bool.{cases_lt, cases_Bool, lt-ltb, ltb-true, false≢true}
use Rattle.std.proofs.lemmas.Option.{slice_get_within}
use Rattle.solv_pool.specs.Prelude.{Catalog, HardRule, rule_clauses}
use Rattle.solv_rules.specs.Books.{owners_from}
use Rattle.solv_trail.specs.Asked.{is_enabled}
use Rattle.solv_questions.specs.Questions.{enabled_from}
use Rattle.solv_over.specs.Inner.Places.{StandAt}
use Rattle.solv_over.specs.Inner.Thinned.{IsRequirementOf, Thinned, end, same, more}

pub get_first : {X : Type 0} (xs ys : List X) (k : ℕ) → k < length xs → slice_get (xs ++ ys) k ≡ slice_get xs k
get_first [] ys k h = absurd (omega (arith, h))
get_first (x ∷ xs) ys zero h = refl
get_first (x ∷ xs) ys (suc k) h = get_first xs ys k (omega (arith, h))

pub get_behind : {X : Type 0} (xs ys : List X) (k : ℕ) → slice_get (xs ++ ys) (length xs + k) ≡ slice_get ys k
get_behind [] ys k = let e : 0 + k ≡ k = omega arith in ap (slice_get ys) e
get_behind (x ∷ xs) ys k =
    let e : length (x ∷ xs) + k ≡ suc (length xs + k) = omega arith in
    ap (slice_get (x ∷ (xs ++ ys))) e ∙ get_behind xs ys k

pub get_same : (n v k : ℕ) → k < n → slice_get (replicate n v) k ≡ Some v
get_same zero v k h = absurd (omega (arith, h))
get_same (suc n) v zero h = refl
get_same (suc n) v (suc k) h = get_same n v k (omega (arith, h))

pub so_many : (n v : ℕ) → length (replicate n v) ≡ n
so_many zero v = refl
so_many (suc n) v = let r = so_many n v in omega (arith, r)

-- the place of each rule
abbrev pub place : {left : List Bool} {made all : List HardRule} → Thinned left made all → ℕ → ℕ
place end k = k
place (same x t) zero = zero
place (same x t) (suc k) = suc (place t k)
place (more x own t) k = suc (place t k)

-- what is enabled among all: the made rules that are, and all others
abbrev pub spread : {left : List Bool} {made all : List HardRule} → Thinned left made all → List Bool → List Bool
spread end on = on
spread (same x t) [] = false ∷ spread t []
spread (same x t) (b ∷ on) = b ∷ spread t on
spread (more x own t) on = true ∷ spread t on

pub spread_same : {left : List Bool} {made all : List HardRule} (t : Thinned left made all) (on : List Bool) (k : ℕ) → is_enabled (spread t on) (place t k) ≡ is_enabled on k
spread_same end on k = refl
spread_same (same x t) [] zero = refl
spread_same (same x t) [] (suc k) = spread_same t [] k
spread_same (same x t) (b ∷ on) zero = refl
spread_same (same x t) (b ∷ on) (suc k) = spread_same t on k
spread_same (more x own t) on k = spread_same t on k

-- places rise
pub place_rises : {left : List Bool} {made all : List HardRule} (t : Thinned left made all) (k n : ℕ) → k < n → place t k < place t n
place_rises end k n h = h
place_rises (same x t) zero zero h = absurd (omega (arith, h))
place_rises (same x t) zero (suc n) h = omega arith
place_rises (same x t) (suc k) zero h = absurd (omega (arith, h))
place_rises (same x t) (suc k) (suc n) h = let r = place_rises t k n (omega (arith, h)) in omega (arith, r)
place_rises (more x own t) k n h = let r = place_rises t k n h in omega (arith, r)

-- a rule is at its place
pub place_rule : {left : List Bool} {made all : List HardRule} (t : Thinned left made all) (k : ℕ) → slice_get all (place t k) ≡ slice_get made k
place_rule end k = refl
place_rule (same x t) zero = refl
place_rule (same x t) (suc k) = place_rule t k
place_rule (more x own t) k = place_rule t k

-- what is enabled of all is what is enabled of the made ones, and requirements of what is left out
pub thin_enabled : {left : List Bool} {made all : List HardRule} (t : Thinned left made all) (on on_all : List Bool) (i j : ℕ) → ((k : ℕ) → is_enabled on_all (j + place t k) ≡ is_enabled on (i + k)) → Thinned left (enabled_from on i made) (enabled_from on_all j all)
thin_enabled end on on_all i j h = end
thin_enabled {left} (same {made} {all} x t) on on_all i j h =
    let e : j + 0 ≡ j = omega arith in
    let f : i + 0 ≡ i = omega arith in
    let here : is_enabled on_all j ≡ is_enabled on i = ap (is_enabled on_all) (sym e) ∙ h 0 ∙ ap (is_enabled on) f in
    let rest = thin_enabled t on on_all (suc i) (suc j) (λ k. ap (is_enabled on_all) (moved j (place t k)) ∙ h (suc k) ∙ ap (is_enabled on) (sym (moved i k))) in
    by (is_enabled on i) here rest
  where
    moved : (n k : ℕ) → suc n + k ≡ n + suc k
    moved n k = omega arith

    by : (b : Bool) → is_enabled on_all j ≡ b → Thinned left (enabled_from on (suc i) made) (enabled_from on_all (suc j) all)
        → Thinned left (if b then x ∷ enabled_from on (suc i) made else enabled_from on (suc i) made) (if is_enabled on_all j then x ∷ enabled_from on_all (suc j) all else enabled_from on_all (suc j) all)
    by true e r = subst (λ (c : Bool). Thinned left (x ∷ enabled_from on (suc i) made) (if c then x ∷ enabled_from on_all (suc j) all else enabled_from on_all (suc j) all)) (sym e) (same x r)
    by false e r = subst (λ (c : Bool). Thinned left (enabled_from on (suc i) made) (if c then x ∷ enabled_from on_all (suc j) all else enabled_from on_all (suc j) all)) (sym e) r
thin_enabled {left} (more {made} {all} x own t) on on_all i j h =
    let rest = thin_enabled t on on_all i (suc j) (λ k. ap (is_enabled on_all) (moved j (place t k)) ∙ h k) in
    by (is_enabled on_all j) rest
  where
    moved : (n k : ℕ) → suc n + k ≡ n + suc k
    moved n k = omega arith

    by : (b : Bool) → Thinned left (enabled_from on i made) (enabled_from on_all (suc j) all) → Thinned left (enabled_from on i made) (if b then x ∷ enabled_from on_all (suc j) all else enabled_from on_all (suc j) all)
    by true r = more x own r
    by false r = r

-- where each made rule is enabled among all as it was
pub thin_like : {left : List Bool} {made all : List HardRule} (t : Thinned left made all) (on on_all : List Bool) → ((k : ℕ) → is_enabled on_all (place t k) ≡ is_enabled on k) → Thinned left (enabled_from on 0 made) (enabled_from on_all 0 all)
thin_like t on on_all like = thin_enabled t on on_all 0 0 (λ k. ap (is_enabled on_all) (nothing (place t k)) ∙ like k ∙ ap (is_enabled on) (sym (nothing k)))
  where
    nothing : (k : ℕ) → 0 + k ≡ k
    nothing k = omega arith

pub thin_spread : {left : List Bool} {made all : List HardRule} (t : Thinned left made all) (on : List Bool) → Thinned left (enabled_from on 0 made) (enabled_from (spread t on) 0 all)
thin_spread t on = thin_enabled t on (spread t on) 0 0 (λ k. ap (is_enabled (spread t on)) (nothing (place t k)) ∙ spread_same t on k ∙ ap (is_enabled on) (sym (nothing k)))
  where
    nothing : (k : ℕ) → 0 + k ≡ k
    nothing k = omega arith

module _ (catalog : Catalog) where
  abbrev cl : HardRule → List (List ℤ)
  cl = rule_clauses catalog

  -- the place of each clause
  abbrev pub clause_at : {left : List Bool} {made all : List HardRule} → Thinned left made all → ℕ → ℕ
  clause_at end k = k
  clause_at (same x t) k = if nat_lt k (length (cl x)) then k else length (cl x) + clause_at t (k - length (cl x))
  clause_at (more x own t) k = length (cl x) + clause_at t k

  -- places of clauses rise
  pub clause_rises : {left : List Bool} {made all : List HardRule} (t : Thinned left made all) (k n : ℕ) → k < n → clause_at t k < clause_at t n
  clause_rises end k n h = h
  clause_rises (same x t) k n h = by (nat_lt k (length (cl x))) refl (nat_lt n (length (cl x))) refl (clause_rises t (k - length (cl x)) (n - length (cl x)))
    where
      by : (a : Bool) → nat_lt k (length (cl x)) ≡ a → (b : Bool) → nat_lt n (length (cl x)) ≡ b
          → (k - length (cl x) < n - length (cl x) → clause_at t (k - length (cl x)) < clause_at t (n - length (cl x)))
          → (if a then k else length (cl x) + clause_at t (k - length (cl x))) < (if b then n else length (cl x) + clause_at t (n - length (cl x)))
      by true e true f g = h
      by true e false f g = let lt : k < length (cl x) = ltb-true k (length (cl x)) e in omega (arith, lt)
      by false e true f g =
          let lt : n < length (cl x) = ltb-true n (length (cl x)) f in
          absurd (false≢true (sym e ∙ lt-ltb k (length (cl x)) (omega (arith, lt, h))))
      by false e false f g =
          let le : length (cl x) ≤ k = elim (cases_lt k (length (cl x))) [ inl lt ↦ absurd (false≢true (sym e ∙ lt-ltb k (length (cl x)) lt)) | inr le ↦ le ] in
          let r = g (omega (arith, le, h)) in
          omega (arith, r)
  clause_rises (more x own t) k n h = let r = clause_rises t k n h in omega (arith, r)

  behind : (n k : ℕ) → n ≤ k → n + (k - n) ≡ k
  behind n k h = omega (arith, h)

  clause_there : {left : List Bool} {made all : List HardRule} (t : Thinned left made all) (k : ℕ) (c : List ℤ) → slice_get (flat_map cl made) k ≡ Some c → slice_get (flat_map cl all) (clause_at t k) ≡ Some c
  clause_there end k c h = h
  clause_there (same {made} {all} x t) k c h = by (nat_lt k (length (cl x))) refl (clause_there t (k - length (cl x)) c)
    where
      by : (b : Bool) → nat_lt k (length (cl x)) ≡ b → (slice_get (flat_map cl made) (k - length (cl x)) ≡ Some c → slice_get (flat_map cl all) (clause_at t (k - length (cl x))) ≡ Some c)
          → slice_get (cl x ++ flat_map cl all) (if b then k else length (cl x) + clause_at t (k - length (cl x))) ≡ Some c
      by true e f = let lt : k < length (cl x) = ltb-true k (length (cl x)) e in get_first (cl x) (flat_map cl all) k lt ∙ sym (get_first (cl x) (flat_map cl made) k lt) ∙ h
      by false e f =
          let le : length (cl x) ≤ k = elim (cases_lt k (length (cl x))) [ inl lt ↦ absurd (false≢true (sym e ∙ lt-ltb k (length (cl x)) lt)) | inr le ↦ le ] in
          get_behind (cl x) (flat_map cl all) (clause_at t (k - length (cl x))) ∙ f (sym (get_behind (cl x) (flat_map cl made) (k - length (cl x))) ∙ ap (slice_get (cl x ++ flat_map cl made)) (behind (length (cl x)) k le) ∙ h)
  clause_there (more {made} {all} x own t) k c h = get_behind (cl x) (flat_map cl all) (clause_at t k) ∙ clause_there t k c h

  -- and of its rule
  pub record IsOwned (i j k o : ℕ) (found : ℕ → ℕ) (got : Option ℕ) : Type 0 where
    pub number : ℕ
    pub is : o ≡ i + number
    pub there : got ≡ Some (j + found number)

  owner_there : {left : List Bool} {made all : List HardRule} (t : Thinned left made all) (i j k o : ℕ) → slice_get (owners_from catalog i made) k ≡ Some o
      → IsOwned i j k o (place t) (slice_get (owners_from catalog j all) (clause_at t k))
  owner_there end i j k o h = absurd (cc)
  owner_there (same {made} {all} x t) i j k o h = by (nat_lt k (length (cl x))) refl (owner_there t (suc i) (suc j) (k - length (cl x)) o)
    where
      by : (b : Bool) → nat_lt k (length (cl x)) ≡ b
          → (slice_get (owners_from catalog (suc i) made) (k - length (cl x)) ≡ Some o → IsOwned (suc i) (suc j) (k - length (cl x)) o (place t) (slice_get (owners_from catalog (suc j) all) (clause_at t (k - length (cl x)))))
          → IsOwned i j k o (place (same x t)) (slice_get (owners_from catalog j (x ∷ all)) (if b then k else length (cl x) + clause_at t (k - length (cl x))))
      by true e f =
          let lt : k < length (cl x) = ltb-true k (length (cl x)) e in
          let long : k < length (replicate (length (cl x)) i) = let r = so_many (length (cl x)) i in omega (arith, lt, r) in
          let long_all : k < length (replicate (length (cl x)) j) = let r = so_many (length (cl x)) j in omega (arith, lt, r) in
          let own : i ≡ o = ap (λ v. unwrap_or v i) (sym (get_same (length (cl x)) i k lt) ∙ sym (get_first (replicate (length (cl x)) i) (owners_from catalog (suc i) made) k long) ∙ h) in
          record {
            number = 0;
            is = omega (arith, own);
            there = get_first (replicate (length (cl x)) j) (owners_from catalog (suc j) all) k long_all ∙ get_same (length (cl x)) j k lt ∙ ap Some (zero_more j);
          }
        where
          zero_more : (n : ℕ) → n ≡ n + 0
          zero_more n = omega arith
      by false e f =
          let le : length (cl x) ≤ k = elim (cases_lt k (length (cl x))) [ inl lt ↦ absurd (false≢true (sym e ∙ lt-ltb k (length (cl x)) lt)) | inr le ↦ le ] in
          let many = so_many (length (cl x)) i in
          let many_all = so_many (length (cl x)) j in
          let spot : length (replicate (length (cl x)) i) + (k - length (cl x)) ≡ k = omega (arith, many, le) in
          let r = f (sym (get_behind (replicate (length (cl x)) i) (owners_from catalog (suc i) made) (k - length (cl x))) ∙ ap (slice_get (replicate (length (cl x)) i ++ owners_from catalog (suc i) made)) spot ∙ h) in
          let spot_all : length (cl x) + clause_at t (k - length (cl x)) ≡ length (replicate (length (cl x)) j) + clause_at t (k - length (cl x)) = omega (arith, many_all) in
          let at_end : suc j + place t r.number ≡ j + suc (place t r.number) = omega arith in
          let own = r.is in
          record {
            number = suc r.number;
            is = omega (arith, own);
            there = ap (slice_get (replicate (length (cl x)) j ++ owners_from catalog (suc j) all)) spot_all ∙ get_behind (replicate (length (cl x)) j) (owners_from catalog (suc j) all) (clause_at t (k - length (cl x))) ∙ r.there ∙ ap Some at_end;
          }
  owner_there (more {made} {all} x own t) i j k o h =
      let r = owner_there t i (suc j) k o h in
      let many_all = so_many (length (cl x)) j in
      let spot_all : length (cl x) + clause_at t k ≡ length (replicate (length (cl x)) j) + clause_at t k = omega (arith, many_all) in
      let at_end : suc j + place t r.number ≡ j + suc (place t r.number) = omega arith in
      record {
        number = r.number;
        is = r.is;
        there = ap (slice_get (replicate (length (cl x)) j ++ owners_from catalog (suc j) all)) spot_all ∙ get_behind (replicate (length (cl x)) j) (owners_from catalog (suc j) all) (clause_at t k) ∙ r.there ∙ ap Some at_end;
      }

  -- where no rule owns a clause, none does at its place
  pub owner_none : {left : List Bool} {made all : List HardRule} (t : Thinned left made all) (i j k : ℕ) → slice_get (owners_from catalog i made) k ≡ None → slice_get (owners_from catalog j all) (clause_at t k) ≡ None
  owner_none end i j k h = h
  owner_none (same {made} {all} x t) i j k h = by (nat_lt k (length (cl x))) refl (owner_none t (suc i) (suc j) (k - length (cl x)))
    where
      by : (b : Bool) → nat_lt k (length (cl x)) ≡ b
          → (slice_get (owners_from catalog (suc i) made) (k - length (cl x)) ≡ None → slice_get (owners_from catalog (suc j) all) (clause_at t (k - length (cl x))) ≡ None)
          → slice_get (owners_from catalog j (x ∷ all)) (if b then k else length (cl x) + clause_at t (k - length (cl x))) ≡ None
      by true e f =
          let lt : k < length (cl x) = ltb-true k (length (cl x)) e in
          let long : k < length (replicate (length (cl x)) i) = let r = so_many (length (cl x)) i in omega (arith, lt, r) in
          let no_owner : None ≡ Some i = sym h ∙ get_first (replicate (length (cl x)) i) (owners_from catalog (suc i) made) k long ∙ get_same (length (cl x)) i k lt in
          absurd (cc)
      by false e f =
          let le : length (cl x) ≤ k = elim (cases_lt k (length (cl x))) [ inl lt ↦ absurd (false≢true (sym e ∙ lt-ltb k (length (cl x)) lt)) | inr le ↦ le ] in
          let many = so_many (length (cl x)) i in
          let many_all = so_many (length (cl x)) j in
          let spot : length (replicate (length (cl x)) i) + (k - length (cl x)) ≡ k = omega (arith, many, le) in
          let r = f (sym (get_behind (replicate (length (cl x)) i) (owners_from catalog (suc i) made) (k - length (cl x))) ∙ ap (slice_get (replicate (length (cl x)) i ++ owners_from catalog (suc i) made)) spot ∙ h) in
          let spot_all : length (cl x) + clause_at t (k - length (cl x)) ≡ length (replicate (length (cl x)) j) + clause_at t (k - length (cl x)) = omega (arith, many_all) in
          ap (slice_get (replicate (length (cl x)) j ++ owners_from catalog (suc j) all)) spot_all ∙ get_behind (replicate (length (cl x)) j) (owners_from catalog (suc j) all) (clause_at t (k - length (cl x))) ∙ r
  owner_none (more {made} {all} x own t) i j k h =
      let r = owner_none t i (suc j) k h in
      let many_all = so_many (length (cl x)) j in
      let spot_all : length (cl x) + clause_at t k ≡ length (replicate (length (cl x)) j) + clause_at t k = omega (arith, many_all) in
      ap (slice_get (replicate (length (cl x)) j ++ owners_from catalog (suc j) all)) spot_all ∙ get_behind (replicate (length (cl x)) j) (owners_from catalog (suc j) all) (clause_at t k) ∙ r

  owners_each : (i : ℕ) (rules : List HardRule) → length (owners_from catalog i rules) ≡ length (flat_map cl rules)
  owners_each i [] = refl
  owners_each i (x ∷ rules) =
      let many = so_many (length (cl x)) i in
      let rest = owners_each (suc i) rules in
      let one_ = joined_length (replicate (length (cl x)) i) (owners_from catalog (suc i) rules) in
      let two_ = clauses_length (cl x) (flat_map cl rules) in
      omega (arith, many, rest, one_, two_)
    where
      joined_length : (xs ys : List ℕ) → length (xs ++ ys) ≡ length xs + length ys
      joined_length [] ys = omega arith
      joined_length (y ∷ xs) ys = let r = joined_length xs ys in omega (arith, r)

      clauses_length : (xs ys : List (List ℤ)) → length (xs ++ ys) ≡ length xs + length ys
      clauses_length [] ys = omega arith
      clauses_length (y ∷ xs) ys = let r = clauses_length xs ys in omega (arith, r)

  pub stand : {left : List Bool} {made all : List HardRule} (t : Thinned left made all)
      → StandAt (flat_map cl made) (owners_from catalog 0 made) (flat_map cl all) (owners_from catalog 0 all) (clause_at t) (place t)
  stand {left} {made} {all} t = record {
    each = owners_each 0 made;
    clause = λ k c h. clause_there t k c h;
    owner = λ k o h.
        let r = owner_there t 0 0 k o h in
        let own = r.is in
        let is : r.number ≡ o = omega (arith, own) in
        let at_place : 0 + place t r.number ≡ place t r.number = omega arith in
        r.there ∙ ap Some (at_place ∙ ap (place t) is);
  }
