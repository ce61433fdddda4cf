-- What the rules weigh that are not made, before a made one.
use Rattle.std.proofs.Common.{◌≡◌, ℕ, zero, suc, ◌+◌, ◌-◌, ◌<◌, ◌≤◌, Bool, true, false, not, cond, List, [], ◌∷◌, ◌++◌, length, inl, inr, refl, sym, ap, ◌∙◌, arith, if◌then◌else◌}
use Rattle.std.specs.Prelude.{slice_get, filter, replicate, nat_lt}
use Rattle.std.specs.Option.{option_map_or}
use Rattle.std.proofs.lemmas.Bool.{cases_lt, lt-ltb, ltb-true, false≢true}
use Rattle.solv_pool.specs.Prelude.{Catalog, HardRule, rule_clauses}
use Rattle.solv_pool.proofs.Members.{Has}
use Rattle.solv_rules.specs.Books.{owners_from}
use Rattle.solv_over.specs.Inner.Places.{is_made, rule_among, clause_among}
use Rattle.solv_over.specs.Inner.Thinned.{IsRequirementOf, Thinned, end, same, more}
use Rattle.solv_over.proofs.Placing.{place, clause_at, get_first, get_behind, get_same, so_many}
use Rattle.solv_over.proofs.Thinning.{thin_itself, thin_both}

-- what those before the made rule of a number weigh; before a number behind the last, all of them
abbrev pub weight : (HardRule → ℕ) → {left : List Bool} {made all : List HardRule} → Thinned left made all → ℕ → ℕ
weight w end k = 0
weight w (same x t) zero = 0
weight w (same x t) (suc k) = weight w t k
weight w (more x own t) k = w x + weight w t k

-- each weighs the same
abbrev pub one_each : HardRule → ℕ
one_each x = 1

-- the rules that are not made stand before a rule beside the made ones
pub place_weight : {left : List Bool} {made all : List HardRule} (t : Thinned left made all) (k : ℕ) → place t k ≡ k + weight one_each t k
place_weight end k = omega arith
place_weight (same x t) zero = omega arith
place_weight (same x t) (suc k) = let r = place_weight t k in omega (arith, r)
place_weight (more x own t) k = let r = place_weight t k in omega (arith, r)

module _ (catalog : Catalog) where
  -- how many clauses it has
  abbrev pub clauses_each : HardRule → ℕ
  clauses_each x = length (rule_clauses catalog x)

  -- before a clause, those that are not made and stand before the rule that owns it
  pub clause_weight : {left : List Bool} {made all : List HardRule} (t : Thinned left made all) (f : ℕ → ℕ) (d m i k : ℕ) → ((j : ℕ) → f (i + j) ≡ m + weight clauses_each t j) → d ≡ m + weight clauses_each t (length made)
      → m + clause_at catalog t k ≡ k + option_map_or f (slice_get (owners_from catalog i made) k) d
  clause_weight end f d m i k each whole = omega (arith, whole)
  clause_weight (same {made} {all} x t) f d m i k each whole =
      by (nat_lt k (clauses_each x)) refl (clause_weight t f d m (suc i) (k - clauses_each x) (λ j. ap f (moved i j) ∙ each (suc j)) whole)
    where
      moved : (n j : ℕ) → suc n + j ≡ n + suc j
      moved n j = omega arith

      by : (b : Bool) → nat_lt k (clauses_each x) ≡ b → m + clause_at catalog t (k - clauses_each x) ≡ (k - clauses_each x) + option_map_or f (slice_get (owners_from catalog (suc i) made) (k - clauses_each x)) d
          → m + (if b then k else clauses_each x + clause_at catalog t (k - clauses_each x)) ≡ k + option_map_or f (slice_get (replicate (clauses_each x) i ++ owners_from catalog (suc i) made) k) d
      by true e r =
          let lt : k < clauses_each x = ltb-true k (clauses_each x) e in
          let long : k < length (replicate (clauses_each x) i) = let n = so_many (clauses_each x) i in omega (arith, lt, n) in
          let own = get_first (replicate (clauses_each x) i) (owners_from catalog (suc i) made) k long ∙ get_same (clauses_each x) i k lt in
          let found : option_map_or f (slice_get (replicate (clauses_each x) i ++ owners_from catalog (suc i) made) k) d ≡ f i = ap (λ o. option_map_or f o d) own in
          let here : f i ≡ m = first i (each 0) in
          omega (arith, found, here)
        where
          first : (n : ℕ) → f (n + 0) ≡ m + 0 → f n ≡ m
          first n h = let e : n + 0 ≡ n = omega arith in let s = ap f e in omega (arith, h, s)
      by false e r =
          let le : clauses_each x ≤ k = elim (cases_lt k (clauses_each x)) [ inl lt ↦ absurd (false≢true (sym e ∙ lt-ltb k (clauses_each x) lt)) | inr le ↦ le ] in
          let many = so_many (clauses_each x) i in
          let spot : length (replicate (clauses_each x) i) + (k - clauses_each x) ≡ k = omega (arith, many, le) in
          let there : slice_get (replicate (clauses_each x) i ++ owners_from catalog (suc i) made) k ≡ slice_get (owners_from catalog (suc i) made) (k - clauses_each x) =
          ap (slice_get (replicate (clauses_each x) i ++ owners_from catalog (suc i) made)) (sym spot) ∙ get_behind (replicate (clauses_each x) i) (owners_from catalog (suc i) made) (k - clauses_each x) in
          let found = ap (λ o. option_map_or f o d) there in
          omega (arith, r, le, found)
  clause_weight (more {made} x own t) f d m i k each whole =
      let r = clause_weight t f d (m + clauses_each x) i k (λ j. let e = each j in omega (arith, e)) (omega (arith, whole)) in
      omega (arith, r)

-- a rule that is not made is a requirement of what is left out
unmade : {left : List Bool} (x : HardRule) → IsRequirementOf left x → is_made left x ≡ false
unmade {left} x own = sym (ap (is_made left) own.is) ∙ ap not own.out

-- where each of the made rules is one that is made, places are told by all rules alone
pub place_among : {left : List Bool} {made all : List HardRule} (t : Thinned left made all) → ((x : HardRule) → Has made x → is_made left x ≡ true) → (k : ℕ) → place t k ≡ rule_among left all k
place_among end each k = refl
place_among {left} (same {made} {all} x t) each zero = let is = each x (inl refl) in ap (λ b. if b then zero else suc (rule_among left all zero)) (sym is)
place_among {left} (same {made} {all} x t) each (suc k) =
    ap suc (place_among t (λ y h. each y (inr h)) k) ∙ ap (λ b. if b then suc (rule_among left all k) else suc (rule_among left all (suc k))) (sym (each x (inl refl)))
place_among {left} (more {made} {all} x own t) each zero = ap suc (place_among t each zero) ∙ ap (λ b. if b then zero else suc (rule_among left all zero)) (sym (unmade x own))
place_among {left} (more {made} {all} x own t) each (suc k) = ap suc (place_among t each (suc k)) ∙ ap (λ b. if b then suc (rule_among left all k) else suc (rule_among left all (suc k))) (sym (unmade x own))

pub clause_place_among : (catalog : Catalog) {left : List Bool} {made all : List HardRule} (t : Thinned left made all) → ((x : HardRule) → Has made x → is_made left x ≡ true) → (k : ℕ)
    → clause_at catalog t k ≡ clause_among catalog left all k
clause_place_among catalog end each k = refl
clause_place_among catalog {left} (same {made} {all} x t) each k =
    let n : ℕ = length (rule_clauses catalog x) in
    ap (λ m. if nat_lt k n then k else n + m) (clause_place_among catalog t (λ y h. each y (inr h)) (k - n))
    ∙ ap (λ b. if b then (if nat_lt k n then k else n + clause_among catalog left all (k - n)) else n + clause_among catalog left all k) (sym (each x (inl refl)))
clause_place_among catalog {left} (more {made} {all} x own t) each k =
    let n : ℕ = length (rule_clauses catalog x) in
    ap (λ m. n + m) (clause_place_among catalog t each k)
    ∙ ap (λ b. if b then (if nat_lt k n then k else n + clause_among catalog left all (k - n)) else n + clause_among catalog left all k) (sym (unmade x own))

-- and so is how many are not made
pub more_among : {left : List Bool} {made all : List HardRule} (t : Thinned left made all) → ((x : HardRule) → Has made x → is_made left x ≡ true) → length (filter (λ x. not (is_made left x)) all) ≡ weight one_each t (length made)
more_among end each = refl
more_among {left} (same {made} {all} x t) each =
    ap (λ b. length (cond (not b) (x ∷ filter (λ z. not (is_made left z)) all) (filter (λ z. not (is_made left z)) all))) (each x (inl refl)) ∙ more_among t (λ y h. each y (inr h))
more_among {left} (more {made} {all} x own t) each =
    ap (λ b. length (cond (not b) (x ∷ filter (λ z. not (is_made left z)) all) (filter (λ z. not (is_made left z)) all))) (unmade x own) ∙ (let rest = more_among t each in omega (arith, rest))

nothing_more : (m : ℕ) → m + 0 ≡ m
nothing_more m = omega arith

other_first : (m n v o : ℕ) → m + 0 ≡ n → n + v ≡ o → m + v ≡ o
other_first m n v o e f = omega (arith, e, f)

one_apart : (m a v o : ℕ) → m + (a + v) ≡ o → (m + a) + v ≡ o
one_apart m a v o e = omega (arith, e)

pub one_among : (m a v o : ℕ) → (m + a) + v ≡ o → m + (a + v) ≡ o
one_among m a v o e = omega (arith, e)

-- the sums before each rule: at the first it is so much, at the end so much
module _ (w sum : HardRule → ℕ) where
  abbrev pub AreSums : {left : List Bool} {made all : List HardRule} → Thinned left made all → ℕ → ℕ → Type 0
  AreSums {left} {made} t m n = (k : ℕ) → m + weight w t k ≡ option_map_or sum (slice_get made k) n

  pub sums_both : {left : List Bool} {a b : List HardRule} (t : Thinned left a b) {c d : List HardRule} (u : Thinned left c d) (m n o : ℕ) → AreSums t m n → AreSums u n o → AreSums (thin_both left t u) m o
  sums_both end {c} u m n o f g k = other_first m n (weight w u k) (option_map_or sum (slice_get c k) o) (f 0) (g k)
  sums_both (same x t) u m n o f g zero = f 0
  sums_both (same x t) u m n o f g (suc k) = sums_both t u m n o (λ j. f (suc j)) g k
  sums_both {left} (more {made} x own t) {c} u m n o f g k =
      one_among m (w x) (weight w (thin_both left t u) k) (option_map_or sum (slice_get (made ++ c) k) o)
      (sums_both t u (m + w x) n o (λ j. one_apart m (w x) (weight w t j) (option_map_or sum (slice_get made j) n) (f j)) g k)

  pub sums_itself : (left : List Bool) (xs : List HardRule) (m : ℕ) → ((x : HardRule) → Has xs x → sum x ≡ m) → AreSums (thin_itself left xs) m m
  sums_itself left [] m each k = nothing_more m
  sums_itself left (x ∷ xs) m each zero = nothing_more m ∙ sym (each x (inl refl))
  sums_itself left (x ∷ xs) m each (suc k) = sums_itself left xs m (λ y h. each y (inr h)) k
