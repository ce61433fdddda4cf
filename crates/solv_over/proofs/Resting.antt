-- Unit propagation comes to rest.
use Rattle.std.proofs.Common.{◌≡◌, ℕ, zero, suc, ◌+◌, ◌<◌, ◌≤◌, Bool, true, false, not, List, [], ◌∷◌, Option, Some, None, ◌⊎◌, inl, inr, refl, sym, ap, ◌∙◌, subst, arith, if◌then◌else◌}
use Rattle.std.specs.Prelude.{ℤ, pos, negsuc, neg_ℤ, nat_abs, nat_lt, nat_le, is_none}
use Rattle.std.specs.List.{list_all}
use Rattle.std.specs.Ordering.{int_eq}
use Rattle.std.proofs.lemmas.Bool.{and_parts, and_from, or_right, cases_eq, false≢true, false_from_ne_true, not_from_false, not-true, ltb-true, leb-true}
use Rattle.solv_pool.specs.Prelude.{is_fact, is_refuted, is_open, unit, names_package, is_over, are_over}
use Rattle.solv_derive.specs.Forced.{forced}
use Rattle.solv_derive.proofs.Facts.{known_here, all_member, forces_from, forced_member}
use Rattle.solv_trail.specs.Inner.Derivation.{Within}
use Rattle.solv_trail.proofs.Rounds.{settled, round, rounds, rounds_are}
use Rattle.solv_trail.proofs.Unit.{round_keeps, rounds_keep, not_open}

-- how many of the numbers from 1 on pass a test
abbrev pub many : (ℕ → Bool) → ℕ → ℕ
many test zero = 0
many test (suc n) = many test n + (if test (suc n) then 1 else 0)

pub many_most : (test : ℕ → Bool) (n : ℕ) → many test n ≤ n
many_most test zero = omega arith
many_most test (suc n) = step (test (suc n)) (many_most test n)
  where
    step : (b : Bool) → many test n ≤ n → many test n + (if b then 1 else 0) ≤ suc n
    step true h = omega (arith, h)
    step false h = omega (arith, h)

-- where each number that passes the second test passes the first
module _ (s t : ℕ → Bool) (narrower : (p : ℕ) → t p ≡ true → s p ≡ true) where
  count_up : (a b : Bool) → (b ≡ true → a ≡ true) → (if b then 1 else 0) ≤ (if a then 1 else 0)
  count_up true true h = omega arith
  count_up true false h = omega arith
  count_up false true h = absurd (false≢true (h refl))
  count_up false false h = omega arith

  many_up : (n : ℕ) → many t n ≤ many s n
  many_up zero = omega arith
  many_up (suc n) = let r = many_up n in let o = count_up (s (suc n)) (t (suc n)) (narrower (suc n)) in omega (arith, r, o)

  -- and one of them the first alone
  pub fewer : (n p : ℕ) → 0 < p → p ≤ n → s p ≡ true → t p ≡ false → many t n < many s n
  fewer zero p h k a b = absurd (omega arith)
  fewer (suc n) p h k a b = elim (cases_eq p (suc n)) [
    | inl e ↦
        let P : ℕ → Type 0 = λ m. (if t m then 1 else 0) < (if s m then 1 else 0) in
        let here : (if t p then 1 else 0) < (if s p then 1 else 0) = rw (a, b) (omega arith) in
        let r = many_up n in let o = subst P e here in omega (arith, r, o)
    | inr d ↦ let r = fewer n p h (omega arith) a b in let o = count_up (s (suc n)) (t (suc n)) (narrower (suc n)) in omega (arith, r, o)
  ]

-- a package of which nothing is known
abbrev pub unknown : List ℤ → ℕ → Bool
unknown facts p = is_open facts (pos p)

pub known_not : (facts : List ℤ) (l : ℤ) → is_fact facts l ≡ true → is_open facts l ≡ false
known_not facts l h = rw h refl

pub unknown_before : (A B : List ℤ) → Within A B → (p : ℕ) → unknown B p ≡ true → unknown A p ≡ true
unknown_before A B w p h =
    let both = and_parts (not (is_fact B (pos p))) (not (is_refuted B (pos p))) h in
    and_from (not (is_fact A (pos p))) (not (is_refuted A (pos p)))
    (not_from_false (is_fact A (pos p)) (false_from_ne_true (is_fact A (pos p)) (λ k. false≢true (sym (not-true (is_fact B (pos p)) both.0) ∙ w.sub (pos p) k))))
    (not_from_false (is_refuted A (pos p)) (false_from_ne_true (is_refuted A (pos p)) (λ k. false≢true (sym (not-true (is_refuted B (pos p)) both.1) ∙ w.sub (neg_ℤ (pos p)) k))))

-- a literal that is open and then known is of a package that was unknown and is no more
fewer_unknown : (n : ℕ) (A B : List ℤ) (l : ℤ) → Within A B → names_package n l ≡ true → is_open A l ≡ true → is_fact B l ≡ true → many (unknown B) n < many (unknown A) n
fewer_unknown n A B l w named open_ there =
    let range = and_parts (nat_lt 0 (nat_abs l)) (nat_le (nat_abs l) n) named in
    fewer (unknown A) (unknown B) (unknown_before A B w) n (nat_abs l) (ltb-true 0 (nat_abs l) range.0) (leb-true (nat_abs l) n range.1) (before l open_) (after l there)
  where
    before : (x : ℤ) → is_open A x ≡ true → unknown A (nat_abs x) ≡ true
    before (pos k) h = h
    before (negsuc k) h =
        let both = and_parts (not (is_fact A (negsuc k))) (not (is_fact A (pos (suc k)))) h in
        and_from (not (is_fact A (pos (suc k)))) (not (is_fact A (negsuc k))) both.1 both.0

    after : (x : ℤ) → is_fact B x ≡ true → unknown B (nat_abs x) ≡ false
    after (pos k) h = known_not B (pos k) h
    after (negsuc k) h = not_open B (pos (suc k)) h

-- no clause forces a literal
abbrev pub is_idle : List ℤ → List (List ℤ) → Bool
is_idle facts F = list_all (λ c. is_none (forced facts c)) F

module _ (n : ℕ) where
  -- a round changes nothing, or leaves fewer packages unknown
  round_rests : (F : List (List ℤ)) (A : List ℤ) → are_over n F ≡ true → (is_idle A F ≡ true) ⊎ (many (unknown (round F A)) n < many (unknown A) n)
  round_rests [] A over = inl refl
  round_rests (c ∷ F) A over = by (forced A c) refl (and_parts (is_over n c) (are_over n F) over).0 (λ B. round_rests F B (and_parts (is_over n c) (are_over n F) over).1)
    where
      by : (o : Option ℤ) → forced A c ≡ o → is_over n c ≡ true → ((B : List ℤ) → (is_idle B F ≡ true) ⊎ (many (unknown (round F B)) n < many (unknown B) n))
          → (is_idle A (c ∷ F) ≡ true) ⊎ (many (unknown (round (c ∷ F) A)) n < many (unknown A) n)
      by None e h rest =
          let same : settled A c ≡ A = rw e refl in
          let R : List ℤ → Type 0 = λ B. many (unknown (round F B)) n < many (unknown A) n in
          elim (rest A) [
            | inl i ↦ inl (and_from (is_none (forced A c)) (is_idle A F) (ap is_none e) i)
            | inr l ↦ inr (subst R (sym same) l)
          ]
      by (Some x) e h rest =
          let grew : settled A c ≡ x ∷ A = rw e refl in
          let more : Within (x ∷ A) (round F (x ∷ A)) = round_keeps F (x ∷ A) in
          let is = forced_member A c x (forces_from A c x e) in
          let R : List ℤ → Type 0 = λ B. many (unknown (round F B)) n < many (unknown A) n in
          inr (subst R (sym grew) (fewer_unknown n A (round F (x ∷ A)) x (record { sub = λ l k. more.sub l (or_right (int_eq l x) (is_fact A l) k) }) (all_member (names_package n) c h x is.0) is.1 (more.sub x (known_here x A))))

  idle_same : (F : List (List ℤ)) (A : List ℤ) → is_idle A F ≡ true → round F A ≡ A
  idle_same [] A h = refl
  idle_same (c ∷ F) A h =
      let both = and_parts (is_none (forced A c)) (is_idle A F) h in
      by (forced A c) both.0 refl ∙ idle_same F A both.1
    where
      by : (o : Option ℤ) → is_none o ≡ true → forced A c ≡ o → round F (settled A c) ≡ round F A
      by None k e = rw e refl
      by (Some x) k e = absurd (false≢true k)

  rounds_rest : (F : List (List ℤ)) (A : List ℤ) → are_over n F ≡ true → (k : ℕ) → (is_idle (rounds k F A) F ≡ true) ⊎ (many (unknown (rounds k F A)) n + k ≤ n)
  rounds_rest F A over zero = let m = many_most (unknown A) n in inr (omega (arith, m))
  rounds_rest F A over (suc k) =
      let R : List ℤ → Type 0 = λ B. is_idle B F ≡ true in
      let stays : is_idle (rounds k F A) F ≡ true → is_idle (round F (rounds k F A)) F ≡ true = λ i. subst R (sym (idle_same F (rounds k F A) i)) i in
      elim (rounds_rest F A over k) [
        | inl i ↦ inl (stays i)
        | inr l ↦ elim (round_rests F (rounds k F A) over) [ inl i ↦ inl (stays i) | inr f ↦ inr (omega (arith, l, f)) ]
      ]

  -- as many rounds as packages, and one more, and nothing more is forced
  pub unit_rests : (F : List (List ℤ)) (A : List ℤ) → are_over n F ≡ true → is_idle (unit n F A) F ≡ true
  unit_rests F A over =
      let R : List ℤ → Type 0 = λ B. is_idle B F ≡ true in
      subst R (sym (rounds_are (n + 1) F A)) (elim (rounds_rest F A over (n + 1)) [ inl i ↦ i | inr l ↦ absurd (omega (arith, l)) ])

  pub unit_keeps : (F : List (List ℤ)) (A : List ℤ) → Within A (unit n F A)
  unit_keeps F A = let R : List ℤ → Type 0 = λ B. Within A B in subst R (sym (rounds_are (n + 1) F A)) (rounds_keep (n + 1) F A)
