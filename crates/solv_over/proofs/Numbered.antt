-- What the clauses of rules say of what is left out, in numbers.
use Rattle.std.proofs.Common.{◌≡◌, ℕ, zero, suc, Bool, true, false, not, ◌&&◌, ◌||◌, List, [], ◌∷◌, ◌++◌, map, Option, Some, None, ◌⊎◌, inl, inr, refl, sym, ap, ◌∙◌, subst, if◌then◌else◌}
use Rattle.std.specs.Prelude.{ℤ, pos, negsuc, neg_ℤ, filter, flat_map, ◌==◌}
use Rattle.std.specs.List.{list_any, list_all}
use Rattle.std.proofs.lemmas.Bool.{and_parts, and_from, cases_Bool, false≢true, or_left, or_right, or_cases, eqb-true, not-true}
use Rattle.solv_list.proofs.Numbers.{zero_not_successor}
use Rattle.solv_pool.specs.Prelude.{Catalog, HardRule}
use Rattle.solv_pool.specs.Clauses.{Literal, is_in, is_out, Clause, same_literal, contains_literal, is_always_true, firsts, shortened, kept, number_of, in_numbers, raw_clauses, rule_clauses}
use Rattle.solv_pool.proofs.Members.{Has, has_front, has_back, has_split, has_mapped, has_flat, has_filtered, of_mapped, of_flat, of_filtered, of_when, any_at, all_by}
use Rattle.solv_trail.specs.Inner.Derivation.{Among, here, there}
use Rattle.solv_over.specs.Inner.Widened.{says_in, says_out, says_neither, AreBeside}
use Rattle.solv_over.proofs.Fair.{fair, AreFair}

pub among_has : {c : List ℤ} {F : List (List ℤ)} → Among c F → Has F c
among_has here = inl refl
among_has (there a) = inr (among_has a)

pub has_among : (F : List (List ℤ)) (c : List ℤ) → Has F c → Among c F
has_among [] c h = absurd h
has_among (d ∷ F) c (inl e) = subst (λ (v : List ℤ). Among v (d ∷ F)) e here
has_among (d ∷ F) c (inr k) = there (has_among F c k)

-- the literals of a shortened clause are of the clause
firsts_of : (before c : Clause) (l : Literal) → Has (firsts before c) l → Has c l
firsts_of before [] l h = absurd h
firsts_of before (m ∷ c) l h = step (contains_literal before m) (λ k. firsts_of before c l k) (λ k. firsts_of (m ∷ before) c l k) h
  where
    step : (b : Bool) → (Has (firsts before c) l → Has c l) → (Has (firsts (m ∷ before) c) l → Has c l) → Has (if b then firsts before c else m ∷ firsts (m ∷ before) c) l → Has (m ∷ c) l
    step true f g k = inr (f k)
    step false f g (inl e) = inl e
    step false f g (inr k) = inr (g k)

shortened_of : (c : Clause) (l : Literal) → Has (shortened c) l → Has c l
shortened_of c l h = (of_filtered (λ m. not (same_literal (is_out 0) m)) c l (firsts_of [] (filter (λ m. not (same_literal (is_out 0) m)) c) l h)).0

same_out : (a : ℕ) (m : Literal) → same_literal (is_out a) m ≡ true → m ≡ is_out a
same_out a (is_in b) h = absurd (false≢true h)
same_out a (is_out b) h = ap is_out (sym (eqb-true a b h))

-- and what says "out" stays
firsts_has : (before c : Clause) (a : ℕ) → Has c (is_out a) → Has (firsts before c) (is_out a) ⊎ (contains_literal before (is_out a) ≡ true)
firsts_has before [] a h = absurd h
firsts_has before (m ∷ c) a h = step (contains_literal before m) refl h (λ k. firsts_has before c a k) (λ k. firsts_has (m ∷ before) c a k)
  where
    step : (b : Bool) → contains_literal before m ≡ b → Has (m ∷ c) (is_out a) → (Has c (is_out a) → Has (firsts before c) (is_out a) ⊎ (contains_literal before (is_out a) ≡ true))
        → (Has c (is_out a) → Has (firsts (m ∷ before) c) (is_out a) ⊎ (contains_literal (m ∷ before) (is_out a) ≡ true))
        → Has (if b then firsts before c else m ∷ firsts (m ∷ before) c) (is_out a) ⊎ (contains_literal before (is_out a) ≡ true)
    step true e (inl s) f g = inr (ap (contains_literal before) (sym s) ∙ e)
    step true e (inr k) f g = f k
    step false e (inl s) f g = inl (inl s)
    step false e (inr k) f g = elim (g k) [
      | inl n ↦ inl (inr n)
      | inr n ↦ elim (or_cases (same_literal (is_out a) m) (contains_literal before (is_out a)) n) [ inl s ↦ inl (inl (same_out a m s)) | inr o ↦ inr o ]
    ]

shortened_has : (c : Clause) (k : ℕ) → Has c (is_out (suc k)) → Has (shortened c) (is_out (suc k))
shortened_has c k h = elim (firsts_has [] (filter (λ m. not (same_literal (is_out 0) m)) c) (suc k) (has_filtered (λ m. not (same_literal (is_out 0) m)) c (is_out (suc k)) h (other k))) [
  | inl n ↦ n
  | inr n ↦ absurd (false≢true n)
]
  where
    other : (k : ℕ) → not (0 == suc k) ≡ true
    other k = ap not (zero_not_successor k)

module _ (left : ℕ → Bool) (system : left 0 ≡ false) where
  abbrev pub inside_of : ℕ → Bool
  inside_of p = not (left p)

  module _ (catalog : Catalog) where
    fair_number : (l : Literal) → fair catalog inside_of l ≡ true → says_in left (number_of l) ≡ false
    fair_number (is_in q) h = not-true (left q) h
    fair_number (is_out zero) h = system
    fair_number (is_out (suc k)) h = refl

    -- the clauses of a rule, each from one as it is made
    pub record IsMade (x : HardRule) (c : List ℤ) : Type 0 where
      pub raw : Clause
      pub there : Has (raw_clauses catalog x) raw
      pub is : map number_of (shortened raw) ≡ c

    pub made_from : (x : HardRule) (c : List ℤ) → Has (rule_clauses catalog x) c → IsMade x c
    made_from x c h =
        let m = of_mapped (λ d. map number_of d) (kept (raw_clauses catalog x)) c h in
        let s = of_mapped shortened (filter (λ d. not (is_always_true d)) (raw_clauses catalog x)) m.0 m.1.0 in
        let f = of_filtered (λ d. not (is_always_true d)) (raw_clauses catalog x) s.0 s.1.0 in
        record { raw = s.0; there = f.0; is = ap (λ d. map number_of d) s.1.1 ∙ m.1.1 }

    -- each says of this package, which is left out, that it is out
    pub record SaysOut (x : HardRule) : Type 0 where
      pub pack : ℕ
      pub out : left pack ≡ true
      pub each : (c : Clause) → Has (raw_clauses catalog x) c → Has c (is_out pack)

    out_there : (x : HardRule) → SaysOut x → (c : List ℤ) → Has (rule_clauses catalog x) c → list_any (says_out left) c ≡ true
    out_there x says c h =
        let made = made_from x c h in
        subst (λ (v : List ℤ). list_any (says_out left) v ≡ true) made.is (by says.pack made.raw says.out (says.each made.raw made.there))
      where
        by : (p : ℕ) (d : Clause) → left p ≡ true → Has d (is_out p) → list_any (says_out left) (map number_of (shortened d)) ≡ true
        by zero d own k = absurd (false≢true (sym system ∙ own))
        by (suc p) d own k = any_at (says_out left) (map number_of (shortened d)) (negsuc p) (has_mapped number_of (shortened d) (is_out (suc p)) (shortened_has d p k)) own

    fair_there : (x : HardRule) → AreFair catalog inside_of (raw_clauses catalog x) → (c : List ℤ) → Has (rule_clauses catalog x) c → (l : ℤ) → Has c l → says_in left l ≡ false
    fair_there x fairs c h l k =
        let made = made_from x c h in
        let m = of_mapped number_of (shortened made.raw) l (subst (λ (v : List ℤ). Has v l) (sym made.is) k) in
        ap (says_in left) (sym m.1.1) ∙ fair_number m.0 (fairs made.raw made.there m.0 (shortened_of made.raw m.0 m.1.0))

    none_out : (c : List ℤ) → list_any (says_out left) c ≡ false → ((l : ℤ) → Has c l → says_in left l ≡ false) → list_all (says_neither left) c ≡ true
    none_out [] h f = refl
    none_out (l ∷ c) h f = by (says_out left l) refl h (λ k. none_out c k (λ m n. f m (inr n)))
      where
        by : (b : Bool) → says_out left l ≡ b → (b || list_any (says_out left) c) ≡ false → (list_any (says_out left) c ≡ false → list_all (says_neither left) c ≡ true) → list_all (says_neither left) (l ∷ c) ≡ true
        by true e k rest = absurd (false≢true (sym k))
        by false e k rest = and_from (says_neither left l) (list_all (says_neither left) c) (and_from (not (says_in left l)) (not (says_out left l)) (ap not (f l (inl refl))) (ap not e)) (rest k)

    -- a rule of which each clause is fair, or says that something left out is out
    abbrev pub IsPlaced : HardRule → Type 0
    IsPlaced x = AreFair catalog inside_of (raw_clauses catalog x) ⊎ SaysOut x

    -- made rules among all: the others say that something left out is out
    pub rules_beside : (made all : List HardRule) → ((x : HardRule) → Has made x → Has all x) → ((x : HardRule) → Has all x → (Has made x × IsPlaced x) ⊎ SaysOut x)
        → AreBeside left (flat_map (rule_clauses catalog) made) (flat_map (rule_clauses catalog) all)
    rules_beside made all wider each = record {
      wider = λ c a.
          let f = of_flat (rule_clauses catalog) made c (among_has a) in
          has_among (flat_map (rule_clauses catalog) all) c (has_flat (rule_clauses catalog) all f.0 c (wider f.0 f.1.0) f.1.1);
      each = λ c a.
          let f = of_flat (rule_clauses catalog) all c (among_has a) in
          elim (each f.0 f.1.0) [
            | inr o ↦ inl (out_there f.0 o c f.1.1)
            | inl m ↦ elim m.1 [
              | inr o ↦ inl (out_there f.0 o c f.1.1)
              | inl fairs ↦ elim (cases_Bool (list_any (says_out left) c)) [
                | inl o ↦ inl o
                | inr n ↦ inr (has_among (flat_map (rule_clauses catalog) made) c (has_flat (rule_clauses catalog) made f.0 c m.0 f.1.1), none_out c n (fair_there f.0 fairs c f.1.1))
              ]
            ]
          ];
    }
