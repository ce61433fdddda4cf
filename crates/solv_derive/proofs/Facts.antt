-- Membership in lists of literals, and what a clause forces.
use Rattle.std.proofs.Common.{◌≡◌, zero, suc, Bool, true, false, ◌&&◌, ◌||◌, List, [], ◌∷◌, Some, None, ◌⊎◌, inl, inr, refl, sym, ap, ◌∙◌, subst, filter}
use Rattle.std.specs.Prelude.{ℤ, pos, negsuc, neg_ℤ}
use Rattle.std.specs.List.{list_any, list_all}
use Rattle.std.specs.Ordering.{int_eq}
use Rattle.std.proofs.lemmas.Bool.{or_left, or_right, or_cases, or_parts, or_from, and_parts, and_from, cases_Bool, false≢true}
use Rattle.std.proofs.lemmas.Bool.Decides.{Decides-int_eq}
use Rattle.solv_pool.specs.Prelude.{is_fact, is_refuted, is_open, only}
use Rattle.solv_derive.specs.Forced.{forced}
use Rattle.solv_derive.specs.Inner.Forced.{is_satisfied}
use Rattle.solv_list.proofs.Booleans.{neither}
use Rattle.solv_list.proofs.Numbers.{same_integer}

pub same_self : (x : ℤ) → int_eq x x ≡ true
same_self x = (Decides-int_eq x x).1 refl

pub known_here : (x : ℤ) (xs : List ℤ) → is_fact (x ∷ xs) x ≡ true
known_here x xs = or_left (int_eq x x) (is_fact xs x) (same_self x)

pub known_later : (x l : ℤ) (xs : List ℤ) → is_fact xs l ≡ true → is_fact (x ∷ xs) l ≡ true
known_later x l xs h = or_right (int_eq l x) (is_fact xs l) h

pub known_same : (x l : ℤ) (xs : List ℤ) → l ≡ x → is_fact (x ∷ xs) l ≡ true
known_same x l xs e = let P : ℤ → Type 0 = λ v. is_fact (x ∷ xs) v ≡ true in subst P (sym e) (known_here x xs)

pub known_cases : (x l : ℤ) (xs : List ℤ) → is_fact (x ∷ xs) l ≡ true → (l ≡ x) ⊎ (is_fact xs l ≡ true)
known_cases x l xs h = elim (or_cases (int_eq l x) (is_fact xs l) h) [ inl e ↦ inl (same_integer l x e) | inr k ↦ inr k ]

pub neg-neg : (l : ℤ) → neg_ℤ (neg_ℤ l) ≡ l
neg-neg (pos zero) = refl
neg-neg (pos (suc n)) = refl
neg-neg (negsuc n) = refl

pub any_member : (p : ℤ → Bool) (c : List ℤ) → list_any p c ≡ true → (m : ℤ) × (is_fact c m ≡ true) × (p m ≡ true)
any_member p [] h = absurd (false≢true h)
any_member p (x ∷ c) h = elim (or_cases (p x) (list_any p c) h) [
  | inl e ↦ (x, known_here x c, e)
  | inr k ↦ let r = any_member p c k in (r.0, known_later x r.0 c r.1, r.2)
]

pub any_at : (p : ℤ → Bool) (c : List ℤ) (m : ℤ) → is_fact c m ≡ true → p m ≡ true → list_any p c ≡ true
any_at p [] m h k = absurd (false≢true h)
any_at p (x ∷ c) m h k = elim (known_cases x m c h) [
  | inl e ↦ or_left (p x) (list_any p c) (ap p (sym e) ∙ k)
  | inr r ↦ or_right (p x) (list_any p c) (any_at p c m r k)
]

pub all_member : (p : ℤ → Bool) (c : List ℤ) → list_all p c ≡ true → (m : ℤ) → is_fact c m ≡ true → p m ≡ true
all_member p [] h m k = absurd (false≢true k)
all_member p (x ∷ c) h m k =
    let both = and_parts (p x) (list_all p c) h in
    elim (known_cases x m c k) [ inl e ↦ ap p e ∙ both.0 | inr r ↦ all_member p c both.1 m r ]

pub none_member : (p : ℤ → Bool) (c : List ℤ) → list_any p c ≡ false → (m : ℤ) → is_fact c m ≡ true → p m ≡ false
none_member p [] h m k = absurd (false≢true k)
none_member p (x ∷ c) h m k =
    let both = or_parts (p x) (list_any p c) h in
    elim (known_cases x m c k) [ inl e ↦ ap p e ∙ both.0 | inr r ↦ none_member p c both.1 m r ]

pub all_from : (p : ℤ → Bool) (c : List ℤ) → ((m : ℤ) → is_fact c m ≡ true → p m ≡ true) → list_all p c ≡ true
all_from p [] h = refl
all_from p (x ∷ c) h = and_from (p x) (list_all p c) (h x (known_here x c)) (all_from p c (λ m k. h m (known_later x m c k)))

pub none_from : (p : ℤ → Bool) (c : List ℤ) → ((m : ℤ) → is_fact c m ≡ true → p m ≡ false) → list_any p c ≡ false
none_from p [] h = refl
none_from p (x ∷ c) h = or_from (p x) (list_any p c) (h x (known_here x c)) (none_from p c (λ m k. h m (known_later x m c k)))

pub filter_same : (p q : ℤ → Bool) (c : List ℤ) → ((m : ℤ) → is_fact c m ≡ true → p m ≡ q m) → filter p c ≡ filter q c
filter_same p q [] h = refl
filter_same p q (x ∷ c) h =
    let e : p x ≡ q x = h x (known_here x c) in
    let rest : filter p c ≡ filter q c = filter_same p q c (λ m k. h m (known_later x m c k)) in
    rw (e, rest) refl

pub any_same : (p q : ℤ → Bool) (c : List ℤ) → ((m : ℤ) → is_fact c m ≡ true → p m ≡ q m) → list_any p c ≡ list_any q c
any_same p q [] h = refl
any_same p q (x ∷ c) h =
    let e : p x ≡ q x = h x (known_here x c) in
    let rest : list_any p c ≡ list_any q c = any_same p q c (λ m k. h m (known_later x m c k)) in
    ap (λ a. a || list_any p c) e ∙ ap (λ b. q x || b) rest

pub all_same : (p q : ℤ → Bool) (c : List ℤ) → ((m : ℤ) → is_fact c m ≡ true → p m ≡ q m) → list_all p c ≡ list_all q c
all_same p q [] h = refl
all_same p q (x ∷ c) h =
    let e : p x ≡ q x = h x (known_here x c) in
    let rest : list_all p c ≡ list_all q c = all_same p q c (λ m k. h m (known_later x m c k)) in
    ap (λ a. a && list_all p c) e ∙ ap (λ b. q x && b) rest

pub filter_member : (p : ℤ → Bool) (c : List ℤ) (m : ℤ) → is_fact c m ≡ true → p m ≡ true → is_fact (filter p c) m ≡ true
filter_member p [] m h k = h
filter_member p (x ∷ c) m h k = elim (known_cases x m c h) [
  | inl e ↦ let px : p x ≡ true = ap p (sym e) ∙ k in rw px (known_same x m (filter p c) e)
  | inr r ↦ elim (cases_Bool (p x)) [
    | inl px ↦ rw px (known_later x m (filter p c) (filter_member p c m r k))
    | inr px ↦ rw px (filter_member p c m r k)
  ]
]

pub filter_from : (p : ℤ → Bool) (c : List ℤ) (m : ℤ) → is_fact (filter p c) m ≡ true → (is_fact c m ≡ true) × (p m ≡ true)
filter_from p [] m h = absurd (false≢true h)
filter_from p (x ∷ c) m h = elim (cases_Bool (p x)) [
  | inl px ↦
      let k : is_fact (x ∷ filter p c) m ≡ true = rw px at h in
      elim (known_cases x m (filter p c) k) [
        | inl e ↦ (known_same x m c e, ap p e ∙ px)
        | inr r ↦ let s = filter_from p c m r in (known_later x m c s.0, s.1)
      ]
  | inr px ↦
      let k : is_fact (filter p c) m ≡ true = rw px at h in
      let s = filter_from p c m k in (known_later x m c s.0, s.1)
]

-- what a clause has that forces a literal
pub record Forces (facts c : List ℤ) (x : ℤ) : Type 0 where
  pub none_true : is_satisfied facts c ≡ false
  pub the_open : filter (is_open facts) c ≡ x ∷ []

single_is : (c : List ℤ) (x : ℤ) → only c ≡ Some x → c ≡ x ∷ []
single_is [] x h = cc
single_is (l ∷ []) x h = cc
single_is (l ∷ m ∷ ls) x h = cc

pub forces_from : (facts c : List ℤ) (x : ℤ) → forced facts c ≡ Some x → Forces facts c x
forces_from facts c x h = elim (cases_Bool (is_satisfied facts c)) [
  | inl t ↦ let k : None ≡ Some x = rw t at h in absurd (cc)
  | inr f ↦ let k : only (filter (is_open facts) c) ≡ Some x = rw f at h in
      record { none_true = f; the_open = single_is (filter (is_open facts) c) x k }
]

pub forced_from : (facts c : List ℤ) (x : ℤ) → Forces facts c x → forced facts c ≡ Some x
forced_from facts c x h = rw (h.none_true, h.the_open) refl

pub open_parts : (facts : List ℤ) (l : ℤ) → is_open facts l ≡ true → (is_fact facts l ≡ false) × (is_refuted facts l ≡ false)
open_parts facts l h = neither (is_fact facts l) (is_refuted facts l) h

pub open_from : (facts : List ℤ) (l : ℤ) → is_fact facts l ≡ false → is_refuted facts l ≡ false → is_open facts l ≡ true
open_from facts l h k = rw (h, k) refl

-- the forced literal is open and in the clause
pub forced_member : (facts c : List ℤ) (x : ℤ) → Forces facts c x → (is_fact c x ≡ true) × (is_open facts x ≡ true)
forced_member facts c x h =
    filter_from (is_open facts) c x (let P : List ℤ → Type 0 = λ v. is_fact v x ≡ true in subst P (sym h.the_open) (known_here x []))

-- and each other literal of it is false
pub forced_others : (facts c : List ℤ) (x : ℤ) → Forces facts c x → (m : ℤ) → is_fact c m ≡ true → (m ≡ x) ⊎ (is_refuted facts m ≡ true)
forced_others facts c x h m k = elim (cases_Bool (is_refuted facts m)) [
  | inl f ↦ inr f
  | inr f ↦
      let not_true : is_fact facts m ≡ false = none_member (is_fact facts) c h.none_true m k in
      let here : is_fact (filter (is_open facts) c) m ≡ true = filter_member (is_open facts) c m k (open_from facts m not_true f) in
      let there : is_fact (x ∷ []) m ≡ true = let P : List ℤ → Type 0 = λ v. is_fact v m ≡ true in subst P h.the_open here in
      elim (known_cases x m [] there) [ inl e ↦ inl e | inr z ↦ absurd (false≢true z) ]
]
