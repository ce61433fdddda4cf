-- A guide that asks for each package of which nothing is known keeps the law of guides.
use Rattle.std.proofs.Common.{◌≡◌, ◌⊎◌, ℕ, zero, suc, ◌+◌, ◌<◌, ◌≤◌, ◌==◌, Bool, true, false, not, ◌&&◌, List, [], ◌∷◌, Option, Some, None, option_map, if◌then◌else◌, inl, inr, refl, sym, ap, ◌∙◌, arith, eq-or-lt_of_le}
use Rattle.std.specs.Prelude.{ℤ, pos, negsuc, neg_ℤ, nat_lt, nat_le, is_none}
use Rattle.std.specs.List.{list_all}
use Rattle.std.proofs.lemmas.Bool.{and_parts, and_from, or_left, or_right, or_from, ne_eqb, cases_Bool, false≢true, leb-true, ltb-true}
use Rattle.solv_pool.specs.Prelude.{literal_true, clause_true, names_package, is_over, are_over}
use Rattle.solv_pool.specs.Inner.Propagation.{forced_by}
use Rattle.solv_trail.specs.Inner.Asked.{KeepsLaw, is_quiet}
use Rattle.solv_trail.specs.Asked.{enabled_clauses, is_enabled, set_of}
use Rattle.solv_trail.specs.declared.questions.Ask.{Ask}
use Rattle.solv_core.specs.declared.in_order.Order.{Order}
use Rattle.solv_core.specs.declared.in_order.Order.TheVariants.{Ascending, Descending}
use Rattle.solv_core.specs.Inner.Numbered.{is_unknown, first_unknown, last_unknown, next_unknown, asks_in_order, ask_to_keep}

-- a package from 1 to n of which nothing is known
record IsOpen (known : ℤ → Bool) (n p : ℕ) : Type 0 where
  some : 0 < p
  within : p ≤ n
  unknown : is_unknown known p ≡ true

-- something is known of each package from 1 to n
abbrev AllKnown : (ℤ → Bool) → ℕ → Type 0
AllKnown known n = (p : ℕ) → 0 < p → p ≤ n → is_unknown known p ≡ false

chosen : (b : Bool) (p q : ℕ) (o : Option ℕ) → (if b then Some p else o) ≡ Some q → ((b ≡ true) × (p ≡ q)) ⊎ (o ≡ Some q)
chosen true p q o e = inl (refl, ap (λ v. elim v as (λ _. ℕ) [ None ↦ p | Some r ↦ r ]) e)
chosen false p q o e = inr e

passed : (b : Bool) (p : ℕ) (o : Option ℕ) → (if b then Some p else o) ≡ None → (b ≡ false) × (o ≡ None)
passed true p o e = absurd (cc)
passed false p o e = (refl, e)

first_is : (known : ℤ → Bool) (p more q : ℕ) → first_unknown known p more ≡ Some q → (p ≤ q) × (q < p + more) × (is_unknown known q ≡ true)
first_is known p zero q e = absurd (cc)
first_is known p (suc more) q e = elim (chosen (is_unknown known p) p q (first_unknown known (suc p) more) e) [
  | inl h ↦ (omega (arith, h.1), omega (arith, h.1), ap (is_unknown known) (sym h.1) ∙ h.0)
  | inr f ↦ let r = first_is known (suc p) more q f in (omega (arith, r.0), omega (arith, r.1), r.2)
]

last_is : (known : ℤ → Bool) (n q : ℕ) → last_unknown known n ≡ Some q → IsOpen known n q
last_is known zero q e = absurd (cc)
last_is known (suc n) q e = elim (chosen (is_unknown known (suc n)) (suc n) q (last_unknown known n) e) [
  | inl h ↦ record { some = omega (arith, h.1); within = omega (arith, h.1); unknown = ap (is_unknown known) (sym h.1) ∙ h.0 }
  | inr f ↦ let r = last_is known n q f in record { some = r.some; within = omega (arith, r.within); unknown = r.unknown }
]

first_none : (known : ℤ → Bool) (p more : ℕ) → first_unknown known p more ≡ None → (q : ℕ) → p ≤ q → q < p + more → is_unknown known q ≡ false
first_none known p zero e q a b = absurd (omega (arith, a, b))
first_none known p (suc more) e q a b =
    let h = passed (is_unknown known p) p (first_unknown known (suc p) more) e in
    elim (eq-or-lt_of_le a) [
      | inl s ↦ ap (is_unknown known) (sym s) ∙ h.0
      | inr l ↦ first_none known (suc p) more h.1 q (omega (arith, l)) (omega (arith, b))
    ]

last_none : (known : ℤ → Bool) (n : ℕ) → last_unknown known n ≡ None → AllKnown known n
last_none known zero e = λ q a b. absurd (omega (arith, a, b))
last_none known (suc n) e = λ q a b.
    let h = passed (is_unknown known (suc n)) (suc n) (last_unknown known n) e in
    elim (eq-or-lt_of_le b) [
      | inl s ↦ ap (is_unknown known) s ∙ h.0
      | inr l ↦ last_none known n h.1 q a (omega (arith, l))
    ]

next_is : (order : Order) (known : ℤ → Bool) (n q : ℕ) → next_unknown order n known ≡ Some q → IsOpen known n q
next_is Ascending known n q e = let r = first_is known 1 n q e in record { some = omega (arith, r.0); within = omega (arith, r.1); unknown = r.2 }
next_is Descending known n q e = last_is known n q e

next_none : (order : Order) (known : ℤ → Bool) (n : ℕ) → next_unknown order n known ≡ None → AllKnown known n
next_none Ascending known n e = λ q a b. first_none known 1 n e q (omega (arith, a)) (omega (arith, b))
next_none Descending known n e = last_none known n e

of_ask : (o : Option ℕ) (a : Ask) → option_map ask_to_keep o ≡ Some a → o ≡ Some a.pack
of_ask None a e = absurd (cc)
of_ask (Some p) a e = ap (λ v. elim v as (λ _. Option ℕ) [ None ↦ Some p | Some b ↦ Some b.pack ]) e

of_none : (o : Option ℕ) → option_map ask_to_keep o ≡ None → o ≡ None
of_none None e = refl
of_none (Some p) e = absurd (cc)

not_so : (a : Bool) → not a ≡ true → a ≡ false
not_so true e = sym e
not_so false e = refl

one_is : (a b : Bool) → (not a && not b) ≡ false → b ≡ false → a ≡ true
one_is true b u f = refl
one_is false true u f = sym f
one_is false false u f = sym u

-- where all packages are known, a literal that is not false is true
literal_met : (known : ℤ → Bool) (n : ℕ) (l : ℤ) → AllKnown known n → names_package n l ≡ true → known (neg_ℤ l) ≡ false → literal_true (set_of known) l ≡ true
literal_met known n (pos p) all named f =
    let within = and_parts (nat_lt 0 p) (nat_le p n) named in
    or_right (p == 0) (known (pos p)) (one_is (known (pos p)) (known (neg_ℤ (pos p))) (all p (ltb-true 0 p within.0) (leb-true p n within.1)) f)
literal_met known n (negsuc k) all named f = ap not (or_from (suc k == 0) (known (pos (suc k))) (ne_eqb (suc k) 0 (λ e. omega (arith, e))) f)

clause_met : (known : ℤ → Bool) (n : ℕ) (c : List ℤ) → AllKnown known n → is_over n c ≡ true → not (list_all (λ l. known (neg_ℤ l)) c) ≡ true → clause_true (set_of known) c ≡ true
clause_met known n [] all over f = absurd (false≢true f)
clause_met known n (l ∷ c) all over f =
    let both = and_parts (names_package n l) (is_over n c) over in
    elim (cases_Bool (known (neg_ℤ l))) [
      | inl y ↦ or_right (literal_true (set_of known) l) (clause_true (set_of known) c) (clause_met known n c all both.1 (sym (ap (λ b. not (b && list_all (λ m. known (neg_ℤ m)) c)) y) ∙ f))
      | inr m ↦ or_left (literal_true (set_of known) l) (clause_true (set_of known) c) (literal_met known n l all both.0 m)
    ]

all_met : (known : ℤ → Bool) (n : ℕ) (clauses : List (List ℤ)) → AllKnown known n → are_over n clauses ≡ true → list_all (is_quiet known) clauses ≡ true → list_all (clause_true (set_of known)) clauses ≡ true
all_met known n [] all over quiet = refl
all_met known n (c ∷ clauses) all over quiet =
    let o = and_parts (is_over n c) (are_over n clauses) over in
    let q = and_parts (is_quiet known c) (list_all (is_quiet known) clauses) quiet in
    and_from (clause_true (set_of known) c) (list_all (clause_true (set_of known)) clauses)
    (clause_met known n c all o.0 (and_parts (is_none (forced_by known c)) (not (list_all (λ l. known (neg_ℤ l)) c)) q.0).1)
    (all_met known n clauses all o.1 q.1)

enabled_over : (n : ℕ) (enabled : List Bool) (clauses : List (List ℤ)) (owners : List ℕ) → are_over n clauses ≡ true → are_over n (enabled_clauses enabled clauses owners) ≡ true
enabled_over n enabled [] owners h = refl
enabled_over n enabled (c ∷ clauses) [] h = refl
enabled_over n enabled (c ∷ clauses) (o ∷ owners) h =
    let both = and_parts (is_over n c) (are_over n clauses) h in
    by (is_enabled enabled o) (enabled_clauses enabled clauses owners) both.0 (enabled_over n enabled clauses owners both.1)
  where
    by : (b : Bool) (rest : List (List ℤ)) → is_over n c ≡ true → are_over n rest ≡ true → are_over n (if b then c ∷ rest else rest) ≡ true
    by true rest x y = and_from (is_over n c) (are_over n rest) x y
    by false rest x y = y

-- over clauses of packages from 1 to n, which are no more than the packages
pub in_order_keeps_law : (order : Order) (n count : ℕ) (clauses : List (List ℤ)) (owners : List ℕ) (enabled : List Bool) → are_over n clauses ≡ true → n ≤ count
    → KeepsLaw count (enabled_clauses enabled clauses owners) (asks_in_order order n)
in_order_keeps_law order n count clauses owners enabled over few = λ known apart quiet. (
  λ none. all_met known n (enabled_clauses enabled clauses owners) (next_none order known n (of_none (next_unknown order n known) none)) (enabled_over n enabled clauses owners over) quiet,
  λ a asked.
      let r = next_is order known n a.pack (of_ask (next_unknown order n known) a asked) in
      let u = and_parts (not (known (pos a.pack))) (not (known (neg_ℤ (pos a.pack)))) r.unknown in
      (r.some, omega (arith, r.within, few), not_so (known (pos a.pack)) u.0, not_so (known (neg_ℤ (pos a.pack))) u.1),
)
