-- A guide that asks for one package and then for nothing, and its law: it is for clauses with at most one literal that says another package in.
use Rattle.std.proofs.Common.{◌≡◌, ◌⊎◌, ℕ, suc, ◌<◌, ◌≤◌, ◌==◌, Bool, true, false, not, ◌&&◌, ◌||◌, List, [], ◌∷◌, Option, Some, None, if◌then◌else◌, inl, inr, refl, sym, ap, ◌∙◌, arith}
use Rattle.std.specs.Prelude.{ℤ, pos, negsuc, neg_ℤ, is_none, filter}
use Rattle.std.specs.List.{list_all, list_any}
use Rattle.std.proofs.lemmas.Bool.{and_parts, and_from, ne_eqb, cases_Bool, cases_eq, false≢true}
use Rattle.solv_pool.specs.Prelude.{literal_true, clause_true, only}
use Rattle.solv_pool.specs.Inner.Propagation.{forced_by}
use Rattle.solv_trail.specs.Inner.Asked.{AreApart, KeepsLaw, is_quiet}
use Rattle.solv_trail.specs.Asked.{enabled_clauses, is_enabled, set_of}
use Rattle.solv_trail.specs.declared.questions.Ask.{Ask}
use Rattle.solv_core.specs.Inner.Numbered.{ask_to_keep}

-- this package, where nothing is known of it; of package 0, the system, all is known
abbrev pub asks_for : ℕ → (ℤ → Bool) → Option Ask
asks_for p known = if (p == 0) || known (pos p) then None else if known (neg_ℤ (pos p)) then None else Some (ask_to_keep p)

-- the literal says that a package other than this one is in
abbrev pub says_other_in : ℕ → ℤ → Bool
says_other_in p (pos n) = not (n == p)
says_other_in p (negsuc n) = false

abbrev pub says_none_in : ℕ → List ℤ → Bool
says_none_in p c = list_all (λ l. not (says_other_in p l)) c

-- at most one of its literals does
abbrev pub says_one_in : ℕ → List ℤ → Bool
says_one_in p [] = true
says_one_in p (l ∷ c) = if says_other_in p l then says_none_in p c else says_one_in p c

abbrev pub say_one_in : ℕ → List (List ℤ) → Bool
say_one_in p clauses = list_all (says_one_in p) clauses

abbrev is_open_at : (ℤ → Bool) → ℤ → Bool
is_open_at known l = not (known l) && not (known (neg_ℤ l))

abbrev all_false : (ℤ → Bool) → List ℤ → Bool
all_false known c = list_all (λ l. known (neg_ℤ l)) c

both_false : (a b : Bool) → (a || b) ≡ false → (a ≡ false) × (b ≡ false)
both_false true b e = absurd (cc)
both_false false b e = (refl, e)

second_true : (a b : Bool) → (a || b) ≡ true → a ≡ false → b ≡ true
second_true true b e f = absurd (cc)
second_true false b e f = e

was_true : (a : Bool) → not a ≡ false → a ≡ true
was_true true e = refl
was_true false e = absurd (cc)

was_false : (a : Bool) → not a ≡ true → a ≡ false
was_false true e = absurd (cc)
was_false false e = refl

-- what the guide asks nothing for is known
asked_none : (a b : Bool) (x : Ask) → (if a then None else if b then None else Some x) ≡ None → (a ≡ true) ⊎ (b ≡ true)
asked_none true b x e = inl refl
asked_none false true x e = inr refl
asked_none false false x e = absurd (cc)

asked_some : (a b : Bool) (x y : Ask) → (if a then None else if b then None else Some x) ≡ Some y → (a ≡ false) × (b ≡ false) × (x ≡ y)
asked_some true b x y e = absurd (cc)
asked_some false true x y e = absurd (cc)
asked_some false false x y e = (refl, refl, ap (λ o. elim o as (λ _. Ask) [ None ↦ x | Some z ↦ z ]) e)

module _ (known : ℤ → Bool) (apart : AreApart known) (p : ℕ) (settled : (((p == 0) || known (pos p)) ≡ true) ⊎ (known (neg_ℤ (pos p)) ≡ true)) where
  -- a literal that is not so where unknown packages count as out is false, or open and says another package in
  literal_not : (l : ℤ) → literal_true (set_of known) l ≡ false → (known l ≡ false) × ((known (neg_ℤ l) ≡ true) ⊎ ((known (neg_ℤ l) ≡ false) × (says_other_in p l ≡ true)))
  literal_not (pos n) f =
      let h = both_false (n == 0) (known (pos n)) f in (
        h.1,
        elim (cases_Bool (known (neg_ℤ (pos n)))) [
          | inl y ↦ inl y
          | inr m ↦ inr (
            m,
            elim (cases_eq n p) [
              | inl e ↦ elim settled [
                | inl s ↦ absurd (false≢true (sym h.1 ∙ ap (λ v. known (pos v)) e ∙ second_true (p == 0) (known (pos p)) s (ap (λ v. v == 0) (sym e) ∙ h.0)))
                | inr s ↦ absurd (false≢true (sym m ∙ ap (λ v. known (neg_ℤ (pos v))) e ∙ s))
              ]
              | inr d ↦ ap not (ne_eqb n p d)
            ],
          )
        ],
      )
  literal_not (negsuc n) f =
      let h : known (pos (suc n)) ≡ true = second_true (suc n == 0) (known (pos (suc n))) (was_true ((suc n == 0) || known (pos (suc n))) f) (ne_eqb (suc n) 0 (λ e. omega (arith, e))) in
      (elim (cases_Bool (known (negsuc n))) [ inl y ↦ absurd (apart (negsuc n) y h) | inr m ↦ m ], inl h)

  -- what is left of a clause that is not so
  record IsLeft (c : List ℤ) : Type 0 where
    none_true : list_any known c ≡ false
    all : says_none_in p c ≡ true → (filter (is_open_at known) c ≡ []) × (all_false known c ≡ true)
    one : says_one_in p c ≡ true → ((filter (is_open_at known) c ≡ []) × (all_false known c ≡ true)) ⊎ ((x : ℤ) × (filter (is_open_at known) c ≡ x ∷ []))

  left : (c : List ℤ) → clause_true (set_of known) c ≡ false → IsLeft c
  left [] f = record { none_true = refl; all = λ h. (refl, refl); one = λ h. inl (refl, refl) }
  left (l ∷ c) f =
      let b = both_false (literal_true (set_of known) l) (clause_true (set_of known) c) f in
      let rest = left c b.1 in
      let here = literal_not l b.0 in
      elim here.1 [
        | inl gone ↦
            let shut : is_open_at known l ≡ false = rw (here.0, gone) refl in
            record {
              none_true = rw (here.0) (rest.none_true);
              all = λ h.
                  let r = rest.all (and_parts (not (says_other_in p l)) (says_none_in p c) h).1 in
                  (rw shut (r.0), and_from (known (neg_ℤ l)) (all_false known c) gone r.1);
              one = λ h. elim (cases_Bool (says_other_in p l)) [
                | inl y ↦ let r = rest.all (rw y at h) in inl (rw shut (r.0), and_from (known (neg_ℤ l)) (all_false known c) gone r.1)
                | inr m ↦ elim (rest.one (rw m at h)) [
                  | inl r ↦ inl (rw shut (r.0), and_from (known (neg_ℤ l)) (all_false known c) gone r.1)
                  | inr x ↦ inr (x.0, rw shut (x.1))
                ]
              ];
            }
        | inr open_here ↦
            let wide : is_open_at known l ≡ true = rw (here.0, open_here.0) refl in
            record {
              none_true = rw (here.0) (rest.none_true);
              all = λ h. absurd (false≢true (sym (ap not open_here.1) ∙ (and_parts (not (says_other_in p l)) (says_none_in p c) h).0));
              one = λ h. inr (l, rw wide (ap (λ v. l ∷ v) (rest.all (rw (open_here.1) at h)).0));
            }
      ]

  -- a clause that is neither false nor forces a literal is so
  quiet_so : (c : List ℤ) → says_one_in p c ≡ true → is_quiet known c ≡ true → clause_true (set_of known) c ≡ true
  quiet_so c few quiet = elim (cases_Bool (clause_true (set_of known) c)) [
    | inl y ↦ y
    | inr m ↦
        let r = left c m in
        let q = and_parts (is_none (forced_by known c)) (not (all_false known c)) quiet in
        elim (r.one few) [
          | inl s ↦ absurd (false≢true (sym (was_false (all_false known c) q.1) ∙ s.1))
          | inr x ↦
              let forces : forced_by known c ≡ Some x.0 = rw (r.none_true) (ap only x.1) in
              let wrong : is_none (Some x.0) ≡ true = ap is_none (sym forces) ∙ q.0 in
              absurd (cc)
        ]
  ]

  all_so : (clauses : List (List ℤ)) → say_one_in p clauses ≡ true → list_all (is_quiet known) clauses ≡ true → list_all (clause_true (set_of known)) clauses ≡ true
  all_so [] few quiet = refl
  all_so (c ∷ clauses) few quiet =
      let f = and_parts (says_one_in p c) (say_one_in p clauses) few in
      let q = and_parts (is_quiet known c) (list_all (is_quiet known) clauses) quiet in
      and_from (clause_true (set_of known) c) (list_all (clause_true (set_of known)) clauses) (quiet_so c f.0 q.0) (all_so clauses f.1 q.1)

enabled_say : (p : ℕ) (enabled : List Bool) (clauses : List (List ℤ)) (owners : List ℕ) → say_one_in p clauses ≡ true → say_one_in p (enabled_clauses enabled clauses owners) ≡ true
enabled_say p enabled [] owners h = refl
enabled_say p enabled (c ∷ clauses) [] h = refl
enabled_say p enabled (c ∷ clauses) (o ∷ owners) h =
    let both = and_parts (says_one_in p c) (say_one_in p clauses) h in
    by (is_enabled enabled o) (enabled_clauses enabled clauses owners) both.0 (enabled_say p enabled clauses owners both.1)
  where
    by : (b : Bool) (rest : List (List ℤ)) → says_one_in p c ≡ true → say_one_in p rest ≡ true → say_one_in p (if b then c ∷ rest else rest) ≡ true
    by true rest x y = and_from (says_one_in p c) (say_one_in p rest) x y
    by false rest x y = y

positive : (p : ℕ) → (p == 0) ≡ false → 0 < p
positive p f = elim (cases_eq p 0) [ inl e ↦ absurd (false≢true (sym f ∙ ap (λ v. v == 0) e)) | inr m ↦ omega (arith, m) ]

pub one_package_keeps_law : (p count : ℕ) (clauses : List (List ℤ)) (owners : List ℕ) (enabled : List Bool) → say_one_in p clauses ≡ true → p ≤ count
    → KeepsLaw count (enabled_clauses enabled clauses owners) (asks_for p)
one_package_keeps_law p count clauses owners enabled few within = λ known apart quiet. (
  λ none. all_so known apart p (asked_none ((p == 0) || known (pos p)) (known (neg_ℤ (pos p))) (ask_to_keep p) none) (enabled_clauses enabled clauses owners) (enabled_say p enabled clauses owners few) quiet,
  λ a asked.
      let r = asked_some ((p == 0) || known (pos p)) (known (neg_ℤ (pos p))) (ask_to_keep p) a asked in
      let h = both_false (p == 0) (known (pos p)) r.0 in
      let e : p ≡ a.pack = ap (λ v. v.pack) r.2 in
      rw (← e) (positive p h.0, within, h.1, r.1),
)
