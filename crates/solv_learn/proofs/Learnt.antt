-- From what the search has collected to what is learnt.
use Rattle.std.proofs.Common.{◌≡◌, ℕ, zero, suc, ◌+◌, ◌-◌, ◌<◌, ◌≤◌, Bool, true, false, not, ◌&&◌, ◌||◌, List, [], ◌∷◌, length, take, get_or, map, Option, Some, ◌⊎◌, inl, inr, refl, sym, ap, ◌∙◌, subst, arith, add-one, if◌then◌else◌}
use Rattle.std.specs.Prelude.{ℤ, pos, neg_ℤ, nat_lt, reverse, slice_get}
use Rattle.std.specs.List.{list_all}
use Rattle.std.specs.Ordering.{int_eq}
use Rattle.std.proofs.lemmas.Bool.{and_parts, and_from, cases_Bool, cases_lt, false≢true, ltb-true, lt-ltb, false_from_ne_true}
use Rattle.std.proofs.lemmas.List.{reverse-append, take_all, take-take}
use Rattle.std.proofs.lemmas.List.Folds.{list_all-append}
use Rattle.solv_pool.specs.Prelude.{is_fact, is_refuted, is_open, names_package, is_over}
use Rattle.solv_derive.specs.Forced.{is_falsified}
use Rattle.solv_derive.specs.declared.logs.Hint.{Hint}
use Rattle.solv_derive.proofs.Facts.{known_here, known_later, known_same, known_cases, neg-neg, all_from, all_member, open_from}
use Rattle.solv_derive.proofs.Tables.{names_neg}
use Rattle.solv_trail.specs.Inner.Derivation.{Within, IsConsistent, IsQuiet}
use Rattle.solv_trail.specs.Inner.Held.{Held}
use Rattle.solv_trail.specs.Walk.{asserts}
use Rattle.solv_trail.proofs.Unit.{two_open_quiet, known_next}
use Rattle.solv_trail.proofs.Walk.{take_known, known_at, known_last}
use Rattle.solv_learn.specs.Inner.Collecting.{IsCollected}
use Rattle.solv_learn.specs.Collecting.{is_plain}
use Rattle.solv_learn.specs.Inner.Learning.{IsRefuted, IsLearnt}
use Rattle.solv_learn.specs.Inner.Refuting.{Refutes, Finds, hint_for, is_in_use}
use Rattle.solv_learn.proofs.Collected.{negated}
use Rattle.solv_learn.proofs.Steps.{hints_used}
use Rattle.solv_learn.proofs.Refuting.{refutes_jump, refutes_end}
use Rattle.solv_list.proofs.Numbers.{same_integer}

pub all_reverse : (p : Hint → Bool) (H : List Hint) → list_all p H ≡ true → list_all p (reverse H) ≡ true
all_reverse p [] h = h
all_reverse p (x ∷ H) h =
    let both = and_parts (p x) (list_all p H) h in
    ap (list_all p) (reverse-append (x ∷ []) H) ∙ list_all-append p (reverse H) (x ∷ []) ∙ and_from (list_all p (reverse H)) (p x && true) (all_reverse p H both.1) (and_from (p x) true both.0 refl)

-- a literal of a clause that is not falsified
some_open : (K c : List ℤ) → is_falsified K c ≡ false → (m : ℤ) × ((is_fact c m ≡ true) × (is_refuted K m ≡ false))
some_open K [] h = absurd (false≢true (sym h))
some_open K (x ∷ c) h = elim (cases_Bool (is_refuted K x)) [
  | inl t ↦ let r = some_open K c (sym (ap (λ b. b && is_falsified K c) t) ∙ h) in (r.0, (known_later x r.0 c r.1.0, r.1.1))
  | inr f ↦ (x, (known_here x c, f))
]

-- what falsifies the clause, and not before the last choice, has a place from there on
pub found_late : (T c : List ℤ) (first last : ℕ) (Q : ℤ → Bool) (L : List ℤ) (lowest : ℕ) → IsCollected T first last Q L lowest → is_falsified T c ≡ true → is_falsified (take last T) c ≡ false
    → ((m : ℤ) → is_fact c m ≡ true → Q (neg_ℤ m) ≡ true) → lowest < length T
found_late T c first last Q L lowest col f late marked = elim (cases_lt lowest (length T)) [
  | inl h ↦ h
  | inr h ↦
      let m = some_open (take last T) c late in
      let low : is_fact (take lowest T) (neg_ℤ m.0) ≡ false = col.least (neg_ℤ m.0) (marked m.0 m.1.0) m.1.1 in
      let there : is_fact T (neg_ℤ m.0) ≡ true = all_member (is_refuted T) c f m.0 m.1.0 in
      absurd (false≢true (sym low ∙ ap (λ v. is_fact v (neg_ℤ m.0)) (take_all lowest T h) ∙ there))
]

-- a list without one literal, where it first stands
abbrev without : ℤ → List ℤ → List ℤ
without x [] = []
without x (y ∷ ys) = if int_eq x y then ys else y ∷ without x ys

without_shorter : (x : ℤ) (T : List ℤ) → is_fact T x ≡ true → length (without x T) + 1 ≡ length T
without_shorter x [] h = absurd (false≢true h)
without_shorter x (y ∷ ys) h = elim (cases_Bool (int_eq x y)) [
  | inl e ↦ rw e (add-one (length ys))
  | inr f ↦
      let r : length (without x ys) + 1 ≡ length ys = without_shorter x ys (sym (ap (λ b. b || is_fact ys x) f) ∙ h) in
      rw f (omega arith)
]

without_other : (x z : ℤ) (T : List ℤ) → is_fact T z ≡ true → (z ≡ x → ⊥) → is_fact (without x T) z ≡ true
without_other x z [] h n = h
without_other x z (y ∷ ys) h n = elim (cases_Bool (int_eq x y)) [
  | inl e ↦ rw e (elim (known_cases y z ys h) [ inl s ↦ absurd (n (s ∙ sym (same_integer x y e))) | inr r ↦ r ])
  | inr f ↦ rw f (elim (known_cases y z ys h) [ inl s ↦ known_same y z (without x ys) s | inr r ↦ known_later y z (without x ys) (without_other x z ys r n) ])
]

-- literals of which none stands twice are no more than those among which their negations are
pub plain_short : (L T : List ℤ) → is_plain L ≡ true → ((m : ℤ) → is_fact L m ≡ true → is_fact T (neg_ℤ m) ≡ true) → length L ≤ length T
plain_short [] T p h = omega arith
plain_short (m ∷ L) T p h =
    let parts = and_parts (not (is_fact L m) && not (is_refuted L m)) (is_plain L) p in
    let once : is_fact L m ≡ false = first_not (is_fact L m) (is_refuted L m) parts.0 in
    let rest : length L ≤ length (without (neg_ℤ m) T) = plain_short L (without (neg_ℤ m) T) parts.1 (λ n k.
    without_other (neg_ℤ m) (neg_ℤ n) T (h n (known_later m n L k)) (λ e. false≢true (sym once ∙ ap (is_fact L) (sym (neg-neg m) ∙ ap neg_ℤ (sym e) ∙ neg-neg n) ∙ k))) in
    let less : length (without (neg_ℤ m) T) + 1 ≡ length T = without_shorter (neg_ℤ m) T (h m (known_here m L)) in
    omega arith
  where
    first_not : (a b : Bool) → (not a && not b) ≡ true → a ≡ false
    first_not true b q = absurd (false≢true q)
    first_not false b q = refl

-- without a choice
pub refuted_is : (rules : List (List ℤ)) (used : ℕ → Bool) (count base : ℕ) (T : List ℤ) (Q : ℤ → Bool) (H G : List Hint) → G ≡ reverse H
    → ((look : Hint → Option (List ℤ)) → Finds look rules count base → Refutes look (λ x. false) T 0 Q (reverse H)) → list_all (is_in_use used count base (length rules)) H ≡ true
    → IsRefuted rules used count base G
refuted_is rules used count base T Q H G is refutes in_use =
    let P : List Hint → Type 0 = λ v. IsRefuted rules used count base v in
    subst P (sym is) (record {
      good = λ look finds. refutes_end look (λ x. false) T Q (reverse H) [] (refutes look finds) (record { sub = λ l k. absurd (false≢true k) }) (λ l q k. absurd (false≢true k)) (λ l k. absurd (false≢true k));
      in_use = all_reverse (is_in_use used count base (length rules)) H in_use;
    })

-- the first unique implication point u, at place low
module _ (T : List ℤ) (apart : IsConsistent T) (first last low : ℕ) (order : first ≤ last) (Q : ℤ → Bool) (L : List ℤ) (col : IsCollected T first last Q L low) (within : low < length T)
    (u : ℤ) (is : u ≡ get_or T low (pos 0)) (before : (e : ℕ) → is_fact (take e T) u ≡ nat_lt low e) where
  late : last ≤ low
  late = col.found within

  there : is_fact T u ≡ true
  there = ap (is_fact T) is ∙ known_at T low within

  unknown_to : (e : ℕ) → e ≤ low → is_fact (take e T) u ≡ false
  unknown_to e h = false_from_ne_true (is_fact (take e T) u) (λ t. let less : low < e = ltb-true low e (sym (before e) ∙ t) in omega arith)

  abbrev learnt : List ℤ
  learnt = neg_ℤ u ∷ L

  back : neg_ℤ (neg_ℤ u) ≡ u
  back = neg-neg u

  -- the negations of the learnt clause
  turned : (l : ℤ) → is_fact (map neg_ℤ learnt) l ≡ true → (l ≡ u) ⊎ (is_fact (map neg_ℤ L) l ≡ true)
  turned l k = elim (known_cases (neg_ℤ (neg_ℤ u)) l (map neg_ℤ L) k) [ inl e ↦ inl (e ∙ back) | inr r ↦ inr r ]

  pub learnt_within : Within (map neg_ℤ learnt) T
  learnt_within = record { sub = λ l k. elim (turned l k) [ inl e ↦ ap (is_fact T) e ∙ there | inr r ↦ col.inside l (col.only l r).0 ] }

  not_first : (l : ℤ) → is_fact (map neg_ℤ learnt) l ≡ true → is_fact (take first T) l ≡ false
  not_first l k = elim (turned l k) [
    | inl e ↦ ap (is_fact (take first T)) e ∙ unknown_to first (let h = late in omega arith)
    | inr r ↦ (col.only l r).2
  ]

  pub loose : (k : ℕ) → k < first → is_fact (map neg_ℤ learnt) (get_or T k (pos 0)) ≡ false
  loose k h = false_from_ne_true (is_fact (map neg_ℤ learnt) (get_or T k (pos 0))) (λ t.
      let small : k < length T = let w = late in omega arith in
      let here : is_fact (take (suc k) T) (get_or T k (pos 0)) ≡ true = known_last T k small in
      let up : is_fact (take first T) (get_or T k (pos 0)) ≡ true = take_known (take first T) (suc k) (get_or T k (pos 0)) (ap (λ v. is_fact v (get_or T k (pos 0))) (take-take (suc k) first T (omega arith)) ∙ here) in
      false≢true (sym (not_first (get_or T k (pos 0)) t) ∙ up))

  rises : (d e : ℕ) → d ≤ e → (l : ℤ) → is_fact (take d T) l ≡ true → is_fact (take e T) l ≡ true
  rises d e h l k = take_known (take e T) d l (ap (λ v. is_fact v l) (take-take d e T h) ∙ k)

  pub jumps : (look : Hint → Option (List ℤ)) (H : List Hint) → Refutes look (λ x. false) T (low + 1) Q H → Refutes look (is_fact (map neg_ℤ learnt)) T first Q H
  jumps look H r = refutes_jump look (λ x. false) (is_fact (map neg_ℤ learnt)) Q T H (low + 1) first
      (λ l k. absurd (false≢true k))
      (λ l k. elim (turned l k) [
        | inl e ↦ inl (ap (is_fact (take (low + 1) T)) e ∙ before (low + 1) ∙ lt-ltb low (low + 1) (omega arith))
        | inr s ↦ inl (rises last (low + 1) (let h = late in omega arith) l (col.only l s).1)
      ])
      (λ l k. rises first (low + 1) (let h = late in omega arith) l k)
      (λ l q k. elim (cases_Bool (is_fact (take first T) l)) [
        | inl a ↦ inl a
        | inr a ↦ elim (cases_Bool (is_fact (take last T) l)) [
          | inl b ↦ inr (known_later (neg_ℤ (neg_ℤ u)) l (map neg_ℤ L) (col.kept l q b a))
          | inr b ↦
              let under : is_fact (take low T) l ≡ false = col.least l q b in
              let up : is_fact (take (suc low) T) l ≡ true = ap (λ v. is_fact (take v T) l) (sym (add-one low)) ∙ k in
              elim (known_next T low within l up) [
                | inl d ↦ absurd (false≢true (sym under ∙ d))
                | inr e ↦ inr (known_same (neg_ℤ (neg_ℤ u)) l (map neg_ℤ L) (e ∙ sym is ∙ sym back))
              ]
        ]
      ])
      r

  -- L's literals are refuted before the last choice
  pub rest_refuted : (m : ℤ) → is_fact L m ≡ true → is_refuted (take last T) m ≡ true
  rest_refuted m k = (col.only (neg_ℤ m) (negated L m k)).1

  pub rest_in : (m : ℤ) → is_fact L m ≡ true → is_refuted T m ≡ true
  rest_in m k = col.inside (neg_ℤ m) (col.only (neg_ℤ m) (negated L m k)).0

  not_in_rest : is_fact L (neg_ℤ u) ≡ false
  not_in_rest = false_from_ne_true (is_fact L (neg_ℤ u)) (λ t.
      let k : is_fact (map neg_ℤ L) u ≡ true = ap (is_fact (map neg_ℤ L)) (sym back) ∙ negated L (neg_ℤ u) t in
      false≢true (sym (unknown_to last late) ∙ (col.only u k).1))

  pub plain_is : is_plain learnt ≡ true
  plain_is =
      let turned_not : is_refuted L (neg_ℤ u) ≡ false = false_from_ne_true (is_refuted L (neg_ℤ u)) (λ t.
      let k : is_fact L u ≡ true = ap (is_fact L) (sym back) ∙ t in
      apart.apart u there (rest_in u k)) in
      and_from (not (is_fact L (neg_ℤ u)) && not (is_refuted L (neg_ℤ u))) (is_plain L) (both (is_fact L (neg_ℤ u)) (is_refuted L (neg_ℤ u)) not_in_rest turned_not) col.plain
    where
      both : (a b : Bool) → a ≡ false → b ≡ false → (not a && not b) ≡ true
      both a b e f = rw (e, f) refl

  pub short_is : length learnt ≤ length T
  short_is = plain_short learnt T plain_is (λ m k. learnt_within.sub (neg_ℤ m) (negated learnt m k))

  pub over_is : (count : ℕ) → list_all (names_package count) T ≡ true → is_over count learnt ≡ true
  over_is count all =
      let in_t : (l : ℤ) → is_fact T l ≡ true → names_package count (neg_ℤ l) ≡ true = λ l k. names_neg count l (all_member (names_package count) T all l k) in
      and_from (names_package count (neg_ℤ u)) (is_over count L) (in_t u there)
      (all_from (names_package count) L (λ m k. ap (names_package count) (sym (neg-neg m)) ∙ in_t (neg_ℤ m) (rest_in m k)))

  -- where u is not yet known it is open, and so is its negation
  open_at : (e : ℕ) → e ≤ low → is_open (take e T) (neg_ℤ u) ≡ true
  open_at e h = open_from (take e T) (neg_ℤ u)
      (false_from_ne_true (is_fact (take e T) (neg_ℤ u)) (λ t. apart.apart u there (take_known T e (neg_ℤ u) t)))
      (ap (is_fact (take e T)) back ∙ unknown_to e h)

  pub asserts_at : (e : ℕ) → e ≤ low → ((m : ℤ) → is_fact L m ≡ true → is_refuted (take e T) m ≡ true) → asserts (take e T) learnt ≡ true
  asserts_at e h f = and_from (is_open (take e T) (neg_ℤ u)) (list_all (is_refuted (take e T)) L) (open_at e h) (all_from (is_refuted (take e T)) L f)

  pub quiet_at : (e : ℕ) → e ≤ low → (m : ℤ) → is_fact L m ≡ true → is_refuted (take e T) m ≡ false → IsQuiet (take e T) learnt
  quiet_at e h m k f = two_open_quiet (take e T) learnt (neg_ℤ u) m (known_here (neg_ℤ u) L) (known_later (neg_ℤ u) m L k)
      (λ s. false≢true (sym not_in_rest ∙ ap (is_fact L) s ∙ k)) (open_at e h)
      (open_from (take e T) m (false_from_ne_true (is_fact (take e T) m) (λ t. apart.apart m (take_known T e m t) (rest_in m k))) f)

-- and what is learnt
pub learnt_is : (rules : List (List ℤ)) (used : ℕ → Bool) (count base : ℕ) (held : Held) (first last low : ℕ) (Q R : ℤ → Bool) (L : List ℤ) (u : ℤ) (H G : List Hint) (level : ℕ)
    → IsConsistent held.lits → list_all (names_package held.count) held.lits ≡ true → 0 < length held.marks → first ≤ last → last ≡ get_or held.marks (length held.marks - 1) 0
    → ((i k : ℕ) → i < k → k < length held.marks → get_or held.marks i 0 < get_or held.marks k 0)
    → IsCollected held.lits first last Q L low → low < length held.lits → u ≡ get_or held.lits low (pos 0) → ((e : ℕ) → is_fact (take e held.lits) u ≡ nat_lt low e)
    → ((look : Hint → Option (List ℤ)) → Finds look rules count base → Refutes look (is_fact (map neg_ℤ (neg_ℤ u ∷ L))) held.lits 0 R (reverse H)) → list_all (is_in_use used count base (length rules)) H ≡ true → G ≡ reverse H
    → level ≤ length held.marks → (level < length held.marks → (l : ℤ) → is_fact L l ≡ true → is_refuted (take (get_or held.marks level 0) held.lits) l ≡ true)
    → ((k : ℕ) → k < level → (l : ℤ) × ((is_fact L l ≡ true) × (is_refuted (take (get_or held.marks k 0) held.lits) l ≡ false)))
    → IsLearnt rules used count base held (neg_ℤ u ∷ L) G level
learnt_is rules used count base held first last low Q R L u H G level apart over some order last_is rising col within is before refutes in_use turned few reached least =
    let T : List ℤ = held.lits in
    let n : ℕ = length held.marks in
    let end : last ≤ low = col.found within in
    let below_last : (k : ℕ) → k < n → get_or held.marks k 0 ≤ last = λ k h. elim (cases_lt k (n - 1)) [
      | inl a ↦ let r : get_or held.marks k 0 < get_or held.marks (n - 1) 0 = rising k (n - 1) a (omega arith) in omega arith
      | inr a ↦ let e : k ≡ n - 1 = omega arith in let f : get_or held.marks k 0 ≡ get_or held.marks (n - 1) 0 = ap (λ v. get_or held.marks v 0) e in omega arith
    ] in
    let less : level < n = elim (cases_lt level n) [
      | inl a ↦ a
      | inr a ↦
          let m = least (n - 1) (omega arith) in
          absurd (false≢true (sym m.1.1 ∙ ap (λ v. is_refuted (take v T) m.0) (sym last_is) ∙ rest_refuted T apart first last low order Q L col within u is before m.0 m.1.0))
    ] in
    let P : List Hint → Type 0 = λ v. IsLearnt rules used count base held (neg_ℤ u ∷ L) v level in
    subst P (sym turned) (record {
      good = λ look finds. refutes_end look (is_fact (map neg_ℤ (neg_ℤ u ∷ L))) T R (reverse H) (neg_ℤ u ∷ L) (refutes look finds) (learnt_within T apart first last low order Q L col within u is before) (λ l q k. k) (λ l k. k);
      in_use = all_reverse (is_in_use used count base (length rules)) H in_use;
      over = over_is T apart first last low order Q L col within u is before held.count over;
      plain = plain_is T apart first last low order Q L col within u is before;
      short = short_is T apart first last low order Q L col within u is before;
      asserts_before = ap (λ v. asserts (take v T) (neg_ℤ u ∷ L)) (sym last_is) ∙ asserts_at T apart first last low order Q L col within u is before last end (rest_refuted T apart first last low order Q L col within u is before);
      few = less;
      asserts_back = asserts_at T apart first last low order Q L col within u is before (get_or held.marks level 0) (let b = below_last level less in omega arith) (reached less);
      quiet_earlier = λ k h.
          let m = least k h in
          quiet_at T apart first last low order Q L col within u is before (get_or held.marks k 0) (let b = below_last k (omega arith) in omega arith) m.0 m.1.0 m.1.1;
    })

pub some_rule : (rules : List (List ℤ)) (r : ℕ) → r < length rules → (c : List ℤ) × (slice_get rules r ≡ Some c)
some_rule [] r h = absurd (omega arith)
some_rule (c ∷ rules) zero h = (c, refl)
some_rule (c ∷ rules) (suc r) h = some_rule rules r (omega arith)

pub first_used : (used : ℕ → Bool) (count base all r : ℕ) (H : List Hint) → r < all → used r ≡ true → H ≡ hint_for count base r ∷ [] → list_all (is_in_use used count base all) H ≡ true
first_used used count base all r H h on is = hints_used used count base all r [] H h on is refl

pub first_to_last : (marks : List ℕ) (first last n : ℕ) → 0 < length marks → n ≡ length marks → first ≡ get_or marks 0 0 → last ≡ get_or marks (n - 1) 0
    → ((i k : ℕ) → i < k → k < length marks → get_or marks i 0 < get_or marks k 0) → first ≤ last
first_to_last marks first last n some is a b rising = elim (cases_lt 0 (n - 1)) [
  | inl h ↦ let r : get_or marks 0 0 < get_or marks (n - 1) 0 = rising 0 (n - 1) h (omega arith) in omega arith
  | inr h ↦ let e : n - 1 ≡ 0 = omega arith in let f : get_or marks (n - 1) 0 ≡ get_or marks 0 0 = ap (λ v. get_or marks v 0) e in omega arith
]
