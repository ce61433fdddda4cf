-- A good trail over the clauses that are made is one over all, but for events that say of something left out that it is out.
use Rattle.std.proofs.Common.{◌≡◌, ℕ, zero, suc, ◌+◌, Bool, true, false, not, ◌&&◌, ◌||◌, List, [], ◌∷◌, ◌++◌, map, filter, Option, Some, None, ◌⊎◌, inl, inr, refl, sym, ap, ◌∙◌, subst, cond}
use Rattle.std.specs.Prelude.{ℤ, pos, negsuc, neg_ℤ, ◌==◌}
use Rattle.std.specs.List.{list_all}
use Rattle.std.specs.Ordering.{int_eq}
use Rattle.std.proofs.lemmas.Bool.{and_parts, and_from, cases_Bool, or_from, or_right, false≢true, false_from_ne_true}
use mathlib.Core.Path.{fun_ext}
use Rattle.solv_list.proofs.Booleans.{same_truth, false_of_not}
use Rattle.solv_list.proofs.Numbers.{successor_not_zero}
use Rattle.solv_pool.specs.Prelude.{literal_true, clause_true, is_fact, is_refuted, is_open, unit, clashes, names_package, are_over}
use Rattle.solv_derive.specs.Forced.{forced}
use Rattle.solv_derive.proofs.Facts.{known_here, known_later, known_cases, known_same, any_member, any_at, all_member, filter_member, filter_from, forces_from, forced_member, forced_others, open_parts, open_from, neg-neg}
use Rattle.solv_trail.specs.Inner.Derivation.{Within, IsConsistent, AllQuiet, Among, here, there}
use Rattle.solv_trail.specs.Asked.{set_of}
use Rattle.solv_trail.specs.declared.questions.Ask.{Ask}
use Rattle.solv_trail.proofs.Rounds.{grown, round, rounds, rounds_are}
use Rattle.solv_trail.proofs.Unit.{clear_from}
use Rattle.solv_core.specs.GoodTrails.{facts_of, Follows}
use Rattle.solv_core.specs.declared.verdicts.Event.{Event}
use Rattle.solv_core.specs.declared.verdicts.Event.TheVariants as event
use Rattle.solv_over.specs.Inner.Widened.{says_in, says_out, AreBeside, AreInside, AreWidened}
use Rattle.solv_over.specs.Inner.Trails.{of_inside, GuideAlike, TrailsWiden}
use Rattle.solv_over.proofs.Literals.{neg_out, known_front, known_back, known_parts}
use Rattle.solv_over.proofs.Widened.{outs, outs_are, filled_apart, filled_quiet, rest_quiet, quiet_clear, unit_within, over_at, over_by}
use Rattle.solv_over.proofs.Closed.{IsRest, rest_same}
use Rattle.solv_over.proofs.Without.{set_same, clauses_without}
use Rattle.solv_over.proofs.Stepwise.{join_nothing, joined, IsNew, GoodFrom, from_trail, trail_from}

-- propagation as literals that are forced one after another: from these facts, by these, to those
data Grows (F : List (List ℤ)) : List ℤ → List ℤ → List ℤ → Type 0 where
  stays : {A : List ℤ} → Grows F A [] A
  goes : {A xs B : List ℤ} (x : ℤ) (c : List ℤ) → Among c F → forced A c ≡ Some x → Grows F (x ∷ A) xs B → Grows F A (x ∷ xs) B

grows_on : (F : List (List ℤ)) {A xs B : List ℤ} → Grows F A xs B → {ys C : List ℤ} → Grows F B ys C → Grows F A (xs ++ ys) C
grows_on F stays h = h
grows_on F (goes x c a e rest) h = goes x c a e (grows_on F rest h)

round_grows : (F G : List (List ℤ)) → ((c : List ℤ) → Among c G → Among c F) → (A : List ℤ) → (xs : List ℤ) × Grows F A xs (round G A)
round_grows F [] sub A = ([], stays)
round_grows F (c ∷ G) sub A = by (forced A c) refl (λ B. round_grows F G (λ d a. sub d (there a)) B)
  where
    by : (o : Option ℤ) → forced A c ≡ o → ((B : List ℤ) → (xs : List ℤ) × Grows F B xs (round G B)) → (xs : List ℤ) × Grows F A xs (round G (grown (forced A c) A))
    by None e rest = let r = rest A in (r.0, subst (λ (o : Option ℤ). Grows F A r.0 (round G (grown o A))) (sym e) r.1)
    by (Some x) e rest = let r = rest (x ∷ A) in (x ∷ r.0, subst (λ (o : Option ℤ). Grows F A (x ∷ r.0) (round G (grown o A))) (sym e) (goes x c (sub c here) e r.1))

rounds_grow : (F : List (List ℤ)) (k : ℕ) (A : List ℤ) → (xs : List ℤ) × Grows F A xs (rounds k F A)
rounds_grow F zero A = ([], stays)
rounds_grow F (suc k) A = let r = rounds_grow F k A in let s = round_grows F F (λ c a. a) (rounds k F A) in (r.0 ++ s.0, grows_on F r.1 s.1)

unit_grows : (n : ℕ) (F : List (List ℤ)) (A : List ℤ) → (xs : List ℤ) × Grows F A xs (unit n F A)
unit_grows n F A = let r = rounds_grow F (n + 1) A in (r.0, subst (λ (B : List ℤ). Grows F A r.0 B) (sym (rounds_are (n + 1) F A)) r.1)

-- what is added is new, and is there at the end
grows_new : (F : List (List ℤ)) {A xs B : List ℤ} → Grows F A xs B → (l : ℤ) → is_fact xs l ≡ true → is_fact A l ≡ false
grows_new F stays l h = absurd (false≢true h)
grows_new F (goes {A} {xs} x c a e rest) l h = elim (known_cases x l xs h) [
  | inl s ↦ ap (is_fact A) s ∙ (open_parts A x (forced_member A c x (forces_from A c x e)).1).0
  | inr k ↦ false_from_ne_true (is_fact A l) (λ t. false≢true (sym (grows_new F rest l k) ∙ known_later x l A t))
]

grows_has : (F : List (List ℤ)) {A xs B : List ℤ} → Grows F A xs B → (l : ℤ) → is_fact B l ≡ true → (is_fact A l ≡ true) ⊎ (is_fact xs l ≡ true)
grows_has F stays l h = inl h
grows_has F (goes {A} {xs} x c a e rest) l h = elim (grows_has F rest l h) [
  | inl k ↦ elim (known_cases x l A k) [ inl s ↦ inr (known_same x l xs s) | inr m ↦ inl m ]
  | inr k ↦ inr (known_later x l xs k)
]

grows_keeps : (F : List (List ℤ)) {A xs B : List ℤ} → Grows F A xs B → (l : ℤ) → is_fact A l ≡ true → is_fact B l ≡ true
grows_keeps F stays l h = h
grows_keeps F (goes {A} x c a e rest) l h = grows_keeps F rest l (known_later x l A h)

grows_there : (F : List (List ℤ)) {A xs B : List ℤ} → Grows F A xs B → (l : ℤ) → is_fact xs l ≡ true → is_fact B l ≡ true
grows_there F stays l h = absurd (false≢true h)
grows_there F (goes {A} {xs} x c a e rest) l h = elim (known_cases x l xs h) [
  | inl s ↦ grows_keeps F rest l (known_same x l A s)
  | inr k ↦ grows_there F rest l k
]

-- a literal and its negation are not both true, but of the system
not_both_true : (set : ℕ → Bool) (n : ℕ) (l : ℤ) → names_package n l ≡ true → literal_true set l ≡ true → literal_true set (neg_ℤ l) ≡ true → ⊥
not_both_true set n (pos zero) over h k = false≢true over
not_both_true set n (pos (suc m)) over h k = by (set (suc m)) h k
  where
    by : (b : Bool) → b ≡ true → not b ≡ true → ⊥
    by true h k = false≢true k
    by false h k = false≢true h
not_both_true set n (negsuc m) over h k = by (set (suc m)) h k
  where
    by : (b : Bool) → not b ≡ true → b ≡ true → ⊥
    by true h k = false≢true h
    by false h k = false≢true k

-- each of the clauses is true where all are
clauses_at : (set : ℕ → Bool) {d : List ℤ} {G : List (List ℤ)} → Among d G → list_all (clause_true set) G ≡ true → clause_true set d ≡ true
clauses_at set {d} (here {F}) h = (and_parts (clause_true set d) (list_all (clause_true set) F) h).0
clauses_at set (there {d} {F} b) h = clauses_at set b (and_parts (clause_true set d) (list_all (clause_true set) F) h).1

clauses_by : (set : ℕ → Bool) (G : List (List ℤ)) → ((c : List ℤ) → Among c G → clause_true set c ≡ true) → list_all (clause_true set) G ≡ true
clauses_by set [] h = refl
clauses_by set (c ∷ G) h = and_from (clause_true set c) (list_all (clause_true set) G) (h c here) (clauses_by set G (λ d a. h d (there a)))

-- what a clause forces follows where what is known does
forced_follows : (n : ℕ) (F : List (List ℤ)) (T A c : List ℤ) (x : ℤ) → are_over n F ≡ true → ((l : ℤ) → is_fact A l ≡ true → Follows F T l) → Among c F → forced A c ≡ Some x → Follows F T x
forced_follows n F T A c x over follow a e set all taken =
    let t = any_member (literal_true set) c (clauses_at set a all) in
    elim (forced_others A c x (forces_from A c x e) t.0 t.1) [
      | inl s ↦ ap (literal_true set) (sym s) ∙ t.2
      | inr f ↦ absurd (not_both_true set n t.0 (all_member (names_package n) c (over_at n a over) t.0 t.1) t.2 (follow (neg_ℤ t.0) f set all taken))
    ]

all_front : (p : ℤ → Bool) (xs ys : List ℤ) → list_all p (xs ++ ys) ≡ true → list_all p xs ≡ true
all_front p [] ys h = refl
all_front p (x ∷ xs) ys h = let both = and_parts (p x) (list_all p (xs ++ ys)) h in and_from (p x) (list_all p xs) both.0 (all_front p xs ys both.1)

all_last : (p : ℤ → Bool) (xs : List ℤ) (y : ℤ) → list_all p (xs ++ y ∷ []) ≡ true → p y ≡ true
all_last p [] y h = (and_parts (p y) true h).0
all_last p (x ∷ xs) y h = all_last p xs y (and_parts (p x) (list_all p (xs ++ y ∷ [])) h).1

-- one more fact, at the end or in front
end_front : (A : List ℤ) (x : ℤ) → is_fact (A ++ x ∷ []) ≡ is_fact (x ∷ A)
end_front A x = fun_ext (λ l. same_truth (is_fact (A ++ x ∷ []) l) (is_fact (x ∷ A) l)
    (λ h. elim (known_parts A (x ∷ []) l h) [
      | inl k ↦ known_later x l A k
      | inr k ↦ elim (known_cases x l [] k) [ inl e ↦ known_same x l A e | inr z ↦ absurd (false≢true z) ]
    ])
    (λ h. elim (known_cases x l A h) [ inl e ↦ known_back A (x ∷ []) l (known_same x l [] e) | inr k ↦ known_front A (x ∷ []) l k ]))

consistent_push : (A : List ℤ) (x : ℤ) → IsConsistent A → is_open A x ≡ true → (neg_ℤ x ≡ x → ⊥) → IsConsistent (A ++ x ∷ [])
consistent_push A x apart open_ other =
    let o = open_parts A x open_ in
    record {
      apart = λ l h k. elim (known_parts A (x ∷ []) l h) [
        | inl a ↦ elim (known_parts A (x ∷ []) (neg_ℤ l) k) [
          | inl b ↦ apart.apart l a b
          | inr b ↦ elim (known_cases x (neg_ℤ l) [] b) [ inl e ↦ false≢true (sym o.1 ∙ ap (is_fact A) (ap neg_ℤ (sym e) ∙ neg-neg l) ∙ a) | inr z ↦ false≢true z ]
        ]
        | inr a ↦ elim (known_cases x l [] a) [
          | inl e ↦ elim (known_parts A (x ∷ []) (neg_ℤ l) k) [
            | inl b ↦ false≢true (sym o.1 ∙ ap (λ v. is_fact A (neg_ℤ v)) (sym e) ∙ b)
            | inr b ↦ elim (known_cases x (neg_ℤ l) [] b) [ inl f ↦ other (ap neg_ℤ (sym e) ∙ f) | inr z ↦ false≢true z ]
          ]
          | inr z ↦ false≢true z
        ]
      ];
    }

other_than : (n : ℕ) (x : ℤ) → names_package n x ≡ true → neg_ℤ x ≡ x → ⊥
other_than n (pos zero) over h = false≢true over
other_than n (pos (suc m)) over h = absurd (cc)
other_than n (negsuc m) over h = absurd (cc)

-- the events of literals
abbrev known_events : List ℤ → List Event
known_events xs = map (λ l. event.Known l) xs

module _ (n : ℕ) (left : ℕ → Bool) (C D : List (List ℤ)) (asks asks_all : (ℤ → Bool) → Option Ask) (beside : AreBeside left C D) (over : are_over n D ≡ true) (alike : GuideAlike left asks asks_all) where
  abbrev GoodMade : List ℤ → List ℤ → List Event → Type 0
  GoodMade = GoodFrom n C asks

  abbrev GoodAll : List ℤ → List ℤ → List Event → Type 0
  GoodAll = GoodFrom n D asks_all

  -- what is known over all clauses, beside what is known over those that are made
  record IsBeside (P Q T : List ℤ) : Type 0 where
    widened : AreWidened left P Q
    apart : IsConsistent Q
    follow : (l : ℤ) → is_fact Q l ≡ true → Follows D T l

  wider_follows : (T : List ℤ) (l : ℤ) → Follows C T l → Follows D T l
  wider_follows T l h set all taken = h set (clauses_by set C (λ c a. clauses_at set (beside.wider c a) all)) taken

  -- events by which it grows
  put_grown : (T : List ℤ) {A xs B : List ℤ} → Grows D A xs B → (Q : List ℤ) → is_fact Q ≡ is_fact A → ((l : ℤ) → is_fact A l ≡ true → Follows D T l) → (rest : List Event) → GoodAll (Q ++ xs) T rest → GoodAll Q T (known_events xs ++ rest)
  put_grown T (stays {A}) Q same follow rest good = subst (λ (v : List ℤ). GoodAll v T rest) (join_nothing Q) good
  put_grown T (goes {A} {xs} x c a e more) Q same follow rest good =
      let own : Follows D T x = forced_follows n D T A c x over follow a e in
      let is = forced_member A c x (forces_from A c x e) in
      let o = open_parts A x is.1 in
      let new : IsNew n Q x = record {
        over = all_member (names_package n) c (over_at n a over) x is.0;
        unknown = open_from Q x (ap (λ (g : ℤ → Bool). g x) same ∙ o.0) (ap (λ (g : ℤ → Bool). g (neg_ℤ x)) same ∙ o.1);
      } in
      let with_x : (ℤ → Bool) → ℤ → Bool = λ g l. int_eq l x || g l in
      let next : is_fact (Q ++ x ∷ []) ≡ is_fact (x ∷ A) = end_front Q x ∙ ap with_x same in
      let on : (l : ℤ) → is_fact (x ∷ A) l ≡ true → Follows D T l = λ l h. elim (known_cases x l A h) [ inl s ↦ subst (λ (v : ℤ). Follows D T v) (sym s) own | inr k ↦ follow l k ] in
      (new, (own, put_grown T more (Q ++ x ∷ []) next on rest (subst (λ (v : List ℤ). GoodAll v T rest) (sym (joined Q x xs)) good)))

  grown_follow : (T : List ℤ) {A xs B : List ℤ} → Grows D A xs B → ((l : ℤ) → is_fact A l ≡ true → Follows D T l) → (l : ℤ) → is_fact B l ≡ true → Follows D T l
  grown_follow T stays follow = follow
  grown_follow T (goes {A} x c a e more) follow =
      let own : Follows D T x = forced_follows n D T A c x over follow a e in
      grown_follow T more (λ l h. elim (known_cases x l A h) [ inl s ↦ subst (λ (v : ℤ). Follows D T v) (sym s) own | inr k ↦ follow l k ])

  -- all that follows by unit propagation is put in where those that are made are at rest
  record IsFilled (P Q T xs : List ℤ) : Type 0 where
    still : IsBeside P (Q ++ xs) T
    rest : IsRest D (Q ++ xs)
    outs_only : (l : ℤ) → is_fact xs l ≡ true → says_out left l ≡ true
    put : (events : List Event) → GoodAll (Q ++ xs) T events → GoodAll Q T (known_events xs ++ events)

  module _ (P Q T : List ℤ) (at : IsRest C P) (are : IsBeside P Q T) where
    abbrev extra : List ℤ
    extra = outs left C D beside ++ filter (says_out left) Q

    extra_out : (l : ℤ) → is_fact extra l ≡ true → says_out left l ≡ true
    extra_out l h = elim (known_parts (outs left C D beside) (filter (says_out left) Q) l h) [ inl k ↦ outs_are left C D beside l k | inr k ↦ (filter_from (says_out left) Q l k).1 ]

    abbrev whole : List ℤ
    whole = P ++ extra

    whole_apart : IsConsistent whole
    whole_apart = filled_apart left C D beside P extra are.widened.inside at.apart extra_out

    whole_quiet : AllQuiet whole D
    whole_quiet = filled_quiet left C D beside P extra are.widened.inside at.apart extra_out (known_front (outs left C D beside) (filter (says_out left) Q)) at.quiet

    begun : Within Q whole
    begun = record {
      sub = λ l h. elim (are.widened.adds l h) [
        | inl k ↦ known_front P extra l k
        | inr o ↦ known_back P extra l (known_back (outs left C D beside) (filter (says_out left) Q) l (filter_member (says_out left) Q l h o))
      ];
    }

    abbrev reached : List ℤ
    reached = unit n D Q

    free : clashes D reached ≡ false
    free = quiet_clear n D Q whole begun whole_apart whole_quiet

    within_whole : Within reached whole
    within_whole = unit_within n D Q whole begun whole_apart whole_quiet

    filled_in : (xs : List ℤ) × IsFilled P Q T xs
    filled_in =
        let g = unit_grows n D Q in
        let xs : List ℤ = g.0 in
        let same : is_fact (Q ++ xs) ≡ is_fact reached = fun_ext (λ l. same_truth (is_fact (Q ++ xs) l) (is_fact reached l)
        (λ h. elim (known_parts Q xs l h) [ inl k ↦ grows_keeps D g.1 l k | inr k ↦ grows_there D g.1 l k ])
        (λ h. elim (grows_has D g.1 l h) [ inl k ↦ known_front Q xs l k | inr k ↦ known_back Q xs l k ])) in
        let to_reached : (l : ℤ) → is_fact (Q ++ xs) l ≡ true → is_fact reached l ≡ true = λ l h. ap (λ (f : ℤ → Bool). f l) (sym same) ∙ h in
        let rest : IsRest D (Q ++ xs) = rest_same reached (Q ++ xs) D (sym same) (record { quiet = rest_quiet n D Q over free; apart = (clear_from D reached free).apart }) in
        let still : IsBeside P (Q ++ xs) T = record {
          widened = record {
            keeps = λ l h. known_front Q xs l (are.widened.keeps l h);
            adds = λ l h. elim (known_parts P extra l (within_whole.sub l (to_reached l h))) [ inl k ↦ inl k | inr k ↦ inr (extra_out l k) ];
            inside = are.widened.inside;
          };
          apart = rest.apart;
          follow = λ l h. grown_follow T g.1 are.follow l (to_reached l h);
        } in (
          xs,
          record {
            still = still;
            rest = rest;
            outs_only = λ l h. elim (still.widened.adds l (known_back Q xs l h)) [
              | inl k ↦ absurd (false≢true (sym (grows_new D g.1 l h) ∙ are.widened.keeps l k))
              | inr o ↦ o
            ];
            put = λ events good. put_grown T g.1 Q refl are.follow events good;
          },
        )

  -- events that say of what is left out that it is out do not count
  filled_same : (xs : List ℤ) → ((l : ℤ) → is_fact xs l ≡ true → says_out left l ≡ true) → (events : List Event) → of_inside left (known_events xs ++ events) ≡ of_inside left events
  filled_same [] h events = refl
  filled_same (x ∷ xs) h events =
      ap (λ b. cond (not b) (event.Known x ∷ of_inside left (known_events xs ++ events)) (of_inside left (known_events xs ++ events))) (h x (known_here x xs))
      ∙ filled_same xs (λ l k. h l (known_later x l xs k)) events

  record IsWhole (Q T : List ℤ) (events more : List Event) : Type 0 where
    good : GoodAll Q T more
    same : of_inside left more ≡ of_inside left events
    keeps : (l : ℤ) → is_fact (facts_of events) l ≡ true → is_fact (Q ++ facts_of more) l ≡ true

  facts_joined : (xs : List ℤ) (events : List Event) → facts_of (known_events xs ++ events) ≡ xs ++ facts_of events
  facts_joined [] events = refl
  facts_joined (x ∷ xs) events = ap (λ zs. x ∷ zs) (facts_joined xs events)

  nothing_inside : (P : List ℤ) (x : ℤ) → AreInside left P → says_in left x ≡ false → AreInside left (P ++ x ∷ [])
  nothing_inside P x h k = record { none = λ l m. elim (known_parts P (x ∷ []) l m) [ inl a ↦ h.none l a | inr b ↦ elim (known_cases x l [] b) [ inl e ↦ ap (says_in left) e ∙ k | inr z ↦ absurd (false≢true z) ] ] }

  -- one literal more on both sides
  both_more : (P Q T U : List ℤ) (x : ℤ) → IsBeside P Q T → names_package n x ≡ true → is_open Q x ≡ true → says_in left x ≡ false
      → ((l : ℤ) → Follows D T l → Follows D U l) → Follows D U x → IsBeside (P ++ x ∷ []) (Q ++ x ∷ []) U
  both_more P Q T U x are over_ open_ inside more own = record {
    widened = record {
      keeps = λ l h. elim (known_parts P (x ∷ []) l h) [ inl k ↦ known_front Q (x ∷ []) l (are.widened.keeps l k) | inr k ↦ known_back Q (x ∷ []) l k ];
      adds = λ l h. elim (known_parts Q (x ∷ []) l h) [
        | inl k ↦ elim (are.widened.adds l k) [ inl m ↦ inl (known_front P (x ∷ []) l m) | inr o ↦ inr o ]
        | inr k ↦ inl (known_back P (x ∷ []) l k)
      ];
      inside = nothing_inside P x are.widened.inside inside;
    };
    apart = consistent_push Q x are.apart open_ (other_than n x over_);
    follow = λ l h. elim (known_parts Q (x ∷ []) l h) [
      | inl k ↦ more l (are.follow l k)
      | inr k ↦ elim (known_cases x l [] k) [ inl e ↦ subst (λ (v : ℤ). Follows D U v) (sym e) own | inr z ↦ absurd (false≢true z) ]
    ];
  }

  -- what is open over those that are made, and not known over all, is open over all
  still_open : (P Q T : List ℤ) (x : ℤ) → IsBeside P Q T → is_open P x ≡ true → says_in left x ≡ false → is_fact Q x ≡ false → is_open Q x ≡ true
  still_open P Q T x are open_ inside unknown =
      open_from Q x unknown (false_from_ne_true (is_refuted Q x) (λ t. elim (are.widened.adds (neg_ℤ x) t) [
        | inl k ↦ false≢true (sym (open_parts P x open_).1 ∙ k)
        | inr o ↦ false≢true (sym inside ∙ neg_out left x o)
      ]))

  more_taken : (T : List ℤ) (p : ℕ) (l : ℤ) → Follows D T l → Follows D (T ++ pos p ∷ []) l
  more_taken T p l h set all taken = h set all (all_front (literal_true set) T (pos p ∷ []) taken)

  taken_follows : (T : List ℤ) (p : ℕ) → Follows D (T ++ pos p ∷ []) (pos p)
  taken_follows T p set all taken = all_last (literal_true set) T (pos p) taken

  made_whole : (P Q T : List ℤ) (events : List Event) → ((l : ℤ) → is_fact (facts_of events) l ≡ true → says_in left l ≡ false) → GoodMade P T events → IsBeside P Q T → (more : List Event) × IsWhole Q T events more
  made_whole P Q T [] inside good are =
      let f = filled_in P Q T good.0 are in
      let xs : List ℤ = f.0 in
      let ended : asks_all (is_fact (Q ++ xs)) ≡ None = alike.same P (Q ++ xs) f.1.still.widened ∙ good.1 in
      (known_events xs ++ [], record { good = f.1.put [] (f.1.rest, ended); same = filled_same xs f.1.outs_only []; keeps = λ l h. absurd (false≢true h) })
  made_whole P Q T (event.Known x ∷ events) inside good are =
      let rest = λ (R : List ℤ) (b : IsBeside (P ++ x ∷ []) R T). made_whole (P ++ x ∷ []) R T events (λ l h. inside l (known_later x l (facts_of events) h)) good.1.1 b in
      let not_inside : says_in left x ≡ false = inside x (known_here x (facts_of events)) in
      elim (cases_Bool (is_fact Q x)) [
        | inl known ↦
            let out : says_out left x ≡ true = elim (are.widened.adds x known) [ inl k ↦ absurd (false≢true (sym (open_parts P x good.0.unknown).0 ∙ k)) | inr o ↦ o ] in
            let b : IsBeside (P ++ x ∷ []) Q T = record {
              widened = record {
                keeps = λ l h. elim (known_parts P (x ∷ []) l h) [ inl k ↦ are.widened.keeps l k | inr k ↦ elim (known_cases x l [] k) [ inl e ↦ ap (is_fact Q) e ∙ known | inr z ↦ absurd (false≢true z) ] ];
                adds = λ l h. elim (are.widened.adds l h) [ inl k ↦ inl (known_front P (x ∷ []) l k) | inr o ↦ inr o ];
                inside = nothing_inside P x are.widened.inside not_inside;
              };
              apart = are.apart;
              follow = are.follow;
            } in
            let w = rest Q b in
            (w.0, record { good = w.1.good; same = w.1.same ∙ sym (ap (λ b. cond (not b) (event.Known x ∷ of_inside left events) (of_inside left events)) out); keeps = λ l h. elim (known_cases x l (facts_of events) h) [ inl e ↦ known_front Q (facts_of w.0) l (ap (is_fact Q) e ∙ known) | inr k ↦ w.1.keeps l k ] })
        | inr unknown ↦
            let open_ : is_open Q x ≡ true = still_open P Q T x are good.0.unknown not_inside unknown in
            let own : Follows D T x = wider_follows T x good.1.0 in
            let w = rest (Q ++ x ∷ []) (both_more P Q T T x are good.0.over open_ not_inside (λ l h. h) own) in
            let new : IsNew n Q x = record { over = good.0.over; unknown = open_ } in
            (event.Known x ∷ w.0, record { good = (new, (own, w.1.good)); same = ap (λ zs. cond (not (says_out left x)) (event.Known x ∷ zs) zs) w.1.same; keeps = λ l h. elim (known_cases x l (facts_of events) h) [ inl e ↦ known_back Q (x ∷ facts_of w.0) l (known_same x l (facts_of w.0) e) | inr k ↦ ap (λ v. is_fact v l) (sym (joined Q x (facts_of w.0))) ∙ w.1.keeps l k ] })
      ]
  made_whole P Q T (event.Took q p ∷ events) inside good are =
      let f = filled_in P Q T good.1.0.0 are in
      let R : List ℤ = Q ++ f.0 in
      let not_inside : says_in left (pos p) ≡ false = inside (pos p) (known_here (pos p) (facts_of events)) in
      let unknown : is_fact R (pos p) ≡ false = false_from_ne_true (is_fact R (pos p)) (λ t. elim (f.1.still.widened.adds (pos p) t) [
        | inl k ↦ false≢true (sym (open_parts P (pos p) good.0.unknown).0 ∙ k)
        | inr o ↦ false≢true o
      ]) in
      let open_ : is_open R (pos p) ≡ true = still_open P R T (pos p) f.1.still good.0.unknown not_inside unknown in
      let b = both_more P R T (T ++ pos p ∷ []) (pos p) f.1.still good.0.over open_ not_inside (more_taken T p) (taken_follows T p) in
      let w = made_whole (P ++ pos p ∷ []) (R ++ pos p ∷ []) (T ++ pos p ∷ []) events (λ l h. inside l (known_later (pos p) l (facts_of events) h)) good.1.1 b in
      let new : IsNew n R (pos p) = record { over = good.0.over; unknown = open_ } in
      let asked : asks_all (is_fact R) ≡ Some (record { pack = p; question = q }) = alike.same P R f.1.still.widened ∙ good.1.0.1 in (
        known_events f.0 ++ (event.Took q p ∷ w.0),
        record {
          good = f.1.put (event.Took q p ∷ w.0) (new, ((f.1.rest, asked), w.1.good));
          same = filled_same f.0 f.1.outs_only (event.Took q p ∷ w.0) ∙ ap (λ zs. event.Took q p ∷ zs) w.1.same;
          keeps = λ l h.
              let whole_is : Q ++ facts_of (known_events f.0 ++ (event.Took q p ∷ w.0)) ≡ Q ++ (f.0 ++ (pos p ∷ facts_of w.0)) = ap (λ zs. Q ++ zs) (facts_joined f.0 (event.Took q p ∷ w.0)) in
              ap (λ v. is_fact v l) whole_is ∙ elim (known_cases (pos p) l (facts_of events) h) [
                | inl e ↦ known_back Q (f.0 ++ (pos p ∷ facts_of w.0)) l (known_back f.0 (pos p ∷ facts_of w.0) l (known_same (pos p) l (facts_of w.0) e))
                | inr k ↦ elim (known_parts R (pos p ∷ facts_of w.0) l (ap (λ v. is_fact v l) (sym (joined R (pos p) (facts_of w.0))) ∙ w.1.keeps l k)) [
                  | inl a ↦ elim (known_parts Q f.0 l a) [ inl b ↦ known_front Q (f.0 ++ (pos p ∷ facts_of w.0)) l b | inr b ↦ known_back Q (f.0 ++ (pos p ∷ facts_of w.0)) l (known_front f.0 (pos p ∷ facts_of w.0) l b) ]
                  | inr a ↦ known_back Q (f.0 ++ (pos p ∷ facts_of w.0)) l (known_back f.0 (pos p ∷ facts_of w.0) l a)
                ]
              ];
        },
      )

  all_meet : (system : left 0 ≡ false) (events : List Event) → AreInside left (facts_of events) → list_all (clause_true (set_of (is_fact (facts_of events)))) C ≡ true → list_all (clause_true (set_of (is_fact (facts_of events)))) D ≡ true
  all_meet system events inside h = clauses_by (set_of (is_fact (facts_of events))) D (λ c a. elim (beside.each c a) [
    | inl o ↦ let m = any_member (says_out left) c o in any_at (literal_true (set_of (is_fact (facts_of events)))) c m.0 m.1 (out_true m.0 m.2)
    | inr k ↦ clauses_at (set_of (is_fact (facts_of events))) k.0 h
  ])
    where
      out_true : (l : ℤ) → says_out left l ≡ true → literal_true (set_of (is_fact (facts_of events))) l ≡ true
      out_true (pos p) h = absurd (false≢true h)
      out_true (negsuc k) h = ap not (or_from (suc k == 0) (is_fact (facts_of events) (pos (suc k))) (successor_not_zero k) (false_from_ne_true (is_fact (facts_of events) (pos (suc k))) (λ t. false≢true (sym (inside.none (pos (suc k)) t) ∙ h))))

-- a good trail over the clauses that are made holds nothing in that is left out: its set without that still makes them true
module _ (n : ℕ) (left : ℕ → Bool) (C D : List (List ℤ)) (asks asks_all : (ℤ → Bool) → Option Ask) (beside : AreBeside left C D) (alike : GuideAlike left asks asks_all) (system : left 0 ≡ false) (events : List Event) where
  abbrev taken_set : ℕ → Bool
  taken_set = set_of (is_fact (facts_of events))

  abbrev rest_set : ℕ → Bool
  rest_set p = taken_set p && not (left p)

  true_inside : (l : ℤ) → literal_true rest_set l ≡ true → says_in left l ≡ false
  true_inside (pos p) h = false_of_not (left p) (and_parts (taken_set p) (not (left p)) h).1
  true_inside (negsuc k) h = refl

  events_inside : list_all (clause_true rest_set) C ≡ true → (P T : List ℤ) (es : List Event) → AreInside left P → list_all (literal_true rest_set) T ≡ true
      → ((l : ℤ) → is_fact (facts_of es) l ≡ true → is_fact (facts_of events) l ≡ true) → GoodFrom n C asks P T es → (l : ℤ) → is_fact (facts_of es) l ≡ true → says_in left l ≡ false
  events_inside meets P T [] inside taken sub good l h = absurd (false≢true h)
  events_inside meets P T (event.Known x ∷ es) inside taken sub good l h =
      let own : says_in left x ≡ false = true_inside x (good.1.0 rest_set meets taken) in
      let next : AreInside left (P ++ x ∷ []) = record { none = λ m k. elim (known_parts P (x ∷ []) m k) [ inl a ↦ inside.none m a | inr b ↦ elim (known_cases x m [] b) [ inl e ↦ ap (says_in left) e ∙ own | inr z ↦ absurd (false≢true z) ] ] } in
      elim (known_cases x l (facts_of es) h) [
        | inl e ↦ ap (says_in left) e ∙ own
        | inr k ↦ events_inside meets (P ++ x ∷ []) T es next taken (λ m j. sub m (known_later x m (facts_of es) j)) good.1.1 l k
      ]
  events_inside meets P T (event.Took q p ∷ es) inside taken sub good l h =
      let own : left p ≡ false = alike.inside P inside (record { pack = p; question = q }) good.1.0.1 in
      let next : AreInside left (P ++ pos p ∷ []) = record { none = λ m k. elim (known_parts P (pos p ∷ []) m k) [ inl a ↦ inside.none m a | inr b ↦ elim (known_cases (pos p) m [] b) [ inl e ↦ ap (says_in left) e ∙ own | inr z ↦ absurd (false≢true z) ] ] } in
      let there_ : rest_set p ≡ true = and_from (taken_set p) (not (left p)) (or_right (p == 0) (is_fact (facts_of events) (pos p)) (sub (pos p) (known_here (pos p) (facts_of es)))) (ap not own) in
      elim (known_cases (pos p) l (facts_of es) h) [
        | inl e ↦ ap (says_in left) e ∙ own
        | inr k ↦ events_inside meets (P ++ pos p ∷ []) (T ++ pos p ∷ []) es next (all_push (literal_true rest_set) T (pos p) taken there_) (λ m j. sub m (known_later (pos p) m (facts_of es) j)) good.1.1 l k
      ]
    where
      all_push : (f : ℤ → Bool) (xs : List ℤ) (y : ℤ) → list_all f xs ≡ true → f y ≡ true → list_all f (xs ++ y ∷ []) ≡ true
      all_push f [] y h k = and_from (f y) true k refl
      all_push f (x ∷ xs) y h k = let both = and_parts (f x) (list_all f xs) h in and_from (f x) (list_all f (xs ++ y ∷ [])) both.0 (all_push f xs y both.1 k)

pub trails_widen : TrailsWiden
trails_widen n left C D asks asks_all beside over alike system events good =
    let begun : GoodFrom n C asks [] [] events = from_trail n C asks (over_by n C (λ c a. over_at n (beside.wider c a) over)) events good in
    let inside : AreInside left (facts_of events) = record { none = events_inside n left C D asks asks_all beside alike system events (clauses_without left (set_of (is_fact (facts_of events))) C D beside good.meets) [] [] events (record { none = λ l h. absurd (false≢true h) }) refl (λ l h. h) begun } in
    let empty : IsBeside n left C D asks asks_all beside over alike [] [] [] = record {
      widened = record { keeps = λ l h. h; adds = λ l h. inl h; inside = record { none = λ l h. absurd (false≢true h) } };
      apart = record { apart = λ l h k. false≢true h };
      follow = λ l h. absurd (false≢true h);
    } in
    let w = made_whole n left C D asks asks_all beside over alike [] [] [] events inside.none begun empty in
    let meets = subst (λ (s : ℕ → Bool). list_all (clause_true s) D ≡ true) (sym (set_same left events w.0 w.1.same)) (all_meet n left C D asks asks_all beside over alike system events inside good.meets) in
    (inside, (w.0, (trail_from n D asks_all w.0 w.1.good meets, record { same = w.1.same; keeps = w.1.keeps })))
