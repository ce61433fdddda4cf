-- Unit propagation with clauses beside others, each of which says of a package that is left out that it is out.
use Rattle.std.proofs.Common.{◌≡◌, ℕ, zero, suc, ◌+◌, Bool, true, false, not, ◌&&◌, List, [], ◌∷◌, ◌++◌, Option, Some, None, inl, inr, refl, sym, ap, ◌∙◌, subst, filter}
use Rattle.std.specs.Prelude.{ℤ, neg_ℤ, is_none}
use Rattle.std.specs.List.{list_any, list_all}
use Rattle.std.proofs.lemmas.Bool.{and_parts, and_from, or_from, false≢true, false_from_ne_true}
use Rattle.solv_list.proofs.Booleans.{same_truth, true_or_false}
use Rattle.solv_pool.specs.Prelude.{is_fact, is_refuted, is_open, unit, clashes, is_over, are_over}
use Rattle.solv_derive.specs.Forced.{is_falsified, forced}
use Rattle.solv_derive.specs.Inner.Forced.{is_satisfied}
use Rattle.solv_derive.proofs.Facts.{known_cases, any_member, any_at, all_member, none_from, filter_same, filter_member, filter_from, any_same, all_same, forces_from, forced_member, forced_others}
use Rattle.solv_trail.specs.Inner.Derivation.{Within, IsConsistent, IsQuiet, AllQuiet, none, more, Among, here, there}
use Rattle.solv_trail.proofs.Rounds.{grown, settled, round, rounds, rounds_are}
use Rattle.solv_trail.proofs.Unit.{within_false, false_within, within_rounds, clear_from}
use Rattle.solv_over.specs.Inner.Widened.{says_in, says_out, says_neither, AreBeside, AreInside, IsWidened, PropagationWidens}
use Rattle.solv_over.proofs.Literals.{not_in, out_neg, neg_out, not_both_out, neither_in, neither_out, neither_neg, gathered, gathered_has, known_front, known_back, known_parts}
use Rattle.solv_over.proofs.Resting.{is_idle, unit_rests, unit_keeps}

-- quiet clauses, one by one
pub quiet_by : (K : List ℤ) (F : List (List ℤ)) → ((c : List ℤ) → Among c F → IsQuiet K c) → AllQuiet K F
quiet_by K [] h = none
quiet_by K (c ∷ F) h = more (h c here) (quiet_by K F (λ d a. h d (there a)))

pub quiet_at : {K c : List ℤ} {F : List (List ℤ)} → Among c F → AllQuiet K F → IsQuiet K c
quiet_at here (more q rest) = q
quiet_at (there a) (more q rest) = quiet_at a rest

none_of : (o : Option ℤ) → is_none o ≡ true → o ≡ None
none_of None h = refl
none_of (Some x) h = absurd (false≢true h)

idle_at : (K : List ℤ) {c : List ℤ} {F : List (List ℤ)} → Among c F → is_idle K F ≡ true → forced K c ≡ None
idle_at K {c} (here {F}) h = none_of (forced K c) (and_parts (is_none (forced K c)) (is_idle K F) h).0
idle_at K {c} (there {d} {F} a) h = idle_at K a (and_parts (is_none (forced K d)) (is_idle K F) h).1

-- what is at rest without a clash is quiet
pub rest_quiet : (n : ℕ) (F : List (List ℤ)) (A : List ℤ) → are_over n F ≡ true → clashes F (unit n F A) ≡ false → AllQuiet (unit n F A) F
rest_quiet n F A over free =
    let clear = clear_from F (unit n F A) free in
    quiet_by (unit n F A) F (λ c a. record {
      forces_none = idle_at (unit n F A) a (unit_rests n F A over);
      not_false = false_from_ne_true (is_falsified (unit n F A) c) (clear.none_false c a);
    })

pub over_at : (n : ℕ) {c : List ℤ} {F : List (List ℤ)} → Among c F → are_over n F ≡ true → is_over n c ≡ true
over_at n {c} (here {F}) h = (and_parts (is_over n c) (are_over n F) h).0
over_at n (there {d} {F} a) h = over_at n a (and_parts (is_over n d) (are_over n F) h).1

pub over_by : (n : ℕ) (F : List (List ℤ)) → ((c : List ℤ) → Among c F → is_over n c ≡ true) → are_over n F ≡ true
over_by n [] h = refl
over_by n (c ∷ F) h = and_from (is_over n c) (are_over n F) (h c here) (over_by n F (λ d a. h d (there a)))

-- propagation from a part of what is consistent and quiet meets no clash
pub quiet_clear : (n : ℕ) (F : List (List ℤ)) (A K : List ℤ) → Within A K → IsConsistent K → AllQuiet K F → clashes F (unit n F A) ≡ false
quiet_clear n F A K w apart quiet =
    let v : Within (unit n F A) K = let R : List ℤ → Type 0 = λ B. Within B K in subst R (sym (rounds_are (n + 1) F A)) (within_rounds (n + 1) A K F w apart quiet) in
    or_from (list_any (is_falsified (unit n F A)) F) (list_any (is_refuted (unit n F A)) (unit n F A))
    (none_false v F (λ c a. a))
    (none_from (is_refuted (unit n F A)) (unit n F A) (λ l m. false_from_ne_true (is_refuted (unit n F A) l) (λ f. apart.apart l (v.sub l m) (within_false (unit n F A) K v l f))))
  where
    none_false : Within (unit n F A) K → (G : List (List ℤ)) → ((c : List ℤ) → Among c G → Among c F) → list_any (is_falsified (unit n F A)) G ≡ false
    none_false v [] sub = refl
    none_false v (c ∷ G) sub =
        or_from (is_falsified (unit n F A) c) (list_any (is_falsified (unit n F A)) G)
        (false_from_ne_true (is_falsified (unit n F A) c) (λ f. false≢true (sym (quiet_at (sub c here) quiet).not_false ∙ false_within (unit n F A) K c v f)))
        (none_false v G (λ d a. sub d (there a)))

pub unit_within : (n : ℕ) (F : List (List ℤ)) (A K : List ℤ) → Within A K → IsConsistent K → AllQuiet K F → Within (unit n F A) K
unit_within n F A K w apart quiet = let R : List ℤ → Type 0 = λ B. Within B K in subst R (sym (rounds_are (n + 1) F A)) (within_rounds (n + 1) A K F w apart quiet)

module _ (left : ℕ → Bool) (C D : List (List ℤ)) (beside : AreBeside left C D) where
  -- what a clause forces says of nothing that is left out that it is in
  forced_inside : (K c : List ℤ) (x : ℤ) → AreInside left K → Among c D → forced K c ≡ Some x → says_in left x ≡ false
  forced_inside K c x inside a h = elim (beside.each c a) [
    | inl o ↦
        let m = any_member (says_out left) c o in
        elim (forced_others K c x (forces_from K c x h) m.0 m.1) [
          | inl e ↦ not_in left x (ap (says_out left) (sym e) ∙ m.2)
          | inr f ↦ absurd (false≢true (sym (inside.none (neg_ℤ m.0) f) ∙ out_neg left m.0 m.2))
        ]
    | inr k ↦ neither_in left x (all_member (says_neither left) c k.1 x (forced_member K c x (forces_from K c x h)).0)
  ]

  settled_inside : (A c : List ℤ) → Among c D → AreInside left A → AreInside left (settled A c)
  settled_inside A c a inside = by (forced A c) refl
    where
      by : (o : Option ℤ) → forced A c ≡ o → AreInside left (grown o A)
      by None e = inside
      by (Some x) e = record { none = λ l h. elim (known_cases x l A h) [ inl s ↦ ap (says_in left) s ∙ forced_inside A c x inside a e | inr k ↦ inside.none l k ] }

  round_inside : (F : List (List ℤ)) → ((c : List ℤ) → Among c F → Among c D) → (A : List ℤ) → AreInside left A → AreInside left (round F A)
  round_inside [] sub A h = h
  round_inside (c ∷ F) sub A h = round_inside F (λ d a. sub d (there a)) (settled A c) (settled_inside A c (sub c here) h)

  rounds_inside : (k : ℕ) (F : List (List ℤ)) → ((c : List ℤ) → Among c F → Among c D) → (A : List ℤ) → AreInside left A → AreInside left (rounds k F A)
  rounds_inside zero F sub A h = h
  rounds_inside (suc k) F sub A h = round_inside F sub (rounds k F A) (rounds_inside k F sub A h)

  pub unit_inside : (n : ℕ) (F : List (List ℤ)) → ((c : List ℤ) → Among c F → Among c D) → (A : List ℤ) → AreInside left A → AreInside left (unit n F A)
  unit_inside n F sub A h = let R : List ℤ → Type 0 = λ B. AreInside left B in subst R (sym (rounds_are (n + 1) F A)) (rounds_inside (n + 1) F sub A h)

  -- with all that the clauses say to be out which is left out
  abbrev pub outs : List ℤ
  outs = filter (says_out left) (gathered D)

  pub outs_are : (l : ℤ) → is_fact outs l ≡ true → says_out left l ≡ true
  outs_are l h = (filter_from (says_out left) (gathered D) l h).1

  -- whatever says of what is left out that it is out may be added, and all that the clauses say so with it
  module _ (U X : List ℤ) (inside : AreInside left U) (apart : IsConsistent U) (are : (l : ℤ) → is_fact X l ≡ true → says_out left l ≡ true) where
    abbrev pub filled : List ℤ
    filled = U ++ X

    pub filled_apart : IsConsistent filled
    filled_apart = record {
      apart = λ l h k. elim (known_parts U X l h) [
        | inl a ↦ elim (known_parts U X (neg_ℤ l) k) [
          | inl b ↦ apart.apart l a b
          | inr b ↦ false≢true (sym (inside.none l a) ∙ neg_out left l (are (neg_ℤ l) b))
        ]
        | inr a ↦ elim (known_parts U X (neg_ℤ l) k) [
          | inl b ↦ false≢true (sym (inside.none (neg_ℤ l) b) ∙ out_neg left l (are l a))
          | inr b ↦ not_both_out left l (are l a) (are (neg_ℤ l) b)
        ]
      ];
    }

    -- of what says nothing of what is left out nothing more is known
    same_known : (m : ℤ) → (says_out left m ≡ true → ⊥) → is_fact filled m ≡ is_fact U m
    same_known m h = same_truth (is_fact filled m) (is_fact U m)
        (λ k. elim (known_parts U X m k) [ inl a ↦ a | inr b ↦ absurd (h (are m b)) ])
        (known_front U X m)

    neither_known : (m : ℤ) → says_neither left m ≡ true → is_fact filled m ≡ is_fact U m
    neither_known m h = same_known m (λ k. false≢true (sym (neither_out left m h) ∙ k))

    neither_refuted : (m : ℤ) → says_neither left m ≡ true → is_refuted filled m ≡ is_refuted U m
    neither_refuted m h = same_known (neg_ℤ m) (neither_neg left m h)

    neither_open : (m : ℤ) → says_neither left m ≡ true → is_open filled m ≡ is_open U m
    neither_open m h = ap (λ b. not b && not (is_refuted filled m)) (neither_known m h) ∙ ap (λ b. not (is_fact U m) && not b) (neither_refuted m h)

    same_forced : (c : List ℤ) → list_all (says_neither left) c ≡ true → forced filled c ≡ forced U c
    same_forced c h =
        let sat : is_satisfied filled c ≡ is_satisfied U c = any_same (is_fact filled) (is_fact U) c (λ m k. neither_known m (all_member (says_neither left) c h m k)) in
        let opens : filter (is_open filled) c ≡ filter (is_open U) c = filter_same (is_open filled) (is_open U) c (λ m k. neither_open m (all_member (says_neither left) c h m k)) in
        rw (sat, opens) refl

    same_falsified : (c : List ℤ) → list_all (says_neither left) c ≡ true → is_falsified filled c ≡ is_falsified U c
    same_falsified c h = all_same (is_refuted filled) (is_refuted U) c (λ m k. neither_refuted m (all_member (says_neither left) c h m k))

    -- so all clauses are quiet where those that are made are
    pub filled_quiet : ((l : ℤ) → is_fact outs l ≡ true → is_fact X l ≡ true) → AllQuiet U C → AllQuiet filled D
    filled_quiet has quiet = quiet_by filled D (λ c a. elim (beside.each c a) [
      | inl o ↦
          let m = any_member (says_out left) c o in
          let there_ : is_fact filled m.0 ≡ true = known_back U X m.0 (has m.0 (filter_member (says_out left) (gathered D) m.0 (gathered_has a m.0 m.1) m.2)) in
          let sat : is_satisfied filled c ≡ true = any_at (is_fact filled) c m.0 m.1 there_ in
          record {
            forces_none = rw sat refl;
            not_false = false_from_ne_true (is_falsified filled c) (λ f. filled_apart.apart m.0 there_ (all_member (is_refuted filled) c f m.0 m.1));
          }
      | inr k ↦
          let q = quiet_at k.0 quiet in
          record {
            forces_none = same_forced c k.1 ∙ q.forces_none;
            not_false = same_falsified c k.1 ∙ q.not_false;
          }
    ])

  module _ (n : ℕ) (over : are_over n D ≡ true) (A : List ℤ) (given : AreInside left A) where
    abbrev some : List ℤ
    some = unit n C A

    abbrev all : List ℤ
    all = unit n D A

    over_made : are_over n C ≡ true
    over_made = over_by n C (λ c a. over_at n (beside.wider c a) over)

    some_inside : AreInside left some
    some_inside = unit_inside n C beside.wider A given

    starts : (U : List ℤ) → Within A U → Within A (U ++ outs)
    starts U w = record { sub = λ l h. known_front U outs l (w.sub l h) }

    all_clear : clashes C some ≡ false → clashes D all ≡ false
    all_clear free =
        let apart = (clear_from C some free).apart in
        quiet_clear n D A (some ++ outs) (starts some (unit_keeps n C A)) (filled_apart some outs some_inside apart outs_are) (filled_quiet some outs some_inside apart outs_are (λ l h. h) (rest_quiet n C A over_made free))

    all_within : clashes C some ≡ false → Within all (some ++ outs)
    all_within free =
        let apart = (clear_from C some free).apart in
        unit_within n D A (some ++ outs) (starts some (unit_keeps n C A)) (filled_apart some outs some_inside apart outs_are) (filled_quiet some outs some_inside apart outs_are (λ l h. h) (rest_quiet n C A over_made free))

    made_quiet : clashes D all ≡ false → AllQuiet all C
    made_quiet free = let quiet = rest_quiet n D A over free in quiet_by all C (λ c a. quiet_at (beside.wider c a) quiet)

    some_clear : clashes D all ≡ false → clashes C some ≡ false
    some_clear free = quiet_clear n C A all (unit_keeps n D A) (clear_from D all free).apart (made_quiet free)

    clash_same : clashes D all ≡ clashes C some
    clash_same = elim (true_or_false (clashes C some)) [
      | inl t ↦ elim (true_or_false (clashes D all)) [ inl s ↦ s ∙ sym t | inr f ↦ absurd (false≢true (sym (some_clear f) ∙ t)) ]
      | inr f ↦ all_clear f ∙ sym f
    ]

    pub widened : IsWidened n left C D A
    widened = record {
      clash = clash_same;
      known = λ free. record {
        keeps = (unit_within n C A all (unit_keeps n D A) (clear_from D all (all_clear free)).apart (made_quiet (all_clear free))).sub;
        adds = λ l h. elim (known_parts some outs l ((all_within free).sub l h)) [ inl k ↦ inl k | inr o ↦ inr (outs_are l o) ];
        inside = some_inside;
      };
    }

pub propagation_widens : PropagationWidens
propagation_widens n left C D beside over A given = widened left C D beside n over A given
