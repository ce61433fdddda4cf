-- What the core does to its trail keeps it one.
use Rattle.std.proofs.Common.{◌≡◌, ℕ, zero, suc, ◌+◌, ◌<◌, Bool, true, false, List, [], ◌∷◌, ◌++◌, length, take, get_or, Option, Some, ◌⊎◌, inl, inr, refl, sym, ap, ◌∙◌, subst, arith}
use Rattle.std.specs.Prelude.{ℤ, pos, negsuc, neg_ℤ, nat_abs}
use Rattle.std.specs.Ordering.{int_eq}
use Rattle.std.proofs.lemmas.Bool.{or_cases, cases_lt, cases_order, false≢true}
use Rattle.std.proofs.lemmas.List.{get_or_append_left, take-append-le, take_at, take-take, get_or-take, length-take-le, length_push, get_or_push}
use Rattle.std.proofs.lemmas.List.Folds.{list_any-append}
use Rattle.solv_pool.specs.Prelude.{is_fact, is_refuted}
use Rattle.solv_derive.specs.Forced.{forced}
use Rattle.solv_derive.proofs.Facts.{known_cases, neg-neg, forces_from, forced_member, open_parts}
use Rattle.solv_trail.specs.Inner.Derivation.{IsConsistent, IsQuiet, AllQuiet, Among, chosen, forced_by, IsChoice, IsTrail}
use Rattle.solv_trail.proofs.Unit.{among_more, quiet_more}
use Rattle.solv_trail.proofs.Walk.{take_known}

known_pushed : (T : List ℤ) (x l : ℤ) → is_fact (T ++ x ∷ []) l ≡ true → (is_fact T l ≡ true) ⊎ (l ≡ x)
known_pushed T x l h = elim (or_cases (is_fact T l) (is_fact (x ∷ []) l) (sym (list_any-append (int_eq l) T (x ∷ [])) ∙ h)) [
  | inl a ↦ inl a
  | inr b ↦ elim (known_cases x l [] b) [ inl e ↦ inr e | inr z ↦ absurd (false≢true z) ]
]

neg_differs : (x : ℤ) → 0 < nat_abs x → neg_ℤ x ≡ x → ⊥
neg_differs (pos zero) h e = omega arith
neg_differs (pos (suc n)) h e = cc
neg_differs (negsuc n) h e = cc

-- an open literal keeps a trail consistent
apart_push : (T : List ℤ) (x : ℤ) → IsConsistent T → is_fact T x ≡ false → is_refuted T x ≡ false → 0 < nat_abs x → IsConsistent (T ++ x ∷ [])
apart_push T x apart k f nonzero = record {
  apart = λ l a b. elim (known_pushed T x l a) [
    | inl c ↦ elim (known_pushed T x (neg_ℤ l) b) [
      | inl d ↦ apart.apart l c d
      | inr e ↦ let g : is_fact T (neg_ℤ x) ≡ true = ap (λ v. is_fact T (neg_ℤ v)) (sym e) ∙ ap (is_fact T) (neg-neg l) ∙ c in false≢true (sym f ∙ g)
    ]
    | inr e ↦ elim (known_pushed T x (neg_ℤ l) b) [
      | inl d ↦ false≢true (sym f ∙ ap (λ v. is_fact T (neg_ℤ v)) (sym e) ∙ d)
      | inr g ↦ neg_differs x nonzero (ap neg_ℤ (sym e) ∙ g)
    ]
  ];
}

module _ (F : List (List ℤ)) (asks : (ℤ → Bool) → Option ℕ) where
  pub trail_empty : IsTrail F asks [] []
  trail_empty = record {
    apart = record { apart = λ l a b. false≢true a };
    within = λ k h. absurd (omega arith);
    rising = λ i k h g. absurd (omega arith);
    entered = λ j h. absurd (omega arith);
    choices = λ k h. absurd (omega arith);
  }

  -- what lies before the end is as it was
  kept_choice : (T : List ℤ) (x : ℤ) (m : ℕ) → m < length T → IsChoice F asks T m → IsChoice F asks (T ++ x ∷ []) m
  kept_choice T x m h choice =
      let t : take m (T ++ x ∷ []) ≡ take m T = take-append-le m T (x ∷ []) (omega arith) in
      let g : get_or (T ++ x ∷ []) m (pos 0) ≡ get_or T m (pos 0) = get_or_append_left T (x ∷ []) (pos 0) m h in
      record {
        positive = rw g choice.positive;
        quiet = rw t choice.quiet;
        asked = rw (t, g) choice.asked;
      }

  pub trail_push : (T : List ℤ) (M : List ℕ) (c : List ℤ) (x : ℤ) → IsTrail F asks T M → Among c F → forced T c ≡ Some x → 0 < nat_abs x → IsTrail F asks (T ++ x ∷ []) M
  trail_push T M c x trail a f nonzero =
      let o = open_parts T x (forced_member T c x (forces_from T c x f)).1 in
      let long : length (T ++ x ∷ []) ≡ length T + 1 = length_push T x in
      record {
        apart = apart_push T x trail.apart o.0 o.1 nonzero;
        within = λ k h. let w : get_or M k 0 < length T = trail.within k h in omega arith;
        rising = trail.rising;
        entered = λ j h. elim (cases_lt j (length T)) [
          | inl small ↦ elim (trail.entered j small) [
            | chosen k g e ↦ chosen k g e
            | forced_by d b q ↦
                let t : take j (T ++ x ∷ []) ≡ take j T = take-append-le j T (x ∷ []) (omega arith) in
                let g : get_or (T ++ x ∷ []) j (pos 0) ≡ get_or T j (pos 0) = get_or_append_left T (x ∷ []) (pos 0) j small in
                forced_by d b (rw (t, g) q)
          ]
          | inr large ↦
              let e : length T ≡ j = omega arith in
              forced_by c a (rw (take_at T (x ∷ []) j e, get_or_push T x (pos 0) j e) f)
        ];
        choices = λ k h. kept_choice T x (get_or M k 0) (trail.within k h) (trail.choices k h);
      }

  mark_old : (M : List ℕ) (m k : ℕ) → k < length M → get_or (M ++ m ∷ []) k 0 ≡ get_or M k 0
  mark_old M m k h = get_or_append_left M (m ∷ []) 0 k h

  pub trail_choose : (T : List ℤ) (M : List ℕ) (p : ℕ) → IsTrail F asks T M → AllQuiet T F → asks (is_fact T) ≡ Some p → 0 < p → is_fact T (pos p) ≡ false → is_refuted T (pos p) ≡ false → IsTrail F asks (T ++ pos p ∷ []) (M ++ length T ∷ [])
  trail_choose T M p trail quiet asked some k f =
      let x : ℤ = pos p in
      let long : length (T ++ x ∷ []) ≡ length T + 1 = length_push T x in
      let marks : length (M ++ length T ∷ []) ≡ length M + 1 = length_push M (length T) in
      let new_mark : get_or (M ++ length T ∷ []) (length M) 0 ≡ length T = get_or_push M (length T) 0 (length M) refl in
      record {
        apart = apart_push T x trail.apart k f some;
        within = λ i h. elim (cases_lt i (length M)) [
          | inl small ↦ let w : get_or M i 0 < length T = trail.within i small in rw (mark_old M (length T) i small) (omega arith)
          | inr large ↦ let e : length M ≡ i = omega arith in rw (get_or_push M (length T) 0 i e) (omega arith)
        ];
        rising = λ i j h g. elim (cases_lt j (length M)) [
          | inl small ↦ let w : get_or M i 0 < get_or M j 0 = trail.rising i j h small in rw (mark_old M (length T) i (omega arith), mark_old M (length T) j small) w
          | inr large ↦
              let e : length M ≡ j = omega arith in
              let w : get_or M i 0 < length T = trail.within i (omega arith) in
              rw (mark_old M (length T) i (omega arith), get_or_push M (length T) 0 j e) w
        ];
        entered = λ j h. elim (cases_lt j (length T)) [
          | inl small ↦ elim (trail.entered j small) [
            | chosen i g e ↦ chosen i (omega arith) (mark_old M (length T) i g ∙ e)
            | forced_by d b q ↦
                let t : take j (T ++ x ∷ []) ≡ take j T = take-append-le j T (x ∷ []) (omega arith) in
                let g : get_or (T ++ x ∷ []) j (pos 0) ≡ get_or T j (pos 0) = get_or_append_left T (x ∷ []) (pos 0) j small in
                forced_by d b (rw (t, g) q)
          ]
          | inr large ↦ let e : length T ≡ j = omega arith in chosen (length M) (omega arith) (new_mark ∙ e)
        ];
        choices = λ i h. elim (cases_lt i (length M)) [
          | inl small ↦ rw (mark_old M (length T) i small) (kept_choice T x (get_or M i 0) (trail.within i small) (trail.choices i small))
          | inr large ↦
              let e : length M ≡ i = omega arith in
              rw (get_or_push M (length T) 0 i e) (record {
                positive = rw (get_or_push T x (pos 0) (length T) refl) refl;
                quiet = rw (take_at T (x ∷ []) (length T) refl) quiet;
                asked = rw (take_at T (x ∷ []) (length T) refl, get_or_push T x (pos 0) (length T) refl) asked;
              })
        ];
      }

  cut_choice : (T : List ℤ) (e m : ℕ) → m < e → IsChoice F asks T m → IsChoice F asks (take e T) m
  cut_choice T e m h choice =
      let t : take m (take e T) ≡ take m T = take-take m e T (omega arith) in
      let g : get_or (take e T) m (pos 0) ≡ get_or T m (pos 0) = get_or-take e T m (pos 0) h in
      record { positive = rw g choice.positive; quiet = rw t choice.quiet; asked = rw (t, g) choice.asked }

  pub trail_cut : (T : List ℤ) (M : List ℕ) (b : ℕ) → IsTrail F asks T M → b < length M → IsTrail F asks (take (get_or M b 0) T) (take b M)
  trail_cut T M b trail h =
      let e : ℕ = get_or M b 0 in
      let w : e < length T = trail.within b h in
      let long : length (take e T) ≡ e = length-take-le e T (omega arith) in
      let few : length (take b M) ≡ b = length-take-le b M (omega arith) in
      record {
        apart = record { apart = λ l x y. trail.apart.apart l (take_known T e l x) (take_known T e (neg_ℤ l) y) };
        within = λ k g. let m : get_or M k 0 < e = trail.rising k b (omega arith) h in rw (get_or-take b M k 0 (omega arith), long) m;
        rising = λ i k g f. rw (get_or-take b M i 0 (omega arith), get_or-take b M k 0 (omega arith)) (trail.rising i k g (omega arith));
        entered = λ j g. elim (trail.entered j (omega arith)) [
          | chosen k n q ↦ chosen k (earlier k n (let P : ℕ → Type 0 = λ v. v < e in subst P (sym q) (omega arith))) (get_or-take b M k 0 (below k n (let P : ℕ → Type 0 = λ v. v < e in subst P (sym q) (omega arith))) ∙ q)
          | forced_by d a q ↦ forced_by d a (rw (take-take j e T (omega arith), get_or-take e T j (pos 0) (omega arith)) q)
        ];
        choices = λ k g. rw (get_or-take b M k 0 (omega arith)) (cut_choice T e (get_or M k 0) (trail.rising k b (omega arith) h) (trail.choices k (omega arith)));
      }
    where
      below : (k : ℕ) → k < length M → get_or M k 0 < get_or M b 0 → k < b
      below k n less = elim (cases_order k b) [
        | inl e ↦ let f : get_or M k 0 ≡ get_or M b 0 = ap (λ v. get_or M v 0) e in omega arith
        | inr (inl s) ↦ s
        | inr (inr g) ↦ let f : get_or M b 0 < get_or M k 0 = trail.rising b k g n in omega arith
      ]

      earlier : (k : ℕ) → k < length M → get_or M k 0 < get_or M b 0 → k < length (take b M)
      earlier k n less = rw (length-take-le b M (omega arith)) (below k n less)

  pub trail_learn : (T : List ℤ) (M : List ℕ) (d : List ℤ) → IsTrail F asks T M → ((k : ℕ) → k < length M → IsQuiet (take (get_or M k 0) T) d) → IsTrail (F ++ d ∷ []) asks T M
  trail_learn T M d trail quiet = record {
    apart = trail.apart;
    within = trail.within;
    rising = trail.rising;
    entered = λ j h. elim (trail.entered j h) [ chosen k g e ↦ chosen k g e | forced_by c a q ↦ forced_by c (among_more d a) q ];
    choices = λ k h. record {
      positive = (trail.choices k h).positive;
      quiet = quiet_more (take (get_or M k 0) T) d (trail.choices k h).quiet (quiet k h);
      asked = (trail.choices k h).asked;
    };
  }
