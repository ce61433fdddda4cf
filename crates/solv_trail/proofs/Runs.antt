-- From rules and their numbers to trails over clauses.
use Rattle.std.proofs.Common.{◌≡◌, ℕ, zero, suc, ◌+◌, ◌-◌, ◌<◌, ◌≤◌, Bool, true, List, [], ◌∷◌, length, take, get_or, Option, Some, inl, inr, refl, sym, ap, ◌∙◌, subst, arith}
use Rattle.std.specs.Prelude.{ℤ, pos, slice_get}
use Rattle.std.proofs.lemmas.Bool.{cases_Bool, false≢true}
use Rattle.std.proofs.lemmas.List.{take-take, get_or-take}
use Rattle.solv_derive.specs.Forced.{is_falsified}
use Rattle.solv_pool.specs.Prelude.{literal_true, clause_true, is_over}
use Rattle.solv_derive.proofs.Facts.{known_here}
use Rattle.solv_derive.proofs.Sound.{AllSo, forced_is_so}
use Rattle.solv_trail.specs.Walk.{asserts, met_by_choices}
use Rattle.solv_trail.specs.Inner.Derivation.{IsConsistent, IsQuiet, AllQuiet, none, more, Among, here, there, chosen, forced_by, IsTrail}
use Rattle.solv_trail.proofs.Walk.{met}
use Rattle.solv_trail.specs.Inner.Held.{Held}
use Rattle.solv_trail.specs.Inner.Used.{used_from, used_clauses}
use Rattle.solv_trail.specs.Inner.Propagated.{IsUsed, choice, by_rule, IsReasoned, IsAtRest, IsGrown}
use Rattle.solv_trail.proofs.Unit.{known_next}

module _ (used : ℕ → Bool) where
  among_from : (rules : List (List ℤ)) (i r : ℕ) (c : List ℤ) → slice_get rules r ≡ Some c → used (i + r) ≡ true → Among c (used_from used i rules)
  among_from [] i r c e on = absurd (cc)
  among_from (d ∷ rules) i zero c e on =
      let s : d ≡ c = cc in
      let o : used i ≡ true = let z : i + 0 ≡ i = omega arith in ap used (sym z) ∙ on in
      rw (o, s) here
  among_from (d ∷ rules) i (suc r) c e on =
      let o : used (suc i + r) ≡ true = let z : suc i + r ≡ i + suc r = omega arith in ap used z ∙ on in
      let a : Among c (used_from used (suc i) rules) = among_from rules (suc i) r c e o in
      elim (cases_Bool (used i)) [ inl y ↦ rw y (there a) | inr n ↦ rw n a ]

  pub used_among : (rules : List (List ℤ)) (r : ℕ) (c : List ℤ) → IsUsed rules used r c → Among c (used_clauses used rules)
  used_among rules r c u = among_from rules 0 r c u.found (let z : 0 + r ≡ r = omega arith in ap used z ∙ u.on)

  quiet_from : (K : List ℤ) (rules : List (List ℤ)) (i : ℕ) → ((r : ℕ) (c : List ℤ) → slice_get rules r ≡ Some c → used (i + r) ≡ true → IsQuiet K c) → AllQuiet K (used_from used i rules)
  quiet_from K [] i h = none
  quiet_from K (d ∷ rules) i h =
      let later : AllQuiet K (used_from used (suc i) rules) = quiet_from K rules (suc i) (λ r c e on. h (suc r) c e (let z : i + suc r ≡ suc i + r = omega arith in ap used z ∙ on)) in
      elim (cases_Bool (used i)) [
        | inl y ↦ rw y (more (h 0 d refl (let z : i + 0 ≡ i = omega arith in ap used z ∙ y)) later)
        | inr n ↦ rw n later
      ]

  get_within : (rules : List (List ℤ)) (r : ℕ) (c : List ℤ) → slice_get rules r ≡ Some c → r < length rules
  get_within [] r c e = absurd (cc)
  get_within (d ∷ rules) zero c e = omega arith
  get_within (d ∷ rules) (suc r) c e = let k : r < length rules = get_within rules r c e in omega arith

  pub rest_quiet : (K : List ℤ) (rules : List (List ℤ)) → ((rule : ℕ) → rule < length rules → IsAtRest rules used K rule) → AllQuiet K (used_clauses used rules)
  rest_quiet K rules h = quiet_from K rules 0 (λ r c e on.
      let at : IsAtRest rules used K r = h r (get_within rules r c e) in
      let u : IsUsed rules used r c = record { found = e; on = let z : 0 + r ≡ r = omega arith in ap used (sym z) ∙ on } in
      record { forces_none = at.forces_none c u; not_false = at.not_false c u })

  module _ (rules : List (List ℤ)) (asks : (ℤ → Bool) → Option ℕ) where
    -- a trail grown by propagation is a trail
    pub grown_trail : (old new : Held) → IsTrail (used_clauses used rules) asks old.lits old.marks → IsReasoned rules used old → IsConsistent new.lits → IsGrown rules used old new → IsTrail (used_clauses used rules) asks new.lits new.marks
    grown_trail old new trail reasons apart grown =
        let reasoned : IsReasoned rules used new = grown.reasoned reasons in
        let P : List ℕ → Type 0 = λ v. IsTrail (used_clauses used rules) asks new.lits v in
        subst P (sym grown.marks) (record {
          apart = apart;
          within = λ k h. let w : get_or old.marks k 0 < length old.lits = trail.within k h in omega (arith, grown.longer);
          rising = trail.rising;
          entered = λ j h. elim (reasoned.each j h) [
            | choice k a b ↦ chosen k (rw (← grown.marks) a) (rw (← grown.marks) b)
            | by_rule c u q ↦ forced_by c (used_among rules (get_or new.reasons j 0) c u) q
          ];
          choices = λ k h.
              let m : ℕ = get_or old.marks k 0 in
              let small : m < length old.lits = trail.within k h in
              let t : take m new.lits ≡ take m old.lits = sym (take-take m (length old.lits) new.lits (omega arith)) ∙ ap (take m) grown.front in
              let g : get_or new.lits m (pos 0) ≡ get_or old.lits m (pos 0) = sym (get_or-take (length old.lits) new.lits m (pos 0) small) ∙ ap (λ v. get_or v m (pos 0)) grown.front in
              record {
                positive = rw g (trail.choices k h).positive;
                quiet = rw t (trail.choices k h).quiet;
                asked = rw (t, g) (trail.choices k h).asked;
              };
        })

    -- a conflict after some choice, with a clause that asserts before the last one, is a conflict of the walk
    pub met_at_clash : (count : ℕ) (held : Held) (rule : ℕ) (c d : List ℤ) → IsTrail (used_clauses used rules) asks held.lits held.marks → length held.lits ≤ count → length held.marks ≤ count
        → IsUsed rules used rule c → is_falsified held.lits c ≡ true → 0 < length held.marks → asserts (take (get_or held.marks (length held.marks - 1) 0) held.lits) d ≡ true
        → met_by_choices count (used_clauses used rules) asks d ≡ true
    met_at_clash count held rule c d trail room few u f some h = met (used_clauses used rules) asks held.lits held.marks trail count room few c d (used_among rules rule c u) f some h

-- a set that meets the clauses in use and holds the packages taken so far has every literal so far
module _ (F : List (List ℤ)) (asks : (ℤ → Bool) → Option ℕ) (T : List ℤ) (M : List ℕ) (trail : IsTrail F asks T M) (count : ℕ) (set : ℕ → Bool)
    (meets : (c : List ℤ) → Among c F → (clause_true set c ≡ true) × (is_over count c ≡ true)) where
  pub trail_so : (e : ℕ) → e ≤ length T → ((k : ℕ) → k < length M → get_or M k 0 < e → literal_true set (get_or T (get_or M k 0) (pos 0)) ≡ true) → AllSo set (take e T)
  trail_so zero h taken = record { so = λ l z. absurd (false≢true z) }
  trail_so (suc e) h taken =
      let before : AllSo set (take e T) = trail_so e (omega arith) (λ k n less. taken k n (omega arith)) in
      let here : literal_true set (get_or T e (pos 0)) ≡ true = elim (trail.entered e (omega arith)) [
        | chosen k n g ↦ let s : literal_true set (get_or T (get_or M k 0) (pos 0)) ≡ true = taken k n (omega arith) in ap (λ v. literal_true set (get_or T v (pos 0))) (sym g) ∙ s
        | forced_by c a q ↦
            let m = meets c a in
            (forced_is_so count set (take e T) c before m.1 (get_or T e (pos 0)) q m.0).so (get_or T e (pos 0)) (known_here (get_or T e (pos 0)) (take e T))
      ] in
      record { so = λ l k. elim (known_next T e (omega arith) l k) [ inl a ↦ before.so l a | inr s ↦ ap (literal_true set) s ∙ here ] }
