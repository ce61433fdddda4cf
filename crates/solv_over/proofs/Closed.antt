-- What is consistent and quiet is closed under unit propagation.
use Rattle.std.proofs.Common.{◌≡◌, ℕ, zero, suc, ◌+◌, Bool, true, false, ◌||◌, ◌&&◌, not, List, [], ◌∷◌, filter, None, refl, ap, ◌∙◌, subst, if◌then◌else◌}
use Rattle.std.specs.Prelude.{ℤ, neg_ℤ}
use Rattle.std.specs.List.{list_any, list_all}
use Rattle.solv_pool.specs.Prelude.{is_fact, is_refuted, is_open, facts_after, rounds, only, unit, clashes, are_over}
use Rattle.solv_pool.specs.Inner.Propagation.{with_single, round}
use Rattle.solv_derive.specs.Inner.Forced.{is_satisfied}
use Rattle.solv_derive.proofs.Facts.{known_here, known_later}
use Rattle.solv_trail.specs.Inner.Derivation.{IsConsistent, IsQuiet, AllQuiet, none, more}
use Rattle.solv_trail.proofs.Unit.{clear_from}
use Rattle.solv_core.specs.GoodTrails.{IsClosed}
use Rattle.solv_over.proofs.Widened.{rest_quiet}

-- where every clause is quiet, unit propagation adds nothing
only_none : (xs K : List ℤ) → only xs ≡ None → with_single K xs ≡ K
only_none [] K h = refl
only_none (x ∷ []) K h = absurd (cc)
only_none (x ∷ y ∷ xs) K h = refl

quiet_adds_none : (K c : List ℤ) → IsQuiet K c → facts_after K c ≡ K
quiet_adds_none K c q = by (is_satisfied K c) q.forces_none
  where
    by : (b : Bool) → (if b then None else only (filter (is_open K) c)) ≡ None → (if b then K else with_single K (filter (is_open K) c)) ≡ K
    by true h = refl
    by false h = only_none (filter (is_open K) c) K h

round_quiet : (K : List ℤ) {F : List (List ℤ)} → AllQuiet K F → round F K ≡ K
round_quiet K none = refl
round_quiet K {F = c ∷ F} (more q rest) = ap (round F) (quiet_adds_none K c q) ∙ round_quiet K rest

rounds_quiet : (k : ℕ) (K : List ℤ) (F : List (List ℤ)) → AllQuiet K F → rounds k F K ≡ K
rounds_quiet zero K F q = refl
rounds_quiet (suc k) K F q = ap (rounds k F) (round_quiet K q) ∙ rounds_quiet k K F q

no_false : (K : List ℤ) {F : List (List ℤ)} → AllQuiet K F → list_any (λ c. list_all (is_refuted K) c) F ≡ false
no_false K none = refl
no_false K {F = c ∷ F} (more q rest) = ap (λ b. b || list_any (λ d. list_all (is_refuted K) d) F) q.not_false ∙ no_false K rest

none_refuted : (K ls : List ℤ) → ((l : ℤ) → is_fact ls l ≡ true → is_refuted K l ≡ false) → list_any (is_refuted K) ls ≡ false
none_refuted K [] h = refl
none_refuted K (l ∷ ls) h = ap (λ b. b || list_any (is_refuted K) ls) (h l (known_here l ls)) ∙ none_refuted K ls (λ m k. h m (known_later l m ls k))

pub closed_of : (count : ℕ) (K : List ℤ) (F : List (List ℤ)) → IsConsistent K → AllQuiet K F → IsClosed count F K
closed_of count K F apart q = record {
  adds_none = rounds_quiet (count + 1) K F q;
  no_clash = ap (λ b. b || list_any (is_refuted K) K) (no_false K q) ∙ none_refuted K K (λ l k. not_true (is_refuted K l) (apart.apart l k));
}
  where
    not_true : (b : Bool) → (b ≡ true → ⊥) → b ≡ false
    not_true true h = absurd (h refl)
    not_true false h = refl

-- consistent, and every clause quiet
pub record IsRest (F : List (List ℤ)) (K : List ℤ) : Type 0 where
  pub quiet : AllQuiet K F
  pub apart : IsConsistent K

pub rest_of : (n : ℕ) (F : List (List ℤ)) (K : List ℤ) → are_over n F ≡ true → IsClosed n F K → IsRest F K
rest_of n F K over closed =
    let free : clashes F (unit n F K) ≡ false = ap (clashes F) closed.adds_none ∙ closed.no_clash in
    let Q : List ℤ → Type 0 = λ v. AllQuiet v F in
    record { quiet = subst Q closed.adds_none (rest_quiet n F K over free); apart = (clear_from F K closed.no_clash).apart }

-- both speak of what is known alone
abbrev quiet_with : (ℤ → Bool) → List ℤ → Type 0
quiet_with known c =
    ((if list_any known c then None else only (filter (λ l. not (known l) && not (known (neg_ℤ l))) c)) ≡ None) × (list_all (λ l. known (neg_ℤ l)) c ≡ false)

pub quiet_same : (A B : List ℤ) → is_fact A ≡ is_fact B → {F : List (List ℤ)} → AllQuiet A F → AllQuiet B F
quiet_same A B e none = none
quiet_same A B e (more {c} {F} q rest) =
    let own : quiet_with (is_fact B) c = subst (λ (k : ℤ → Bool). quiet_with k c) e (q.forces_none, q.not_false) in
    more (record { forces_none = own.0; not_false = own.1 }) (quiet_same A B e rest)

pub apart_same : (A B : List ℤ) → is_fact A ≡ is_fact B → IsConsistent A → IsConsistent B
apart_same A B e h = record { apart = λ l k f. h.apart l (ap (λ (g : ℤ → Bool). g l) e ∙ k) (ap (λ (g : ℤ → Bool). g (neg_ℤ l)) e ∙ f) }

pub rest_same : (A B : List ℤ) (F : List (List ℤ)) → is_fact A ≡ is_fact B → IsRest F A → IsRest F B
rest_same A B F e h = record { quiet = quiet_same A B e h.quiet; apart = apart_same A B e h.apart }
