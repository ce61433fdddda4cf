-- Logs over clauses that stand at places among all.
use Rattle.std.proofs.Common.{◌≡◌, ℕ, zero, suc, ◌+◌, ◌<◌, Bool, true, false, ◌&&◌, ◌||◌, List, [], ◌∷◌, ◌++◌, length, map, Option, Some, None, ◌⊎◌, inl, inr, refl, sym, ap, ◌∙◌, subst}
use Rattle.std.specs.Prelude.{ℤ, neg_ℤ, slice_get, option_map}
use Rattle.std.specs.List.{list_all, list_any}
use Rattle.std.proofs.lemmas.Bool.{and_parts, and_from, cases_Bool, false≢true}
use Rattle.std.proofs.lemmas.Option.{slice_get-map}
use Rattle.solv_derive.specs.Forced.{is_falsified, forced}
use Rattle.solv_derive.specs.Logs.{ends_in_conflict, hint_clause, is_good_step, are_good_steps, is_empty, ends_empty, is_good_log}
use Rattle.solv_derive.specs.Trimming.{names_step, are_hinted, is_trimmed}
use Rattle.solv_derive.specs.Range.{steps_over}
use Rattle.solv_pool.specs.Range.{is_over}
use Rattle.solv_derive.specs.declared.logs.Hint.{Hint}
use Rattle.solv_derive.specs.declared.logs.Hint.TheVariants as hint
use Rattle.solv_derive.specs.declared.logs.Step.{Step}
use Rattle.solv_over.specs.Inner.Places.{StandAt, hint_at, step_at, steps_at, LogsWiden}

-- hints that name the same clauses end in the same conflict
pub ends_alike : (look more : Hint → Option (List ℤ)) (turn : Hint → Hint) → ((h : Hint) (c : List ℤ) → look h ≡ Some c → more (turn h) ≡ Some c)
    → (facts : List ℤ) (hints : List Hint) → ends_in_conflict look facts hints ≡ true → ends_in_conflict more facts (map turn hints) ≡ true
ends_alike look more turn same facts [] h = absurd (false≢true h)
ends_alike look more turn same facts (a ∷ []) h = by (look a) refl h
  where
    E : Option (List ℤ) → Bool
    E o = elim o [ None ↦ false | Some c ↦ is_falsified facts c ]

    by : (o : Option (List ℤ)) → look a ≡ o → E o ≡ true → E (more (turn a)) ≡ true
    by None e k = absurd (false≢true k)
    by (Some c) e k = ap E (same a c e) ∙ k
ends_alike look more turn same facts (a ∷ b ∷ hints) h = by (look a) refl h (λ l k. ends_alike look more turn same (l ∷ facts) (b ∷ hints) k)
  where
    G : (Hint → Option (List ℤ)) → List Hint → List ℤ → Option ℤ → Bool
    G see rest c o = elim o [ None ↦ false | Some l ↦ ends_in_conflict see (l ∷ facts) rest ]

    E : (Hint → Option (List ℤ)) → List Hint → Option (List ℤ) → Bool
    E see rest o = elim o [ None ↦ false | Some c ↦ G see rest c (forced facts c) ]

    on : (c : List ℤ) (o : Option ℤ) → G look (b ∷ hints) c o ≡ true → ((l : ℤ) → ends_in_conflict look (l ∷ facts) (b ∷ hints) ≡ true → ends_in_conflict more (l ∷ facts) (map turn (b ∷ hints)) ≡ true)
        → G more (map turn (b ∷ hints)) c o ≡ true
    on c None k f = absurd (false≢true k)
    on c (Some l) k f = f l k

    by : (o : Option (List ℤ)) → look a ≡ o → E look (b ∷ hints) o ≡ true → ((l : ℤ) → ends_in_conflict look (l ∷ facts) (b ∷ hints) ≡ true → ends_in_conflict more (l ∷ facts) (map turn (b ∷ hints)) ≡ true)
        → E more (map turn (b ∷ hints)) (more (turn a)) ≡ true
    by None e k f = absurd (false≢true k)
    by (Some c) e k f = ap (E more (map turn (b ∷ hints))) (same a c e) ∙ on c (forced facts c) k f

module _ (clauses : List (List ℤ)) (owners : List ℕ) (all : List (List ℤ)) (owners_all : List ℕ) (at rule : ℕ → ℕ) (stand : StandAt clauses owners all owners_all at rule) where
  -- a hint names the same clause
  pub names_same : (earlier : List (List ℤ)) (h : Hint) (c : List ℤ) → hint_clause clauses earlier h ≡ Some c → hint_clause all earlier (hint_at at h) ≡ Some c
  names_same earlier (hint.Book k) c e = stand.clause k c e
  names_same earlier (hint.Step k) c e = e

  pub step_good : (earlier : List (List ℤ)) (s : Step) → is_good_step clauses earlier s ≡ true → is_good_step all earlier (step_at at s) ≡ true
  step_good earlier s h = ends_alike (hint_clause clauses earlier) (hint_clause all earlier) (hint_at at) (names_same earlier) (map neg_ℤ s.clause) s.hints h

  steps_good : (earlier : List (List ℤ)) (steps : List Step) → are_good_steps clauses earlier steps ≡ true → are_good_steps all earlier (steps_at at steps) ≡ true
  steps_good earlier [] h = refl
  steps_good earlier (s ∷ steps) h =
      let both = and_parts (is_good_step clauses earlier s) (are_good_steps clauses (earlier ++ s.clause ∷ []) steps) h in
      and_from (is_good_step all earlier (step_at at s)) (are_good_steps all (earlier ++ s.clause ∷ []) (steps_at at steps)) (step_good earlier s both.0) (steps_good (earlier ++ s.clause ∷ []) steps both.1)

  ends_same : (steps : List Step) → ends_empty (steps_at at steps) ≡ ends_empty steps
  ends_same [] = refl
  ends_same (s ∷ []) = refl
  ends_same (s ∷ t ∷ steps) = ends_same (t ∷ steps)

  pub log_good : (steps : List Step) → is_good_log clauses steps ≡ true → is_good_log all (steps_at at steps) ≡ true
  log_good steps h =
      let both = and_parts (are_good_steps clauses [] steps) (ends_empty steps) h in
      and_from (are_good_steps all [] (steps_at at steps)) (ends_empty (steps_at at steps)) (steps_good [] steps both.0) (ends_same steps ∙ both.1)

-- which packages a log names, and what each step is for, does not change
module _ (at : ℕ → ℕ) where
  pub over_same : (n : ℕ) (steps : List Step) → steps_over n (steps_at at steps) ≡ steps_over n steps
  over_same n [] = refl
  over_same n (s ∷ steps) = ap (λ b. is_over n s.clause && b) (over_same n steps)

  named_same : (n : ℕ) (hints : List Hint) → list_any (names_step n) (map (hint_at at) hints) ≡ list_any (names_step n) hints
  named_same n [] = refl
  named_same n (hint.Book k ∷ hints) = named_same n hints
  named_same n (hint.Step k ∷ hints) = ap (λ b. names_step n (hint.Step k) || b) (named_same n hints)

  any_named : (n : ℕ) (steps : List Step) → list_any (λ u. list_any (names_step n) u.hints) (steps_at at steps) ≡ list_any (λ u. list_any (names_step n) u.hints) steps
  any_named n [] = refl
  any_named n (s ∷ steps) = ap (λ b. b || list_any (λ u. list_any (names_step n) u.hints) (steps_at at steps)) (named_same n s.hints) ∙ ap (λ b. list_any (names_step n) s.hints || b) (any_named n steps)

  hinted_same : (n : ℕ) (steps : List Step) → are_hinted n (steps_at at steps) ≡ are_hinted n steps
  hinted_same n [] = refl
  hinted_same n (s ∷ []) = refl
  hinted_same n (s ∷ t ∷ steps) =
      ap (λ b. b && are_hinted (suc n) (steps_at at (t ∷ steps))) (any_named n (t ∷ steps))
      ∙ ap (λ b. list_any (λ u. list_any (names_step n) u.hints) (t ∷ steps) && b) (hinted_same (suc n) (t ∷ steps))

  pub trimmed_same : (steps : List Step) → is_trimmed (steps_at at steps) ≡ is_trimmed steps
  trimmed_same steps = hinted_same 0 steps

pub logs_widen : LogsWiden
logs_widen clauses owners all owners_all at rule stand steps h = log_good clauses owners all owners_all at rule stand steps h
