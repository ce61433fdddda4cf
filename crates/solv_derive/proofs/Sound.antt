-- What a good log says: no set makes its leaves true.
use Rattle.std.proofs.Common.{◌≡◌, ℕ, zero, suc, ◌<◌, Bool, true, false, not, ◌&&◌, ◌||◌, List, [], ◌∷◌, ◌++◌, map, Option, Some, None, inl, inr, refl, sym, ap, ◌∙◌, arith}
use Rattle.std.specs.Prelude.{ℤ, pos, negsuc, neg_ℤ, nat_abs}
use Rattle.std.specs.List.{list_all}
use Rattle.std.proofs.lemmas.Bool.{and_parts, and_from, cases_Bool, false≢true}
use Rattle.std.proofs.lemmas.List.Folds.{list_all-append}
use Rattle.solv_pool.specs.Prelude.{literal_true, clause_true, is_fact, is_refuted, is_over, are_over, names_package}
use Rattle.solv_derive.specs.Forced.{is_falsified, forced}
use Rattle.solv_derive.specs.Laws.{GoodLogsRefute}
use Rattle.solv_derive.specs.Leaves.{named_rules, rule_true, leaves_true}
use Rattle.solv_derive.specs.Inner.Leaves.{rules_of}
use Rattle.solv_derive.specs.Logs.{ends_in_conflict, hint_clause, is_good_step, are_good_steps, ends_empty, is_empty, is_good_log}
use Rattle.solv_derive.specs.Range.{steps_over}
use Rattle.solv_derive.specs.declared.logs.Hint.{Hint}
use Rattle.solv_derive.specs.declared.logs.Hint.TheVariants as hint
use Rattle.solv_derive.specs.declared.logs.Step.{Step}
use Rattle.solv_derive.proofs.AllLeaves.{all_leaves}
use Rattle.solv_derive.proofs.Facts.{known_here, known_cases, all_member, any_member, none_member, forces_from, forced_others}
use Rattle.solv_derive.proofs.Tables.{names_parts}
use Rattle.solv_list.proofs.Lists.{clause_at}

not_not : (b : Bool) → b ≡ not (not b)
not_not true = refl
not_not false = refl

pub so_neg : (set : ℕ → Bool) (l : ℤ) → 0 < nat_abs l → literal_true set (neg_ℤ l) ≡ not (literal_true set l)
so_neg set (pos zero) h = absurd (omega arith)
so_neg set (pos (suc p)) h = refl
so_neg set (negsuc p) h = not_not (set (suc p))

-- every fact is so in the set
pub record AllSo (set : ℕ → Bool) (facts : List ℤ) : Type 0 where
  pub so : (l : ℤ) → is_fact facts l ≡ true → literal_true set l ≡ true

not_both : (b : Bool) → b ≡ true → not b ≡ true → ⊥
not_both true h k = false≢true k
not_both false h k = false≢true h

module _ (count : ℕ) (set : ℕ → Bool) (facts c : List ℤ) (so : AllSo set facts) (over : is_over count c ≡ true) where
  false_is_not_so : (m : ℤ) → is_fact c m ≡ true → is_refuted facts m ≡ true → literal_true set m ≡ true → ⊥
  false_is_not_so m k f s =
      not_both (literal_true set m) s (sym (so_neg set m (names_parts count m (all_member (names_package count) c over m k)).0) ∙ so.so (neg_ℤ m) f)

  pub false_not_met : is_falsified facts c ≡ true → clause_true set c ≡ true → ⊥
  false_not_met f s = let r = any_member (literal_true set) c s in false_is_not_so r.0 r.1 (all_member (is_refuted facts) c f r.0 r.1) r.2

  pub forced_is_so : (l : ℤ) → forced facts c ≡ Some l → clause_true set c ≡ true → AllSo set (l ∷ facts)
  forced_is_so l f s =
      let r = any_member (literal_true set) c s in
      let is : literal_true set l ≡ true = elim (forced_others facts c l (forces_from facts c l f) r.0 r.1) [
        | inl e ↦ ap (literal_true set) (sym e) ∙ r.2
        | inr g ↦ absurd (false_is_not_so r.0 r.1 g r.2)
      ] in
      record { so = λ m k. elim (known_cases l m facts k) [ inl e ↦ ap (literal_true set) e ∙ is | inr h ↦ so.so m h ] }

-- the set meets each clause that a hint names
pub data Met (look : Hint → Option (List ℤ)) (count : ℕ) (set : ℕ → Bool) : List Hint → Type 0 where
  none : Met look count set []
  more : {h : Hint} {hints : List Hint} → ((c : List ℤ) → look h ≡ Some c → (clause_true set c ≡ true) × (is_over count c ≡ true)) → Met look count set hints → Met look count set (h ∷ hints)

module _ (look : Hint → Option (List ℤ)) (count : ℕ) (set : ℕ → Bool) where
  pub not_run_out : (hints : List Hint) (facts : List ℤ) → AllSo set facts → Met look count set hints → ends_in_conflict look facts hints ≡ true → ⊥
  not_run_out [] facts so met h = false≢true h
  not_run_out (x ∷ []) facts so (more here rest) h = last (look x) refl h
    where
      last : (o : Option (List ℤ)) → look x ≡ o → elim o as (λ _. Bool) [ None ↦ false | Some c ↦ is_falsified facts c ] ≡ true → ⊥
      last None e g = false≢true g
      last (Some c) e g = let m = here c e in false_not_met count set facts c so m.1 g m.0
  not_run_out (x ∷ y ∷ hints) facts so (more here rest) h = step (look x) refl h (λ l s g. not_run_out (y ∷ hints) (l ∷ facts) s rest g)
    where
      step : (o : Option (List ℤ)) → look x ≡ o
          → elim o as (λ _. Bool) [ None ↦ false | Some c ↦ elim (forced facts c) as (λ _. Bool) [ None ↦ false | Some l ↦ ends_in_conflict look (l ∷ facts) (y ∷ hints) ] ] ≡ true
          → ((l : ℤ) → AllSo set (l ∷ facts) → ends_in_conflict look (l ∷ facts) (y ∷ hints) ≡ true → ⊥) → ⊥
      step None e g go = false≢true g
      step (Some c) e g go = force (forced facts c) refl g
        where
          force : (o : Option ℤ) → forced facts c ≡ o → elim o as (λ _. Bool) [ None ↦ false | Some l ↦ ends_in_conflict look (l ∷ facts) (y ∷ hints) ] ≡ true → ⊥
          force None f k = false≢true k
          force (Some l) f k = let m = here c e in go l (forced_is_so count set facts c so m.1 l f m.0) k

pub negations_so : (count : ℕ) (set : ℕ → Bool) (c : List ℤ) → is_over count c ≡ true → clause_true set c ≡ false → AllSo set (map neg_ℤ c)
negations_so count set [] over h = record { so = λ l k. absurd (false≢true k) }
negations_so count set (x ∷ c) over h =
    let o = and_parts (names_package count x) (is_over count c) over in
    let n = none_member (literal_true set) (x ∷ c) h in
    let rest : AllSo set (map neg_ℤ c) = negations_so count set c o.1 (or_right_false (literal_true set x) (clause_true set c) h) in
    record {
      so = λ l k. elim (known_cases (neg_ℤ x) l (map neg_ℤ c) k) [
        | inl e ↦ ap (literal_true set) e ∙ so_neg set x (names_parts count x o.0).0 ∙ ap not (n x (known_here x c))
        | inr r ↦ rest.so l r
      ];
    }
  where
    or_right_false : (a b : Bool) → (a || b) ≡ false → b ≡ false
    or_right_false true b g = absurd (false≢true (sym g))
    or_right_false false b g = g

module _ (count : ℕ) (set : ℕ → Bool) (book : List (List ℤ)) (books : are_over count book ≡ true) where
  hints_met : (earlier : List (List ℤ)) → list_all (clause_true set) earlier ≡ true → are_over count earlier ≡ true → (hints : List Hint) → list_all (rule_true book set) (rules_of hints) ≡ true → Met (hint_clause book earlier) count set hints
  hints_met earlier m o [] h = none
  hints_met earlier m o (hint.Book r ∷ hints) h =
      let both = and_parts (rule_true book set r) (list_all (rule_true book set) (rules_of hints)) h in
      more (λ c e. (sym (ap (λ v. elim v as (λ _. Bool) [ None ↦ true | Some d ↦ clause_true set d ]) e) ∙ both.0, clause_at (is_over count) book r c books e)) (hints_met earlier m o hints both.1)
  hints_met earlier m o (hint.Step k ∷ hints) h =
      more (λ c e. (clause_at (clause_true set) earlier k c m e, clause_at (is_over count) earlier k c o e)) (hints_met earlier m o hints h)

  step_met : (earlier : List (List ℤ)) → list_all (clause_true set) earlier ≡ true → are_over count earlier ≡ true → (s : Step) → is_over count s.clause ≡ true → list_all (rule_true book set) (rules_of s.hints) ≡ true → is_good_step book earlier s ≡ true → clause_true set s.clause ≡ true
  step_met earlier m o s over h good = elim (cases_Bool (clause_true set s.clause)) [
    | inl e ↦ e
    | inr f ↦ absurd (not_run_out (hint_clause book earlier) count set s.hints (map neg_ℤ s.clause) (negations_so count set s.clause over f) (hints_met earlier m o s.hints h) good)
  ]

  steps_met : (steps : List Step) (earlier : List (List ℤ)) → list_all (clause_true set) earlier ≡ true → are_over count earlier ≡ true → steps_over count steps ≡ true → list_all (rule_true book set) (named_rules steps) ≡ true → are_good_steps book earlier steps ≡ true → list_all (λ s. clause_true set s.clause) steps ≡ true
  steps_met [] earlier m o over h good = refl
  steps_met (s ∷ steps) earlier m o over h good =
      let overs = and_parts (is_over count s.clause) (steps_over count steps) over in
      let parts = and_parts (list_all (rule_true book set) (rules_of s.hints)) (list_all (rule_true book set) (named_rules steps))
      (sym (list_all-append (rule_true book set) (rules_of s.hints) (named_rules steps)) ∙ h) in
      let goods = and_parts (is_good_step book earlier s) (are_good_steps book (earlier ++ s.clause ∷ []) steps) good in
      let here : clause_true set s.clause ≡ true = step_met earlier m o s overs.0 parts.0 goods.0 in
      let m2 : list_all (clause_true set) (earlier ++ s.clause ∷ []) ≡ true = list_all-append (clause_true set) earlier (s.clause ∷ []) ∙ and_from (list_all (clause_true set) earlier) (clause_true set s.clause && true) m (and_from (clause_true set s.clause) true here refl) in
      let o2 : are_over count (earlier ++ s.clause ∷ []) ≡ true = list_all-append (is_over count) earlier (s.clause ∷ []) ∙ and_from (are_over count earlier) (is_over count s.clause && true) o (and_from (is_over count s.clause) true overs.0 refl) in
      and_from (clause_true set s.clause) (list_all (λ t. clause_true set t.clause) steps) here (steps_met steps (earlier ++ s.clause ∷ []) m2 o2 overs.1 parts.1 goods.1)

  ends_unmet : (steps : List Step) → ends_empty steps ≡ true → list_all (λ s. clause_true set s.clause) steps ≡ true → ⊥
  ends_unmet [] e h = false≢true e
  ends_unmet (s ∷ []) e h = empty s.clause e (and_parts (clause_true set s.clause) true h).0
    where
      empty : (c : List ℤ) → is_empty c ≡ true → clause_true set c ≡ true → ⊥
      empty [] f g = false≢true g
      empty (x ∷ c) f g = false≢true f
  ends_unmet (s ∷ t ∷ steps) e h = ends_unmet (t ∷ steps) e (and_parts (clause_true set s.clause) (list_all (λ u. clause_true set u.clause) (t ∷ steps)) h).1

  -- no set makes true each rule that a good log names
  pub refuted : (steps : List Step) → steps_over count steps ≡ true → is_good_log book steps ≡ true → list_all (rule_true book set) (named_rules steps) ≡ true → ⊥
  refuted steps over good h =
      let both = and_parts (are_good_steps book [] steps) (ends_empty steps) good in
      ends_unmet steps both.1 (steps_met steps [] refl refl over h both.0)

-- no set makes all leaves of a good log true
pub good_logs_refute : GoodLogsRefute
good_logs_refute count book steps books over good set =
    not_true (leaves_true book steps set) (λ h. refuted count set book books steps over good (all_leaves (rule_true book set) steps h))
  where
    not_true : (b : Bool) → (b ≡ true → ⊥) → b ≡ false
    not_true true f = absurd (f refl)
    not_true false f = refl
