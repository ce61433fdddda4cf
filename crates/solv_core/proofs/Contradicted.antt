-- The derivation by a clause that is falsified without a choice.
use Rattle.std.proofs.Common.{◌≡◌, ℕ, inl, inr, arith, eq-eqb, ◌<◌, ◌==◌, Bool, true, false, ◌||◌, List, [], ◌∷◌, ◌++◌, length, Option, Some, None, refl, sym, ap, ◌∙◌, subst}
use Rattle.std.specs.Prelude.{ℤ, nat_lt, ◌&&◌, slice_get, unwrap_or}
use Rattle.std.specs.List.{list_any}
use Rattle.std.proofs.lemmas.Bool.{and_parts, and_from, or_left, or_right, or_cases, false≢true}
use Rattle.std.proofs.lemmas.Option.{slice_get_within}
use Rattle.solv_derive.specs.Leaves.{leaves, named_rules}
use Rattle.solv_derive.specs.declared.logs.Hint.{Hint}
use Rattle.solv_derive.specs.declared.logs.Log.{Log}
use Rattle.solv_derive.specs.declared.logs.Step.{Step}
use Rattle.solv_derive.proofs.AllLeaves.{at_member, by_members}
use Rattle.solv_derive.specs.Inner.Trimming.{IsTrimmedFrom}
use Rattle.solv_trail.specs.Inner.Held.{Held}
use Rattle.solv_trail.specs.Inner.Propagated.{Reason, choice, by_rule, IsReasoned, Propagated, clash, rest}
use Rattle.solv_trail.specs.Propagated.{in_use}
use Rattle.solv_learn.specs.Inner.Learning.{IsRefuted}
use Rattle.solv_core.specs.Inner.Contradictions.{is_of, IsLogWith, IsRefutedRule, AreRefuted}
use Rattle.solv_core.specs.Inner.Holding.{AreInUse}
use Rattle.solv_core.specs.declared.ledger.Entry.{Entry}
use Rattle.solv_core.specs.declared.refuting.RefutedRule.{RefutedRule}
use Rattle.solv_core.proofs.Refuted.{log_good, log_leaves, log_over}

-- more rules may be in use
pub reasoned_wider : (rules : List (List ℤ)) (used wider : ℕ → Bool) (held : Held) → ((r : ℕ) → used r ≡ true → wider r ≡ true) → IsReasoned rules used held → IsReasoned rules wider held
reasoned_wider rules used wider held more h = record { sizes = h.sizes; each = λ j less. go j (h.each j less) }
  where
    go : (j : ℕ) → Reason rules used held j → Reason rules wider held j
    go j (choice k few at) = choice k few at
    go j (by_rule c u f) = by_rule c (record { found = u.found; on = more _ u.on }) f

-- where nothing is learnt, nothing is in use but the book
pub nothing_in_use : (book : List (List ℤ)) (used : ℕ → Bool) (packages : ℕ) (entries : List Entry) (number : ℕ → ℕ) → AreInUse book used packages entries number [] []
nothing_in_use book used packages entries number = record {
  derived = record { are = refl; good = refl; over = refl };
  held = record { few = omega arith; rising = λ i k less within. absurd (omega (arith, within)); earlier = λ i n s at h. absurd (cc); held = λ i s at. absurd (cc) };
  rests = refl;
}

-- more rules may be in use
pub in_use_wider : (book : List (List ℤ)) (used wider : ℕ → Bool) (packages : ℕ) (entries : List Entry) (number : ℕ → ℕ) (learnt : List (List ℤ)) (steps : List Step) → ((r : ℕ) → used r ≡ true → wider r ≡ true)
    → AreInUse book used packages entries number learnt steps → AreInUse book wider packages entries number learnt steps
in_use_wider book used wider packages entries number learnt steps more h =
    let p : ℕ → Bool = λ rule. nat_lt rule (length book) && used rule in
    let q : ℕ → Bool = λ rule. nat_lt rule (length book) && wider rule in
    record {
      derived = h.derived;
      held = h.held;
      rests = by_members q (named_rules steps) (λ x k.
          let both = and_parts (nat_lt x (length book)) (used x) (at_member p (named_rules steps) x h.rests k) in
          and_from (nat_lt x (length book)) (wider x) both.0 (more x both.1));
    }

-- the derivation by these hints over what was learnt, without the steps that nothing rests on
pub log_with : (book : List (List ℤ)) (owners : List ℕ) (packages : ℕ) (enabled : List Bool) (other : ℕ → Bool) (entries : List Entry) (number : ℕ → ℕ) (learnt : List (List ℤ)) (steps : List Step) (hints : List Hint) (log : Log)
    → AreInUse book (in_use owners enabled) packages entries number learnt steps → IsRefuted (book ++ learnt) (λ r. in_use owners enabled r || other r) (length book) 0 hints
    → IsTrimmedFrom (steps ++ (record { clause = []; hints = hints }) ∷ []) log.steps → IsLogWith book owners packages enabled other log
log_with book owners packages enabled other entries number learnt steps hints log h r t =
    let used : ℕ → Bool = λ r. in_use owners enabled r || other r in
    let wide = in_use_wider book (in_use owners enabled) used packages entries number learnt steps (λ r on. or_left (in_use owners enabled r) (other r) on) h in
    let whole : List Step = steps ++ (record { clause = []; hints = hints }) ∷ [] in
    let p : ℕ → Bool = λ clause. nat_lt clause (length book) && used clause in
    let rests = log_leaves book used packages entries number learnt steps wide hints r in
    record {
      good = t.good book (log_good book used packages entries number learnt steps wide hints r);
      over = t.over packages (log_over book used packages entries number learnt steps wide hints r);
      rests = by_members p (leaves log.steps) (λ x k. at_member p (leaves whole) x rests (t.rests x k));
    }

module _ (book : List (List ℤ)) (owners : List ℕ) (packages : ℕ) (enabled : List Bool) where
  pub refuted_more : (asked : List ℕ) (found : List RefutedRule) (one : RefutedRule) → AreRefuted book owners packages enabled asked found → IsRefutedRule book owners packages enabled asked one
      → AreRefuted book owners packages enabled asked (found ++ one ∷ [])
  refuted_more asked [] one all r = (r, tt)
  refuted_more asked (x ∷ found) one all r = (all.0, refuted_more asked found one all.1 r)

  -- the clause of the rule is its leaf
  pub refuted_by_clause : (clause rule : ℕ) (log : Log) → slice_get owners clause ≡ Some rule
      → ((other : ℕ → Bool) → (in_use owners enabled clause || other clause) ≡ true → IsLogWith book owners packages enabled other log)
      → IsRefutedRule book owners packages enabled (clause ∷ []) (record { rule = rule; log = log })
  refuted_by_clause clause rule log e h =
      let own : is_of owners rule clause ≡ true = ap (λ o. elim o as (λ _. Bool) [ None ↦ false | Some owner ↦ owner == rule ]) e ∙ eq-eqb rule rule refl in
      record {
        asked_for = or_left (is_of owners rule clause) false own;
        log = h (is_of owners rule) (or_right (in_use owners enabled clause) (is_of owners rule clause) own);
      }

  pub asked_among : (asked : List ℕ) (clause : ℕ) (one : RefutedRule) → ((p : ℕ → Bool) → p clause ≡ true → list_any p asked ≡ true) → IsRefutedRule book owners packages enabled (clause ∷ []) one → IsRefutedRule book owners packages enabled asked one
  asked_among asked clause one member r = record {
    asked_for = member (is_of owners one.rule) (elim (or_cases (is_of owners one.rule clause) false r.asked_for) [ inl h ↦ h | inr h ↦ absurd (false≢true h) ]);
    log = r.log;
  }

-- the clause that propagation names is in use
pub clash_on : (rules : List (List ℤ)) (used : ℕ → Bool) (lits : List ℤ) (o : Option ℕ) (rule : ℕ) → Propagated rules used lits o → o ≡ Some rule → used rule ≡ true
clash_on rules used lits (Some r) rule (clash _ c u f) e = ap used (sym (ap (λ v. unwrap_or v r) e)) ∙ u.on
clash_on rules used lits None rule (rest h) e = absurd (cc)

-- and is a rule
pub clash_within : (rules : List (List ℤ)) (used : ℕ → Bool) (lits : List ℤ) (o : Option ℕ) (rule : ℕ) → Propagated rules used lits o → o ≡ Some rule → rule < length rules
clash_within rules used lits (Some r) rule (clash _ c u f) e =
    let P : ℕ → Type 0 = λ n. n < length rules in
    subst P (ap (λ v. unwrap_or v r) e) (slice_get_within rules r c u.found)
clash_within rules used lits None rule (rest h) e = absurd (cc)
