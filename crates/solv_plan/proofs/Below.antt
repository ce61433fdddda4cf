-- Packages below a number, of each of which all is met.
use Rattle.std.proofs.Common.{◌≡◌, ℕ, ◌+◌, ◌<◌, Bool, true, false, ◌||◌, List, [], ◌∷◌, ◌++◌, length, take, get_or, Some, None, inl, inr, refl, sym, ap, ◌∙◌, arith}
use Rattle.std.specs.Prelude.{ℤ, pos, filter, ◌==◌}
use Rattle.std.specs.Ordering.{int_eq}
use Rattle.std.specs.List.{list_all}
use Rattle.std.proofs.lemmas.Bool.{and_parts, and_from, cases_lt}
use Rattle.std.proofs.lemmas.List.{take_more}
use Rattle.std.proofs.lemmas.List.Folds.{list_any-append}
use Rattle.solv_list.proofs.Booleans.{or_false}
use Rattle.solv_list.proofs.Numbers.{same_integer}
use Rattle.solv_pool.specs.Prelude.{is_fact}
use Rattle.solv_trail.specs.Inner.Numbers.{has}
use Rattle.solv_plan.specs.declared.plans.Relations.{Relations}
use Rattle.solv_plan.specs.declared.plans.Want.{Want}
use Rattle.solv_plan.specs.declared.settled.Entry.{Entry}
use Rattle.solv_plan.specs.Inner.Entries.{is_settled, are_right}
use Rattle.solv_plan.specs.Inner.Settling.{want_settled, wants_settled, Fits, IsNextOpen, known_in, AreMetBelow}
use Rattle.solv_plan.proofs.Recalled.{want_more, remembered}

-- what is met by some packages is met by more
pub all_more : (relations : Relations) (r s : ℕ → Bool) → ((p : ℕ) → r p ≡ true → s p ≡ true) → (ws : List Want) → list_all (want_settled relations r) ws ≡ true → list_all (want_settled relations s) ws ≡ true
all_more relations r s more [] h = refl
all_more relations r s more (w ∷ ws) h =
    let both = and_parts (want_settled relations r w) (list_all (want_settled relations r) ws) h in
    and_from (want_settled relations s w) (list_all (want_settled relations s) ws) (want_more relations r s more w both.0) (all_more relations r s more ws both.1)

module _ (relations : Relations) (wants : List Want) (lits : List ℤ) where
  -- one more package
  pub below_one : (n : ℕ) → AreMetBelow relations wants lits n → list_all (want_settled relations (known_in lits)) (filter (λ w. w.pack == n) wants) ≡ true → AreMetBelow relations wants lits (n + 1)
  below_one n below met = λ k some low h. elim (cases_lt k n) [
    | inl before ↦ below k some before h
    | inr after ↦ let e : k ≡ n = omega arith in ap (wants_settled relations wants (known_in lits)) e ∙ met
  ]

  module _ (numbers : List ℕ) (ins : (k : ℕ) → has numbers k ≡ is_fact lits (pos k)) (entries : List Entry) (right : are_right (wants_settled relations wants) entries ≡ true) (fits : Fits (is_fact lits) entries) where
    -- of a package that is settled all is met
    settled_is_met : (k : ℕ) → is_settled entries k ≡ true → wants_settled relations wants (known_in lits) k ≡ true
    settled_is_met k h =
        let s = remembered (is_fact lits) (wants_settled relations wants) entries k right fits h in
        all_more relations s.0 (known_in lits) s.1 (filter (λ w. w.pack == k) wants) s.2

    pub below_next : (from n : ℕ) → AreMetBelow relations wants lits from → IsNextOpen numbers entries from (Some n) → AreMetBelow relations wants lits n
    below_next from n below next = λ k some low h. elim (cases_lt k from) [
      | inl before ↦ below k some before h
      | inr after ↦ settled_is_met k (next.2 k after low (ins k ∙ h))
    ]

    pub below_all : (from n : ℕ) → AreMetBelow relations wants lits from → IsNextOpen numbers entries from None → AreMetBelow relations wants lits n
    below_all from n below next = λ k some low h. elim (cases_lt k from) [
      | inl before ↦ below k some before h
      | inr after ↦ settled_is_met k (next k after (ins k ∙ h))
    ]

-- a package with a number below those that came in from a place on, by one literal more
pub one_seen : (lits : List ℤ) (place : ℕ) (l : ℤ) (n k : ℕ) → place < length lits → get_or lits place (pos 0) ≡ l → ((m : ℕ) → l ≡ pos m → n ≡ m) → k < n
    → is_fact (take (place + 1) lits) (pos k) ≡ true → is_fact (take place lits) (pos k) ≡ true
one_seen lits place l n k small is number low h =
    go (int_eq (pos k) l) refl (is_fact (take place lits) (pos k)) refl
    (sym (ap (λ v. is_fact v (pos k)) (take_more lits place (pos 0) small ∙ ap (λ x. take place lits ++ x ∷ []) is)
    ∙ list_any-append (int_eq (pos k)) (take place lits) (l ∷ []) ∙ ap (λ b. is_fact (take place lits) (pos k) || b) (or_false (int_eq (pos k) l)))
    ∙ h)
  where
    go : (b : Bool) → int_eq (pos k) l ≡ b → (f : Bool) → is_fact (take place lits) (pos k) ≡ f → (f || b) ≡ true → is_fact (take place lits) (pos k) ≡ true
    go true e f g both = absurd (let same : n ≡ k = number k (sym (same_integer (pos k) l e)) in omega arith)
    go false e true g both = g
    go false e false g both = absurd (cc)
