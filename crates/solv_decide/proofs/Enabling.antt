-- The clauses of enabled rules, by their owners.
use Rattle.std.proofs.Common.{◌≡◌, ◌≤◌, ◌+◌, ℕ, zero, suc, Bool, true, false, List, [], ◌∷◌, ◌++◌, Some, inl, inr, refl, ap, ◌∙◌, arith, if◌then◌else◌}
use Rattle.std.specs.Prelude.{ℤ, flat_map, length, replicate, slice_get, nat_lt, unwrap_or}
use Rattle.std.specs.List.{list_all}
use Rattle.std.proofs.lemmas.Bool.{and_from, lt-ltb, false≢true}
use Rattle.std.proofs.lemmas.List.{length-append, length-replicate}
use Rattle.solv_pool.specs.Prelude.{Catalog, rule_clauses, HardRule}
use Rattle.solv_trail.specs.Asked.{is_enabled, enabled_clauses}
use Rattle.solv_trail.specs.Propagated.{in_use}
use Rattle.solv_rules.specs.Books.{owners_from}
use Rattle.solv_questions.specs.Questions.{enabled_from}
use Rattle.solv_pool.proofs.Members.{Has}
use Rattle.solv_list.proofs.Lists.{list_all_join}

module _ (catalog : Catalog) (enabled : List Bool) where
  abbrev cl : HardRule → List (List ℤ)
  cl r = rule_clauses catalog r

  -- the clauses of one rule, before those of others
  block : (k : ℕ) (cs rest : List (List ℤ)) (owners : List ℕ) → enabled_clauses enabled (cs ++ rest) (replicate (length cs) k ++ owners) ≡ (if is_enabled enabled k then cs ++ enabled_clauses enabled rest owners else enabled_clauses enabled rest owners)
  block k [] rest owners = step (is_enabled enabled k)
    where
      step : (b : Bool) → enabled_clauses enabled rest owners ≡ (if b then enabled_clauses enabled rest owners else enabled_clauses enabled rest owners)
      step true = refl
      step false = refl
  block k (c ∷ cs) rest owners = step (is_enabled enabled k) refl (block k cs rest owners)
    where
      step : (b : Bool) → is_enabled enabled k ≡ b
          → enabled_clauses enabled (cs ++ rest) (replicate (length cs) k ++ owners) ≡ (if is_enabled enabled k then cs ++ enabled_clauses enabled rest owners else enabled_clauses enabled rest owners)
          → (if b then c ∷ enabled_clauses enabled (cs ++ rest) (replicate (length cs) k ++ owners) else enabled_clauses enabled (cs ++ rest) (replicate (length cs) k ++ owners))
          ≡ (if b then c ∷ (cs ++ enabled_clauses enabled rest owners) else enabled_clauses enabled rest owners)
      step true e h = ap (λ l. c ∷ l) (h ∙ ap (λ t. if t then cs ++ enabled_clauses enabled rest owners else enabled_clauses enabled rest owners) e)
      step false e h = h ∙ ap (λ t. if t then cs ++ enabled_clauses enabled rest owners else enabled_clauses enabled rest owners) e

  pub clauses_are : (k : ℕ) (rules : List HardRule) → enabled_clauses enabled (flat_map cl rules) (owners_from catalog k rules) ≡ flat_map cl (enabled_from enabled k rules)
  clauses_are k [] = refl
  clauses_are k (r ∷ rules) = block k (cl r) (flat_map cl rules) (owners_from catalog (suc k) rules) ∙ step (is_enabled enabled k) (clauses_are (suc k) rules)
    where
      step : (b : Bool) → enabled_clauses enabled (flat_map cl rules) (owners_from catalog (suc k) rules) ≡ flat_map cl (enabled_from enabled (suc k) rules)
          → (if b then cl r ++ enabled_clauses enabled (flat_map cl rules) (owners_from catalog (suc k) rules) else enabled_clauses enabled (flat_map cl rules) (owners_from catalog (suc k) rules))
          ≡ flat_map cl (if b then r ∷ enabled_from enabled (suc k) rules else enabled_from enabled (suc k) rules)
      step true h = ap (λ l. cl r ++ l) h
      step false h = h

  -- a clause whose owner is enabled is one of the enabled ones
  pub used_there : (clauses : List (List ℤ)) (owners : List ℕ) (rule : ℕ) (c : List ℤ) → length owners ≡ length clauses → in_use owners enabled rule ≡ true → slice_get clauses rule ≡ Some c → Has (enabled_clauses enabled clauses owners) c
  used_there [] owners rule c e u s = absurd (cc)
  used_there (d ∷ clauses) [] rule c e u s = absurd (omega (arith, e))
  used_there (d ∷ clauses) (o ∷ owners) zero c e u s = first (is_enabled enabled o) u
    where
      first : (b : Bool) → b ≡ true → Has (if b then d ∷ enabled_clauses enabled clauses owners else enabled_clauses enabled clauses owners) c
      first true h = inl (ap (λ x. unwrap_or x d) s)
      first false h = absurd (false≢true h)
  used_there (d ∷ clauses) (o ∷ owners) (suc rule) c e u s = later (is_enabled enabled o) (used_there clauses owners rule c (omega (arith, e)) u s)
    where
      later : (b : Bool) → Has (enabled_clauses enabled clauses owners) c → Has (if b then d ∷ enabled_clauses enabled clauses owners else enabled_clauses enabled clauses owners) c
      later true h = inr h
      later false h = h

-- as many owners as clauses
module _ (catalog : Catalog) where
  pub lengths_are : (k : ℕ) (rules : List HardRule) → length (owners_from catalog k rules) ≡ length (flat_map (rule_clauses catalog) rules)
  lengths_are k [] = refl
  lengths_are k (r ∷ rules) =
      let owners = length-append (replicate (length (rule_clauses catalog r)) k) (owners_from catalog (suc k) rules) in
      let own = length-replicate (length (rule_clauses catalog r)) k in
      let clauses = length-append (rule_clauses catalog r) (flat_map (rule_clauses catalog) rules) in
      let rest = lengths_are (suc k) rules in
      omega (arith, owners, own, clauses, rest)

  all_one : (test : ℕ → Bool) (n k : ℕ) → test k ≡ true → list_all test (replicate n k) ≡ true
  all_one test zero k h = refl
  all_one test (suc n) k h = and_from (test k) (list_all test (replicate n k)) h (all_one test n k h)

  -- each owner is the number of a rule
  pub owners_below : (m k : ℕ) (rules : List HardRule) → k + length rules ≤ m → list_all (λ o. nat_lt o m) (owners_from catalog k rules) ≡ true
  owners_below m k [] h = refl
  owners_below m k (r ∷ rules) h =
      list_all_join (λ o. nat_lt o m) (replicate (length (rule_clauses catalog r)) k) (owners_from catalog (suc k) rules)
      (all_one (λ o. nat_lt o m) (length (rule_clauses catalog r)) k (lt-ltb k m (omega (arith, h))))
      (owners_below m (suc k) rules (omega (arith, h)))
