-- What rules add to the rows of jobs and of packages.
use Rattle.std.proofs.Common.{◌≡◌, ◌+◌, ◌<◌, ◌≤◌, not, ◌&&◌, ℕ, zero, suc, Bool, true, false, cond, List, [], ◌∷◌, ◌++◌, map, length, refl, sym, ap, ◌∙◌, arith, add-one, append_assoc, append-nil, eq-eqb}
use Rattle.std.specs.Prelude.{filter, flat_map, ◌==◌, nat_le}
use Rattle.std.specs.List.{list_all, enumerate_from, range_with_len}
use Rattle.solv_pool.specs.Prelude.{when, packages, is_installed, is_to_move, HardRule, rule_with, install, best_job, best_update, update, dup, feature}
use Rattle.solv_pool.specs.declared.hard_rules.Rule.{Rule}
use Rattle.solv_pool.specs.declared.hard_rules.Rule.TheVariants as rule
use Rattle.solv_pool.specs.declared.jobs.Job.{Job}
use Rattle.solv_trail.specs.declared.questions.Question.TheVariants as question
use Rattle.solv_questions.specs.Questions.{Request, is_update_of, is_feature_of}
use Rattle.solv_plan.specs.Inner.PlanOf.{demand_of, best_job_demand, job_demand, best_update_demand, demands_of_job, numbers_of, keep_of, keeps_of}
use Rattle.solv_plan.specs.declared.plans.Demand.{Demand}
use Rattle.solv_planning.specs.declared.demands.JobDemands.{JobDemands}
use Rattle.solv_planning.specs.declared.keeps.PackRules.{PackRules}
use Rattle.solv_planning.specs.Inner.Filling.{with_each, filled, entered}
use Rattle.solv_planning.specs.Inner.Rows.{no_demands, no_rules, add_to_job, add_to_pack, keep_with, is_marked, is_other}
use Rattle.solv_planning.proofs.Tables.{filled_made, entered_apart}
use Rattle.solv_list.proofs.Booleans.{first_of_both, second_of_both}
use Rattle.solv_list.proofs.Lists.{range_within}
use Rattle.std.proofs.lemmas.Bool.{and_from}

-- jobs
module _ (r : Request) where
  job_row : (row : JobDemands) (b o : List Demand) → b ≡ [] → o ≡ [] → record { best = row.best ++ b; own = row.own ++ o } ≡ row
  job_row row b o e f =
      let whole : JobDemands → List Demand → List Demand → JobDemands = λ w x y. record { best = x; own = y } in
      ap (λ t. whole row (row.best ++ t) (row.own ++ o)) e ∙ ap (λ t. whole row t (row.own ++ o)) (append-nil row.best)
      ∙ ap (λ t. whole row row.best (row.own ++ t)) f ∙ ap (λ t. whole row row.best t) (append-nil row.own)

  pub best_elsewhere : (i k : ℕ) (xs : List ℕ) (n : ℕ) (row : JobDemands) → (k == n) ≡ false → add_to_job r n (i, best_job k xs) row ≡ row
  best_elsewhere i k xs n row apart = job_row row (when (k == n) (demand_of r i (question.BestJob n) xs ∷ [])) [] (ap (λ b. when b (demand_of r i (question.BestJob n) xs ∷ [])) apart) refl

  pub own_elsewhere : (i k : ℕ) (xs : List ℕ) (n : ℕ) (row : JobDemands) → (k == n) ≡ false → add_to_job r n (i, install k xs) row ≡ row
  own_elsewhere i k xs n row apart = job_row row [] (when (k == n) (demand_of r i (question.Job n) xs ∷ [])) refl (ap (λ b. when b (demand_of r i (question.Job n) xs ∷ [])) apart)

  pub best_here : (i k : ℕ) (xs : List ℕ) (row : JobDemands) → add_to_job r k (i, best_job k xs) row ≡ record { best = row.best ++ demand_of r i (question.BestJob k) xs ∷ []; own = row.own }
  best_here i k xs row =
      let same : (k == k) ≡ true = eq-eqb k k refl in
      let whole : List Demand → List Demand → JobDemands = λ x y. record { best = x; own = y } in
      ap (λ b. whole (row.best ++ when b (demand_of r i (question.BestJob k) xs ∷ [])) (row.own ++ [])) same ∙ ap (λ t. whole (row.best ++ demand_of r i (question.BestJob k) xs ∷ []) t) (append-nil row.own)

  pub own_here : (i k : ℕ) (xs : List ℕ) (row : JobDemands) → add_to_job r k (i, install k xs) row ≡ record { best = row.best; own = row.own ++ demand_of r i (question.Job k) xs ∷ [] }
  own_here i k xs row =
      let same : (k == k) ≡ true = eq-eqb k k refl in
      let whole : List Demand → List Demand → JobDemands = λ x y. record { best = x; own = y } in
      ap (λ b. whole (row.best ++ []) (row.own ++ when b (demand_of r i (question.Job k) xs ∷ []))) same ∙ ap (λ t. whole t (row.own ++ demand_of r i (question.Job k) xs ∷ [])) (append-nil row.best)

  -- a rule that is of no job adds nothing
  pub none_of_job : (i n : ℕ) (x : HardRule) (row : JobDemands) → best_job_demand r n i x ≡ [] → job_demand r n i x ≡ [] → add_to_job r n (i, x) row ≡ row
  none_of_job i n x row e f = job_row row (best_job_demand r n i x) (job_demand r n i x) e f

  best_of_row : (j : ℕ) (xs : List (ℕ × HardRule)) (row : JobDemands) → (with_each (add_to_job r) j xs row).best ≡ row.best ++ flat_map (λ x. best_job_demand r j x.0 x.1) xs
  best_of_row j [] row = sym (append-nil row.best)
  best_of_row j (x ∷ xs) row = best_of_row j xs (add_to_job r j x row) ∙ append_assoc row.best (best_job_demand r j x.0 x.1) (flat_map (λ x. best_job_demand r j x.0 x.1) xs)

  own_of_row : (j : ℕ) (xs : List (ℕ × HardRule)) (row : JobDemands) → (with_each (add_to_job r) j xs row).own ≡ row.own ++ flat_map (λ x. job_demand r j x.0 x.1) xs
  own_of_row j [] row = sym (append-nil row.own)
  own_of_row j (x ∷ xs) row = own_of_row j xs (add_to_job r j x row) ∙ append_assoc row.own (job_demand r j x.0 x.1) (flat_map (λ x. job_demand r j x.0 x.1) xs)

  pub jobs_in_a_row : (xs : List (ℕ × HardRule)) (n : ℕ) (jobs : List Job)
      → flat_map (λ row. row.best ++ row.own) (filled (add_to_job r) n xs (map (λ _. no_demands) jobs)) ≡ flat_map (λ job. demands_of_job r xs job.0) (enumerate_from n jobs)
  jobs_in_a_row xs n [] = refl
  jobs_in_a_row xs n (job ∷ jobs) =
      let rest : List Demand = flat_map (λ row. row.best ++ row.own) (filled (add_to_job r) (suc n) xs (map (λ _. no_demands) jobs)) in
      ap (λ b. (b ++ (with_each (add_to_job r) n xs no_demands).own) ++ rest) (best_of_row n xs no_demands)
      ∙ ap (λ o. (flat_map (λ x. best_job_demand r n x.0 x.1) xs ++ o) ++ rest) (own_of_row n xs no_demands)
      ∙ ap (λ t. demands_of_job r xs n ++ t) (jobs_in_a_row xs (suc n) jobs ∙ ap (λ m. flat_map (λ job. demands_of_job r xs job.0) (enumerate_from m jobs)) (sym (add-one n)))

-- numbers that pass a test are among the first ones, where none after them does
none_pass : (test : ℕ → Bool) (from count : ℕ) → ((p : ℕ) → from ≤ p → p < from + count → test p ≡ false) → filter test (range_with_len from count) ≡ []
none_pass test from zero none = refl
none_pass test from (suc count) none =
    ap (λ b. cond b (from ∷ filter test (range_with_len (from + 1) count)) (filter test (range_with_len (from + 1) count))) (none from (omega arith) (omega arith))
    ∙ none_pass test (from + 1) count (λ p low high. none p (omega (arith, low)) (omega (arith, high)))

front_passes : (test : ℕ → Bool) (from few all : ℕ) → few ≤ all → ((p : ℕ) → from + few ≤ p → p < from + all → test p ≡ false) → filter test (range_with_len from few) ≡ filter test (range_with_len from all)
front_passes test from zero all h none = sym (none_pass test from all (λ p low high. none p (omega (arith, low)) high))
front_passes test from (suc few) zero h none = absurd (omega (arith, h))
front_passes test from (suc few) (suc all) h none =
    ap (λ l. cond (test from) (from ∷ l) l) (front_passes test (from + 1) few all (omega (arith, h)) (λ p low high. none p (omega (arith, low)) (omega (arith, high))))

-- packages
abbrev rules_on : ℕ → List Demand → List ℕ → List ℕ → PackRules
rules_on p b u f = record { pack = p; best = b; updates = u; features = f }

module _ (r : Request) where
  pack_row : (row : PackRules) (b : List Demand) (u f : List ℕ) → b ≡ [] → u ≡ [] → f ≡ [] → rules_on row.pack (row.best ++ b) (row.updates ++ u) (row.features ++ f) ≡ row
  pack_row row b u f eb eu ef =
      ap (λ t. rules_on row.pack (row.best ++ t) (row.updates ++ u) (row.features ++ f)) eb
      ∙ ap (λ t. rules_on row.pack t (row.updates ++ u) (row.features ++ f)) (append-nil row.best)
      ∙ ap (λ t. rules_on row.pack row.best (row.updates ++ t) (row.features ++ f)) eu
      ∙ ap (λ t. rules_on row.pack row.best t (row.features ++ f)) (append-nil row.updates)
      ∙ ap (λ t. rules_on row.pack row.best row.updates (row.features ++ t)) ef
      ∙ ap (λ t. rules_on row.pack row.best row.updates t) (append-nil row.features)

  pub none_on_pack : (i n : ℕ) (x : HardRule) (row : PackRules) → best_update_demand r n i x ≡ [] → is_update_of n x ≡ false → is_feature_of n x ≡ false → add_to_pack r n (i, x) row ≡ row
  none_on_pack i n x row e u f = pack_row row (best_update_demand r n i x) (when (is_update_of n x) (i ∷ [])) (when (is_feature_of n x) (i ∷ [])) e (ap (λ b. when b (i ∷ [])) u) (ap (λ b. when b (i ∷ [])) f)

  pub update_elsewhere : (i k : ℕ) (xs : List ℕ) (n : ℕ) (row : PackRules) → (k == n) ≡ false → add_to_pack r n (i, update k xs) row ≡ row
  update_elsewhere i k xs n row apart = none_on_pack i n (update k xs) row refl apart refl

  pub dup_elsewhere : (i k : ℕ) (xs : List ℕ) (n : ℕ) (row : PackRules) → (k == n) ≡ false → add_to_pack r n (i, dup k xs) row ≡ row
  dup_elsewhere i k xs n row apart = none_on_pack i n (dup k xs) row refl apart refl

  pub feature_elsewhere : (i k : ℕ) (xs : List ℕ) (n : ℕ) (row : PackRules) → (k == n) ≡ false → add_to_pack r n (i, feature k xs) row ≡ row
  feature_elsewhere i k xs n row apart = none_on_pack i n (feature k xs) row refl refl apart

  pub update_best_elsewhere : (i j k : ℕ) (xs : List ℕ) (n : ℕ) (row : PackRules) → (k == n) ≡ false → add_to_pack r n (i, best_update j k xs) row ≡ row
  update_best_elsewhere i j k xs n row apart = none_on_pack i n (best_update j k xs) row (ap (λ b. when b (demand_of r i (question.BestUpdate j n) xs ∷ [])) apart) refl refl

  pub update_here : (i k : ℕ) (xs : List ℕ) (row : PackRules) → add_to_pack r k (i, update k xs) row ≡ rules_on row.pack row.best (row.updates ++ i ∷ []) row.features
  update_here i k xs row =
      ap (λ b. rules_on row.pack (row.best ++ []) (row.updates ++ when b (i ∷ [])) (row.features ++ [])) (eq-eqb k k refl)
      ∙ ap (λ t. rules_on row.pack t (row.updates ++ i ∷ []) (row.features ++ [])) (append-nil row.best)
      ∙ ap (λ t. rules_on row.pack row.best (row.updates ++ i ∷ []) t) (append-nil row.features)

  pub dup_here : (i k : ℕ) (xs : List ℕ) (row : PackRules) → add_to_pack r k (i, dup k xs) row ≡ rules_on row.pack row.best (row.updates ++ i ∷ []) row.features
  dup_here i k xs row = update_here i k xs row

  pub feature_here : (i k : ℕ) (xs : List ℕ) (row : PackRules) → add_to_pack r k (i, feature k xs) row ≡ rules_on row.pack row.best row.updates (row.features ++ i ∷ [])
  feature_here i k xs row =
      ap (λ b. rules_on row.pack (row.best ++ []) (row.updates ++ []) (row.features ++ when b (i ∷ []))) (eq-eqb k k refl)
      ∙ ap (λ t. rules_on row.pack t (row.updates ++ []) (row.features ++ i ∷ [])) (append-nil row.best)
      ∙ ap (λ t. rules_on row.pack row.best t (row.features ++ i ∷ [])) (append-nil row.updates)

  pub update_best_here : (i j k : ℕ) (xs : List ℕ) (row : PackRules) → add_to_pack r k (i, best_update j k xs) row ≡ rules_on row.pack (row.best ++ demand_of r i (question.BestUpdate j k) xs ∷ []) row.updates row.features
  update_best_here i j k xs row =
      ap (λ b. rules_on row.pack (row.best ++ when b (demand_of r i (question.BestUpdate j k) xs ∷ [])) (row.updates ++ []) (row.features ++ [])) (eq-eqb k k refl)
      ∙ ap (λ t. rules_on row.pack (row.best ++ demand_of r i (question.BestUpdate j k) xs ∷ []) t (row.features ++ [])) (append-nil row.updates)
      ∙ ap (λ t. rules_on row.pack (row.best ++ demand_of r i (question.BestUpdate j k) xs ∷ []) row.updates t) (append-nil row.features)

  pub pack_of_row : (p : ℕ) (xs : List (ℕ × HardRule)) (row : PackRules) → (with_each (add_to_pack r) p xs row).pack ≡ row.pack
  pack_of_row p [] row = refl
  pack_of_row p (x ∷ xs) row = pack_of_row p xs (add_to_pack r p x row)

  best_on_row : (p : ℕ) (xs : List (ℕ × HardRule)) (row : PackRules) → (with_each (add_to_pack r) p xs row).best ≡ row.best ++ flat_map (λ x. best_update_demand r p x.0 x.1) xs
  best_on_row p [] row = sym (append-nil row.best)
  best_on_row p (x ∷ xs) row = best_on_row p xs (add_to_pack r p x row) ∙ append_assoc row.best (best_update_demand r p x.0 x.1) (flat_map (λ x. best_update_demand r p x.0 x.1) xs)

  numbers_more : (test : HardRule → Bool) (x : ℕ × HardRule) (xs : List (ℕ × HardRule)) → when (test x.1) (x.0 ∷ []) ++ numbers_of test xs ≡ numbers_of test (x ∷ xs)
  numbers_more test x xs = step (test x.1)
    where
      step : (b : Bool) → when b (x.0 ∷ []) ++ numbers_of test xs ≡ map (λ y. y.0) (cond b (x ∷ filter (λ y. test y.1) xs) (filter (λ y. test y.1) xs))
      step true = refl
      step false = refl

  updates_on_row : (p : ℕ) (xs : List (ℕ × HardRule)) (row : PackRules) → (with_each (add_to_pack r) p xs row).updates ≡ row.updates ++ numbers_of (is_update_of p) xs
  updates_on_row p [] row = sym (append-nil row.updates)
  updates_on_row p (x ∷ xs) row =
      updates_on_row p xs (add_to_pack r p x row) ∙ append_assoc row.updates (when (is_update_of p x.1) (x.0 ∷ [])) (numbers_of (is_update_of p) xs) ∙ ap (λ t. row.updates ++ t) (numbers_more (is_update_of p) x xs)

  features_on_row : (p : ℕ) (xs : List (ℕ × HardRule)) (row : PackRules) → (with_each (add_to_pack r) p xs row).features ≡ row.features ++ numbers_of (is_feature_of p) xs
  features_on_row p [] row = sym (append-nil row.features)
  features_on_row p (x ∷ xs) row =
      features_on_row p xs (add_to_pack r p x row) ∙ append_assoc row.features (when (is_feature_of p x.1) (x.0 ∷ [])) (numbers_of (is_feature_of p) xs) ∙ ap (λ t. row.features ++ t) (numbers_more (is_feature_of p) x xs)

  row_keeps : (p : ℕ) (xs : List (ℕ × HardRule)) → keep_with r (with_each (add_to_pack r) p xs (no_rules p)) ≡ keep_of r xs p
  row_keeps p xs =
      let w : PackRules = with_each (add_to_pack r) p xs (no_rules p) in
      let whole : w ≡ rules_on p (flat_map (λ x. best_update_demand r p x.0 x.1) xs) (numbers_of (is_update_of p) xs) (numbers_of (is_feature_of p) xs) =
      ap (λ t. rules_on t w.best w.updates w.features) (pack_of_row p xs (no_rules p))
      ∙ ap (λ t. rules_on p t w.updates w.features) (best_on_row p xs (no_rules p))
      ∙ ap (λ t. rules_on p (flat_map (λ x. best_update_demand r p x.0 x.1) xs) t w.features) (updates_on_row p xs (no_rules p))
      ∙ ap (λ t. rules_on p (flat_map (λ x. best_update_demand r p x.0 x.1) xs) (numbers_of (is_update_of p) xs) t) (features_on_row p xs (no_rules p)) in
      ap (keep_with r) whole

  rows_keep : (test : ℕ → Bool) (xs : List (ℕ × HardRule)) (ps : List ℕ)
      → map (keep_with r) (filter (λ row. test row.pack) (map (λ p. with_each (add_to_pack r) p xs (no_rules p)) ps)) ≡ map (keep_of r xs) (filter test ps)
  rows_keep test xs [] = refl
  rows_keep test xs (p ∷ ps) =
      let w : PackRules = with_each (add_to_pack r) p xs (no_rules p) in
      let more : List PackRules = filter (λ row. test row.pack) (map (λ p. with_each (add_to_pack r) p xs (no_rules p)) ps) in
      ap (λ n. map (keep_with r) (cond (test n) (w ∷ more) more)) (pack_of_row p xs (no_rules p)) ∙ step (test p) (rows_keep test xs ps)
    where
      step : (b : Bool) → map (keep_with r) (filter (λ row. test row.pack) (map (λ p. with_each (add_to_pack r) p xs (no_rules p)) ps)) ≡ map (keep_of r xs) (filter test ps)
          → map (keep_with r) (cond b (with_each (add_to_pack r) p xs (no_rules p) ∷ filter (λ row. test row.pack) (map (λ p. with_each (add_to_pack r) p xs (no_rules p)) ps)) (filter (λ row. test row.pack) (map (λ p. with_each (add_to_pack r) p xs (no_rules p)) ps)))
          ≡ map (keep_of r xs) (cond b (p ∷ filter test ps) (filter test ps))
      step true h = ap (λ k. k ∷ map (keep_with r) (filter (λ row. test row.pack) (map (λ p. with_each (add_to_pack r) p xs (no_rules p)) ps))) (row_keeps p xs) ∙ ap (λ t. keep_of r xs p ∷ t) h
      step false h = h

  -- the table of the system and the packages up to one, with what all rules add
  abbrev pub pack_rows : ℕ → List (ℕ × HardRule) → List PackRules
  pack_rows last xs = map (λ p. with_each (add_to_pack r) p xs (no_rules p)) (range_with_len 0 (last + 1))

  pub table_made : (last : ℕ) (xs : List (ℕ × HardRule)) → filled (add_to_pack r) 0 xs (map no_rules (range_with_len 0 (last + 1))) ≡ pack_rows last xs
  table_made last xs = filled_made (add_to_pack r) no_rules xs 0 (last + 1)

  -- where none is installed after that one, it tells of all that are
  module _ (last : ℕ) (within : last ≤ length r.catalog.universe.packages) (none : (p : ℕ) → last < p → p ≤ length r.catalog.universe.packages → is_installed r.catalog p ≡ false) where
    behind : (also : ℕ → Bool) → filter (λ p. is_installed r.catalog p && also p) (range_with_len 0 (last + 1)) ≡ filter (λ p. is_installed r.catalog p && also p) (packages r.catalog)
    behind also = front_passes (λ p. is_installed r.catalog p && also p) 0 (last + 1) (suc (length r.catalog.universe.packages)) (omega (arith, within))
        (λ p from upto. ap (λ b. b && also p) (none p (omega (arith, from)) (omega (arith, upto))))

    pub table_keeps : (xs : List (ℕ × HardRule)) → map (keep_with r) (filter (λ row. is_marked r row.pack) (pack_rows last xs)) ++ map (keep_with r) (filter (λ row. is_other r row.pack) (pack_rows last xs)) ≡ keeps_of r xs
    table_keeps xs =
        ap (λ t. t ++ map (keep_with r) (filter (λ row. is_other r row.pack) (pack_rows last xs))) (rows_keep (is_marked r) xs (range_with_len 0 (last + 1)) ∙ ap (map (keep_of r xs)) (behind (is_to_move r.marks)))
        ∙ ap (λ t. map (keep_of r xs) (filter (is_marked r) (packages r.catalog)) ++ t) (rows_keep (is_other r) xs (range_with_len 0 (last + 1)) ∙ ap (map (keep_of r xs)) (behind (λ p. not (is_to_move r.marks p))))

-- a rule that asks nothing of a job adds to no row
pub none_of_jobs : (r : Request) (i : ℕ) (sets : List (List ℕ)) (x : Rule) → ((j s : ℕ) → x ≡ rule.BestJob j s → ⊥) → ((j s : ℕ) → x ≡ rule.Install j s → ⊥) → (rows : List JobDemands) → rows ≡ entered (add_to_job r) 0 (i, rule_with sets x) rows
none_of_jobs r i sets (rule.Install j s) best own rows = absurd (own j s refl)
none_of_jobs r i sets (rule.BestJob j s) best own rows = absurd (best j s refl)
none_of_jobs r i sets x best own rows = sym (entered_apart _ _ 0 rows (λ m row from upto. none_of_job r i m (rule_with sets x) row refl refl))

-- nor does one that is on no package add to the row of one
pub none_on_packs : (r : Request) (i : ℕ) (sets : List (List ℕ)) (x : Rule) → ((p s : ℕ) → x ≡ rule.Update p s → ⊥) → ((p s : ℕ) → x ≡ rule.Dup p s → ⊥) → ((p s : ℕ) → x ≡ rule.Feature p s → ⊥) → ((j p s : ℕ) → x ≡ rule.BestUpdate j p s → ⊥) → (rows : List PackRules) → rows ≡ entered (add_to_pack r) 0 (i, rule_with sets x) rows
none_on_packs r i sets (rule.Update p s) updates dups features best rows = absurd (updates p s refl)
none_on_packs r i sets (rule.Dup p s) updates dups features best rows = absurd (dups p s refl)
none_on_packs r i sets (rule.Feature p s) updates dups features best rows = absurd (features p s refl)
none_on_packs r i sets (rule.BestUpdate j p s) updates dups features best rows = absurd (best j p s refl)
none_on_packs r i sets x updates dups features best rows = sym (entered_apart _ _ 0 rows (λ m row from upto. none_on_pack r i m (rule_with sets x) row refl refl refl))

-- every row is that of the system or of a package
pub rows_within : (r : Request) (last : ℕ) (xs : List (ℕ × HardRule)) → last ≤ length r.catalog.universe.packages → list_all (λ row. nat_le row.pack (length r.catalog.universe.packages)) (pack_rows r last xs) ≡ true
rows_within r last xs few = within (range_with_len 0 (last + 1)) (range_within 0 (last + 1) (length r.catalog.universe.packages) (omega (arith, few)))
  where
    within : (ps : List ℕ) → list_all (λ p. nat_le p (length r.catalog.universe.packages)) ps ≡ true
        → list_all (λ row. nat_le row.pack (length r.catalog.universe.packages)) (map (λ p. with_each (add_to_pack r) p xs (no_rules p)) ps) ≡ true
    within [] h = refl
    within (p ∷ ps) h =
        and_from (nat_le (with_each (add_to_pack r) p xs (no_rules p)).pack (length r.catalog.universe.packages)) _
        (ap (λ n. nat_le n (length r.catalog.universe.packages)) (pack_of_row r p xs (no_rules p)) ∙ first_of_both (nat_le p (length r.catalog.universe.packages)) _ h)
        (within ps (second_of_both (nat_le p (length r.catalog.universe.packages)) _ h))
