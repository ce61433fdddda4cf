-- The requirements and conflicts that have a rule are those that count, and what rules ask for are packages.
use Rattle.std.proofs.Common.{◌≡◌, ℕ, Bool, true, false, not, ◌&&◌, List, [], ◌∷◌, ◌++◌, map, length, Option, Some, None, refl, sym, ap, ◌∙◌}
use Rattle.std.specs.Prelude.{filter, flat_map, if◌then◌else◌}
use Rattle.std.specs.List.{list_all}
use Rattle.std.specs.Option.{option_map_or}
use Rattle.std.proofs.lemmas.Grind.{flat_map-append}
use Rattle.solv_pool.specs.Prelude.{when, is_among, packages, package_at, marked, is_pack, HardRule, not_installable, req, con, rich_con, obs, same, infarch, update, dup, feature, install, best_job, best_update, counted_requirements, conflict_rules, counted_rich_conflicts, obsoletion_rules, rules_asked_by, package_rules, infarch_rules, update_candidates, feature_candidates, successors, successor_rule, kept_packages, update_rules, feature_rules, rule_of_job, job_rules, best_job_rule, best_job_rules, best_update_rules}
use Rattle.solv_pool.specs.Best.{best}
use Rattle.solv_pool.specs.Inner.Best.{is_beaten}
use Rattle.solv_pool.specs.Installable.{is_installable}
use Rattle.solv_pool.specs.Selections.{selects, selection}
use Rattle.solv_pool.specs.JobKinds.{acts}
use Rattle.solv_pool.specs.declared.jobs.Action.TheVariants.{Install, Update}
use Rattle.solv_pool.specs.Inner.HardRules.{not_installable_rules, requirement_rules, conflicting, package_wise_conflicts, rich_conflict_rules, obsoleted, later_namesakes, same_name_rules, rules_of_package, inferior_packages, has_update_rule, numbered_jobs, selected_installed, best_update_rule}
use Rattle.solv_pool.specs.declared.packages.Package.{Package}
use Rattle.solv_pool.specs.declared.packages.Need.{Need}
use Rattle.solv_pool.specs.declared.jobs.Action.{Action}
use Rattle.solv_pool.specs.declared.jobs.Action.TheVariants as action
use Rattle.solv_questions.specs.Questions.{Request, rules_of}
use Rattle.solv_pool.proofs.Members.{all_by}
use Rattle.solv_questions.proofs.Origins.{IsFrom, is_from}
use Rattle.solv_plan.specs.Inner.PlanOf.{want_of, conflict_of, required_by}
use Rattle.solv_plan.proofs.Tables.{flat_flat, flat_alike}
use Rattle.solv_planning.specs.Inner.Readiness.{asks_for_packages}
use Rattle.solv_planning.specs.Inner.Rows.{wants_of}
use Rattle.std.proofs.lemmas.List.{append-nil}
use Rattle.solv_pool.proofs.Placed.{packs_of}

module _ (r : Request) where
  -- lists of rules by which nothing is asked for
  no_wants : {X : Type 0} (f : X → HardRule) → ((x : X) → wants_of r.catalog (f x) ≡ []) → (xs : List X) → flat_map (wants_of r.catalog) (map f xs) ≡ []
  no_wants f h [] = refl
  no_wants f h (x ∷ xs) = ap (λ t. t ++ flat_map (wants_of r.catalog) (map f xs)) (h x) ∙ no_wants f h xs

  none_flat : {X Y : Type 0} (f : X → List Y) → ((x : X) → f x ≡ []) → (xs : List X) → flat_map f xs ≡ []
  none_flat f h [] = refl
  none_flat f h (x ∷ xs) = ap (λ t. t ++ flat_map f xs) (h x) ∙ none_flat f h xs

  no_wants_each : {X : Type 0} (f : X → List HardRule) → ((x : X) → flat_map (wants_of r.catalog) (f x) ≡ []) → (xs : List X) → flat_map (wants_of r.catalog) (flat_map f xs) ≡ []
  no_wants_each f h xs = flat_flat (wants_of r.catalog) f xs ∙ none_flat (λ x. flat_map (wants_of r.catalog) (f x)) h xs

  no_wants_when : (b : Bool) (xs : List HardRule) → flat_map (wants_of r.catalog) xs ≡ [] → flat_map (wants_of r.catalog) (when b xs) ≡ []
  no_wants_when true xs h = h
  no_wants_when false xs h = refl

  -- a part after others that has none
  none_behind : (xs ys : List HardRule) → flat_map (wants_of r.catalog) ys ≡ [] → flat_map (wants_of r.catalog) (xs ++ ys) ≡ flat_map (wants_of r.catalog) xs
  none_behind xs ys h = flat_map-append (wants_of r.catalog) xs ys ∙ ap (λ t. flat_map (wants_of r.catalog) xs ++ t) h ∙ append-nil (flat_map (wants_of r.catalog) xs)

  none_before : (xs ys : List HardRule) → flat_map (wants_of r.catalog) xs ≡ [] → flat_map (wants_of r.catalog) (xs ++ ys) ≡ flat_map (wants_of r.catalog) ys
  none_before xs ys h = flat_map-append (wants_of r.catalog) xs ys ∙ ap (λ t. t ++ flat_map (wants_of r.catalog) ys) h

  required_wants : (p : ℕ) (needs : List Need) → flat_map (wants_of r.catalog) (map (λ need. req p need.dep) needs) ≡ map (λ need. want_of r.catalog p need.dep) needs
  required_wants p [] = refl
  required_wants p (need ∷ needs) = ap (λ t. want_of r.catalog p need.dep ∷ t) (required_wants p needs)

  conflict_wants : (p : ℕ) (ds : List ℕ) → flat_map (wants_of r.catalog) (map (rich_con p) ds) ≡ map (conflict_of r.catalog p) ds
  conflict_wants p [] = refl
  conflict_wants p (d ∷ ds) = ap (λ t. conflict_of r.catalog p d ∷ t) (conflict_wants p ds)

  asked_wants : (p : ℕ) (a : Package)
      → flat_map (wants_of r.catalog) (rules_asked_by r.catalog r.marks p a) ≡ map (λ need. want_of r.catalog p need.dep) (counted_requirements r.catalog r.marks p a) ++ map (conflict_of r.catalog p) (counted_rich_conflicts r.catalog r.marks p a)
  asked_wants p a =
      let one : List HardRule = not_installable_rules r.catalog p in
      let two : List HardRule = requirement_rules r.catalog r.marks p a in
      let three : List HardRule = conflict_rules r.catalog r.marks p a in
      let four : List HardRule = rich_conflict_rules r.catalog r.marks p a in
      let five : List HardRule = obsoletion_rules r.catalog r.marks p a in
      let six : List HardRule = same_name_rules r.catalog r.marks p in
      let needs : List Need = counted_requirements r.catalog r.marks p a in
      let front =
      none_behind (one ++ two) three (no_wants_each (λ d. map (con p d) (conflicting r.catalog r.marks p d)) (λ d. no_wants (con p d) (λ q. refl) (conflicting r.catalog r.marks p d)) (package_wise_conflicts r.catalog a))
      ∙ none_before one two (no_wants_when (not (is_installable r.catalog p)) (not_installable p ∷ []) refl)
      ∙ required_wants p needs in
      none_behind (one ++ two ++ three ++ four ++ five) six (no_wants (same p) (λ q. refl) (later_namesakes r.catalog r.marks p))
      ∙ none_behind (one ++ two ++ three ++ four) five (no_wants_each (λ d. map (obs p d) (obsoleted r.catalog r.marks p d)) (λ d. no_wants (obs p d) (λ q. refl) (obsoleted r.catalog r.marks p d)) a.obsoletes)
      ∙ flat_map-append (wants_of r.catalog) (one ++ two ++ three) four
      ∙ ap (λ t. t ++ flat_map (wants_of r.catalog) four) front
      ∙ ap (λ t. map (λ need. want_of r.catalog p need.dep) needs ++ t) (conflict_wants p (counted_rich_conflicts r.catalog r.marks p a))

  package_wants : (p : ℕ) → flat_map (wants_of r.catalog) (rules_of_package r.catalog r.marks p) ≡ required_by r p
  package_wants p = step (package_at r.catalog p)
    where
      step : (o : Option Package) → flat_map (wants_of r.catalog) (option_map_or (rules_asked_by r.catalog r.marks p) o [])
          ≡ option_map_or (λ a. map (λ need. want_of r.catalog p need.dep) (counted_requirements r.catalog r.marks p a) ++ map (conflict_of r.catalog p) (counted_rich_conflicts r.catalog r.marks p a)) o []
      step None = refl
      step (Some a) = asked_wants p a

  successor_wants : (p : ℕ) → wants_of r.catalog (successor_rule r.catalog r.flags r.marks p) ≡ []
  successor_wants p = either (marked r.marks.dup p) (successors r.catalog r.flags r.marks p)
    where
      either : (b : Bool) (xs : List ℕ) → wants_of r.catalog (if b then dup p xs else update p xs) ≡ []
      either true xs = refl
      either false xs = refl

  job_wants : (j : ℕ) (a : Action) (xs : List ℕ) → flat_map (wants_of r.catalog) (rule_of_job j a xs) ≡ []
  job_wants j action.Install xs = refl
  job_wants j _ xs = refl

  best_wants : (j : ℕ) (xs : List ℕ) → flat_map (wants_of r.catalog) (best_job_rule j xs) ≡ []
  best_wants j [] = refl
  best_wants j (x ∷ xs) = refl

  pub required_are : flat_map (wants_of r.catalog) (rules_of r) ≡ flat_map (required_by r) (packages r.catalog)
  required_are =
      let one : List HardRule = package_rules r.catalog r.marks in
      let two : List HardRule = infarch_rules r.catalog r.flags in
      let three : List HardRule = update_rules r.catalog r.flags r.marks r.jobs in
      let four : List HardRule = feature_rules r.catalog r.flags r.marks in
      let five : List HardRule = job_rules r.catalog r.jobs in
      let six : List HardRule = best_job_rules r.catalog r.jobs in
      let seven : List HardRule = best_update_rules r.catalog r.flags r.marks r.jobs in
      none_behind (one ++ two ++ three ++ four ++ five ++ six) seven (no_wants_each (λ job. when (acts Update job.1.action && job.1.forcebest) (map (best_update_rule r.catalog r.flags r.marks job.0) (selected_installed r.catalog job.1.choice)))
      (λ job. no_wants_when (acts Update job.1.action && job.1.forcebest) (map (best_update_rule r.catalog r.flags r.marks job.0) (selected_installed r.catalog job.1.choice)) (no_wants (best_update_rule r.catalog r.flags r.marks job.0) (λ p. refl) (selected_installed r.catalog job.1.choice))) (numbered_jobs r.jobs))
      ∙ none_behind (one ++ two ++ three ++ four ++ five) six (no_wants_each (λ job. when (acts Install job.1.action && job.1.forcebest) (best_job_rule job.0 (best r.catalog (selection r.catalog job.1.choice))))
      (λ job. no_wants_when (acts Install job.1.action && job.1.forcebest) (best_job_rule job.0 (best r.catalog (selection r.catalog job.1.choice))) (best_wants job.0 (best r.catalog (selection r.catalog job.1.choice)))) (numbered_jobs r.jobs))
      ∙ none_behind (one ++ two ++ three ++ four) five (no_wants_each (λ job. rule_of_job job.0 job.1.action (selection r.catalog job.1.choice)) (λ job. job_wants job.0 job.1.action (selection r.catalog job.1.choice)) (numbered_jobs r.jobs))
      ∙ none_behind (one ++ two ++ three) four (no_wants (λ p. feature p (feature_candidates r.catalog r.flags r.marks p)) (λ p. refl) (kept_packages r.catalog r.flags r.marks))
      ∙ none_behind (one ++ two) three (no_wants (successor_rule r.catalog r.flags r.marks) successor_wants (filter (has_update_rule r.catalog r.jobs r.marks) (kept_packages r.catalog r.flags r.marks)))
      ∙ none_behind one two (no_wants_when (not r.flags.no_infarch_check) (map infarch (inferior_packages r.catalog r.flags)) (no_wants infarch (λ p. refl) (inferior_packages r.catalog r.flags)))
      ∙ flat_flat (wants_of r.catalog) (rules_of_package r.catalog r.marks) (packages r.catalog)
      ∙ flat_alike (λ p. flat_map (wants_of r.catalog) (rules_of_package r.catalog r.marks p)) (required_by r) package_wants (packages r.catalog)

  best_packs : (xs : List ℕ) → list_all (is_pack (length r.catalog.universe.packages)) (best r.catalog xs) ≡ true
  best_packs xs = packs_of r.catalog (λ b. is_among xs b && (is_installable r.catalog b && not (is_beaten r.catalog xs b)))

  rule_asks : (x : HardRule) → IsFrom r x → asks_for_packages (length r.catalog.universe.packages) x ≡ true
  rule_asks (install j xs) own = ap (λ t. list_all (is_pack (length r.catalog.universe.packages)) t) (sym own.is) ∙ packs_of r.catalog (selects r.catalog own.job.choice)
  rule_asks (best_job j xs) own = ap (λ t. list_all (is_pack (length r.catalog.universe.packages)) t) (sym own.is) ∙ best_packs (selection r.catalog own.job.choice)
  rule_asks (best_update j p xs) own = ap (λ t. list_all (is_pack (length r.catalog.universe.packages)) t) (sym own.is) ∙ best_packs (update_candidates r.catalog r.flags r.marks p)
  rule_asks _ own = refl

  pub rules_ask : list_all (asks_for_packages (length r.catalog.universe.packages)) (rules_of r) ≡ true
  rules_ask = all_by (asks_for_packages (length r.catalog.universe.packages)) (rules_of r) (λ x h. rule_asks x (is_from r x h))
