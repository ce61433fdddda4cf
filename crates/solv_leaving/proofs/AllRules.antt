-- The rules that are made, and those of the packages that are left out, are no more than all rules.
use Rattle.std.proofs.Common.{◌≡◌, ◌≤◌, ◌+◌, ℕ, Bool, true, false, not, cond, List, [], ◌∷◌, ◌++◌, Option, Some, None, inl, inr, refl, sym, ◌∙◌, ap, subst, arith}
use Rattle.std.proofs.lemmas.Bool.{cases_Bool, false≢true}
use Rattle.std.specs.Prelude.{filter, flat_map, if◌then◌else◌}
use Rattle.std.specs.Option.{option_map_or}
use Rattle.solv_list.proofs.Booleans.{true_of_not}
use Rattle.solv_pool.specs.Prelude.{package_wise, passes, Catalog, packages, package_at, dependency, rule_clauses, words, words_of_all, conflict_rules, obsoletion_rules, rules_asked_by, package_rules, infarch_rules, update_rules, feature_rules, job_rules, best_job_rules, best_update_rules, hard_rules_by, marked, HardRule, req, shape_of}
use Rattle.solv_pool.specs.Counting.{requirement_counts}
use Rattle.solv_pool.specs.Inner.HardRules.{not_installable_rules, requirement_rules, rich_conflict_rules, same_name_rules, rules_of_package}
use Rattle.solv_pool.specs.declared.jobs.Job.{Job}
use Rattle.solv_pool.specs.declared.job_marks.Marks.{Marks}
use Rattle.solv_pool.specs.declared.packages.Package.{Package}
use Rattle.solv_pool.specs.declared.tasks.Flags.{Flags}
use Rattle.solv_pool.proofs.Members.{Has}
use Rattle.solv_rules.specs.Books.{rich_fault, overrun, first_fault}
use Rattle.solv_rules.specs.Inner.Books.{rule_fault}
use Rattle.solv_rules.specs.declared.fault.BookFault.{BookFault}
use Rattle.solv_rules.proofs.Fronts.{neither_fault}
use Rattle.solv_leaving.proofs.ClauseWords.{size, passes_no_limit}
use Rattle.solv_leaving.proofs.Totals.{total, total_is, total_join}
use Rattle.solv_leaving.specs.Inner.Leaving.{leaving}
use Rattle.solv_leaving.specs.Inner.Starting.{is_met_alone}
use Rattle.solv_leaving.specs.Inner.Fitting.{need_words, required_words, AllFit}
use Rattle.solv_leaving.proofs.RequiredWords.{words_alone, not_rich_alone, fewer_required}

-- 1 where there is a fault
abbrev faults : Option BookFault → ℕ
faults None = 0
faults (Some fault) = 1

no_fault : (o : Option BookFault) → faults o ≡ 0 → o ≡ None
no_fault None h = refl
no_fault (Some fault) h = absurd (cc)

nothing_in : {X : Type 0} (w : X → ℕ) (xs : List X) (x : X) → total w xs ≡ 0 → Has xs x → w x ≡ 0
nothing_in w [] x h there = absurd there
nothing_in w (y ∷ ys) x h (inl e) = subst (λ z. w z ≡ 0) e (omega (arith, h))
nothing_in w (y ∷ ys) x h (inr there) = nothing_in w ys x (omega (arith, h)) there

total_nothing : {X : Type 0} (xs : List X) → total (λ x. 0) xs ≡ 0
total_nothing [] = refl
total_nothing (x ∷ xs) = let rest = total_nothing xs in omega (arith, rest)

module _ (catalog : Catalog) where
  -- whether the dependency of a rule gives too many clauses
  abbrev rich : HardRule → ℕ
  rich r = faults (rich_fault catalog (shape_of r))

  none_rich : (before : ℕ) (rs : List HardRule) → first_fault catalog before rs ≡ None → total rich rs ≡ 0
  none_rich before [] h = refl
  none_rich before (r ∷ rs) h =
      let both = neither_fault (rule_fault catalog before r) (first_fault catalog (before + words_of_all (rule_clauses catalog r)) rs) h in
      let own = neither_fault (rich_fault catalog (shape_of r)) (overrun before (rule_clauses catalog r)) both.0 in
      let here : rich r ≡ 0 = ap faults own.0 in
      let rest = none_rich (before + words_of_all (rule_clauses catalog r)) rs both.1 in
      omega (arith, here, rest)

  words_by_rule : (rs : List HardRule) → total words (flat_map (rule_clauses catalog) rs) ≡ total (size catalog) rs
  words_by_rule [] = refl
  words_by_rule (r ∷ rs) =
      let both = total_join words (rule_clauses catalog r) (flat_map (rule_clauses catalog) rs) in
      let rest = words_by_rule rs in
      omega (arith, both, rest)

  module _ (flags : Flags) (jobs : List Job) (marks : Marks) (left : List Bool) (w : HardRule → ℕ) (most : Package → ℕ)
      (each : (p : ℕ) (a : Package) → is_met_alone catalog a ≡ true → total w (requirement_rules catalog (leaving marks []) p a) ≤ most a)
    where
      -- with what the requirements of a package may weigh, where it is left out
      abbrev more_of : Bool → ℕ → ℕ
      more_of b p = if b then option_map_or most (package_at catalog p) 0 else 0

      asked_parts : (by : List Bool) (p : ℕ) (a : Package)
          → total w (rules_asked_by catalog (leaving marks by) p a)
          ≡ total w (requirement_rules catalog (leaving marks by) p a)
          + (total w (not_installable_rules catalog p) + total w (conflict_rules catalog marks p a) + total w (rich_conflict_rules catalog marks p a) + total w (obsoletion_rules catalog marks p a) + total w (same_name_rules catalog marks p))
      asked_parts by p a =
          let one_ = not_installable_rules catalog p in
          let two = requirement_rules catalog (leaving marks by) p a in
          let three = conflict_rules catalog marks p a in
          let four = rich_conflict_rules catalog marks p a in
          let five = obsoletion_rules catalog marks p a in
          let j2 = total_join w one_ two in
          let j3 = total_join w (one_ ++ two) three in
          let j4 = total_join w (one_ ++ two ++ three) four in
          let j5 = total_join w (one_ ++ two ++ three ++ four) five in
          let j6 = total_join w (one_ ++ two ++ three ++ four ++ five) (same_name_rules catalog marks p) in
          omega (arith, j2, j3, j4, j5, j6)

      asked_more : (b : Bool) (p : ℕ) (a : Package) → marked left p ≡ b → (b ≡ true → is_met_alone catalog a ≡ true)
          → total w (rules_asked_by catalog (leaving marks []) p a) ≤ total w (rules_asked_by catalog (leaving marks left) p a) + (if b then most a else 0)
      asked_more true p a is alone =
          let here = each p a (alone refl) in
          let kept = asked_parts left p a in
          let all = asked_parts [] p a in
          omega (arith, here, kept, all)
      asked_more false p a is alone =
          let same : requirement_rules catalog (leaving marks left) p a ≡ requirement_rules catalog (leaving marks []) p a = rw is refl in
          let same_weight = ap (total w) same in
          let kept = asked_parts left p a in
          let all = asked_parts [] p a in
          omega (arith, same_weight, kept, all)

      package_more : (b : Bool) (p : ℕ) (o : Option Package) → marked left p ≡ b → (b ≡ true → passes o (λ a. not (is_met_alone catalog a)) ≡ false)
          → total w (option_map_or (rules_asked_by catalog (leaving marks []) p) o []) ≤ total w (option_map_or (rules_asked_by catalog (leaving marks left) p) o []) + (if b then option_map_or most o 0 else 0)
      package_more b p None is alone = omega arith
      package_more b p (Some a) is alone = asked_more b p a is (λ e. true_of_not (is_met_alone catalog a) (alone e))

      module _ (rich_in : (q : ℕ) → passes (package_at catalog q) (λ a. not (is_met_alone catalog a)) ≡ true → marked left q ≡ false) where
        alone : (q : ℕ) → marked left q ≡ true → passes (package_at catalog q) (λ a. not (is_met_alone catalog a)) ≡ false
        alone q out = elim (cases_Bool (passes (package_at catalog q) (λ a. not (is_met_alone catalog a)))) [
          | inl y ↦ absurd (false≢true (sym (rich_in q y) ∙ out))
          | inr n ↦ n
        ]

        packages_more : (ps : List ℕ)
            → total w (flat_map (rules_of_package catalog (leaving marks [])) ps)
            ≤ total w (flat_map (rules_of_package catalog (leaving marks left)) ps) + total (λ p. option_map_or most (package_at catalog p) 0) (filter (marked left) ps)
        packages_more [] = omega arith
        packages_more (p ∷ ps) =
            let here = package_more (marked left p) p (package_at catalog p) refl (alone p) in
            let rest = packages_more ps in
            let all = total_join w (rules_of_package catalog (leaving marks []) p) (flat_map (rules_of_package catalog (leaving marks [])) ps) in
            let kept = total_join w (rules_of_package catalog (leaving marks left) p) (flat_map (rules_of_package catalog (leaving marks left)) ps) in
            let more = step (marked left p) in
            omega (arith, here, rest, all, kept, more)
          where
            step : (b : Bool)
                → total (λ p. option_map_or most (package_at catalog p) 0) (cond b (p ∷ filter (marked left) ps) (filter (marked left) ps))
                ≡ (if b then option_map_or most (package_at catalog p) 0 else 0) + total (λ p. option_map_or most (package_at catalog p) 0) (filter (marked left) ps)
            step true = refl
            step false = omega arith

        rules_parts : (by : List Bool)
            → total w (hard_rules_by catalog flags jobs (leaving marks by))
            ≡ total w (package_rules catalog (leaving marks by))
            + (total w (infarch_rules catalog flags) + total w (update_rules catalog flags marks jobs) + total w (feature_rules catalog flags marks) + total w (job_rules catalog jobs) + total w (best_job_rules catalog jobs) + total w (best_update_rules catalog flags marks jobs))
        rules_parts by =
            let one_ = package_rules catalog (leaving marks by) in
            let two = infarch_rules catalog flags in
            let three = update_rules catalog flags marks jobs in
            let four = feature_rules catalog flags marks in
            let five = job_rules catalog jobs in
            let six = best_job_rules catalog jobs in
            let j2 = total_join w one_ two in
            let j3 = total_join w (one_ ++ two) three in
            let j4 = total_join w (one_ ++ two ++ three) four in
            let j5 = total_join w (one_ ++ two ++ three ++ four) five in
            let j6 = total_join w (one_ ++ two ++ three ++ four ++ five) six in
            let j7 = total_join w (one_ ++ two ++ three ++ four ++ five ++ six) (best_update_rules catalog flags marks jobs) in
            omega (arith, j2, j3, j4, j5, j6, j7)

        rules_more : total w (hard_rules_by catalog flags jobs (leaving marks []))
            ≤ total w (hard_rules_by catalog flags jobs (leaving marks left)) + total (λ p. option_map_or most (package_at catalog p) 0) (filter (marked left) (packages catalog))
        rules_more =
            let here = packages_more (packages catalog) in
            let all = rules_parts [] in
            let kept = rules_parts left in
            omega (arith, here, all, kept)

  -- what a package requires
  words_required : (marks : Marks) (p : ℕ) (a : Package) → is_met_alone catalog a ≡ true → total (size catalog) (requirement_rules catalog marks p a) ≤ required_words catalog a
  words_required marks p a h =
      let fewer = fewer_required (size catalog) (need_words catalog) p (λ need. requirement_counts catalog marks p need.dep) (λ need. package_wise (dependency catalog need.dep)) a.requires_
      (λ need wise. words_alone catalog p need.dep wise) h in
      let is = total_is (need_words catalog) a.requires_ in
      omega (arith, fewer, is)

  rich_required : (marks : Marks) (p : ℕ) (a : Package) → is_met_alone catalog a ≡ true → total rich (requirement_rules catalog marks p a) ≤ 0
  rich_required marks p a h =
      let fewer = fewer_required rich (λ need. 0) p (λ need. requirement_counts catalog marks p need.dep) (λ need. package_wise (dependency catalog need.dep)) a.requires_
      (λ need wise. let none : rich (req p need.dep) ≡ 0 = ap faults (not_rich_alone catalog p need.dep wise) in omega (arith, none)) h in
      let is = total_nothing a.requires_ in
      omega (arith, fewer, is)

-- no package weighs anything
abbrev nothing : Package → ℕ
nothing a = 0

weighs_nothing : (o : Option Package) → option_map_or nothing o 0 ≡ 0
weighs_nothing None = refl
weighs_nothing (Some a) = refl

total_none : (at : ℕ → Option Package) (ps : List ℕ) → total (λ p. option_map_or nothing (at p) 0) ps ≡ 0
total_none at [] = refl
total_none at (p ∷ ps) = let here = weighs_nothing (at p) in let rest = total_none at ps in omega (arith, here, rest)

pub all_fit : AllFit
all_fit catalog flags jobs marks left alone fits few =
    let kept_rich = none_rich catalog 0 (hard_rules_by catalog flags jobs (leaving marks left)) fits in
    let more_rich = rules_more catalog flags jobs marks left (rich catalog) nothing (λ p a h. rich_required catalog (leaving marks []) p a h) alone in
    let others_rich = total_none (package_at catalog) (filter (marked left) (packages catalog)) in
    let all_rich : total (rich catalog) (hard_rules_by catalog flags jobs (leaving marks [])) ≡ 0 = omega (arith, kept_rich, more_rich, others_rich) in
    let more = rules_more catalog flags jobs marks left (size catalog) (required_words catalog) (λ p a h. words_required catalog (leaving marks []) p a h) alone in
    let others = total_is (λ p. option_map_or (required_words catalog) (package_at catalog p) 0) (filter (marked left) (packages catalog)) in
    let kept_is = total_is words (flat_map (rule_clauses catalog) (hard_rules_by catalog flags jobs (leaving marks left))) in
    let kept_by_rule = words_by_rule catalog (hard_rules_by catalog flags jobs (leaving marks left)) in
    passes_no_limit catalog 0 (hard_rules_by catalog flags jobs (leaving marks []))
    (λ r there. no_fault (rich_fault catalog (shape_of r)) (nothing_in (rich catalog) (hard_rules_by catalog flags jobs (leaving marks [])) r all_rich there))
    (omega (arith, few, more, others, kept_is, kept_by_rule))
