-- The plan of a task.
use Rattle.std.specs.Prelude.{ℕ, Bool, true, false, not, ◌&&◌, ◌||◌, List, [], ◌∷◌, ◌++◌, length, map, filter, flat_map, slice_get, ◌==◌, nat_lt, if◌then◌else◌}
use Rattle.std.specs.List.{list_any, enumerate_from, range_with_len}
use Rattle.std.specs.Option.{option_map_or}
use Rattle.solv_pool.specs.Prelude.{Dep, and, or, joined, under, under_else, package_wise, operands, DepNode, when, is_among, Catalog, packages, members, package_at, dependency, is_installed, same_name, package_meets, marked, is_to_move, HardRule, install, best_job, best_update, counted_requirements, counted_rich_conflicts}
use Rattle.solv_pool.specs.Best.{evr_of}
use Rattle.solv_pool.specs.Installable.{is_installable}
use Rattle.solv_pool.specs.Providing.{obsoletes}
use Rattle.solv_pool.specs.Inner.HardRules.{numbered_jobs}
use Rattle.solv_policy.specs.Policy.{by_policy}
use Rattle.solv_policy.specs.Inner.Differences.{key_alone}
use Rattle.solv_policy.specs.declared.policy.Asked.TheVariants.{Other}
use Rattle.solv_trail.specs.declared.questions.Question.{Question}
use Rattle.solv_trail.specs.declared.questions.Question.TheVariants as question
use Rattle.solv_questions.specs.Questions.{Request, rules_of, is_update_of, is_feature_of, far_candidates}
use Rattle.solv_questions.specs.Inner.Questions.{is_first_of_name, close_candidates}
use Rattle.solv_plan.specs.Inside.{row_at}
use Rattle.solv_plan.specs.Inner.Choosing.{unkept}
use Rattle.solv_plan.specs.declared.plans.Demand.{Demand}
use Rattle.solv_plan.specs.declared.plans.Relations.{Relations}
use Rattle.solv_plan.specs.declared.plans.Wanted.{Wanted}
use Rattle.solv_plan.specs.declared.standings.Standing.{Standing}
use Rattle.solv_plan.specs.declared.plans.Keep.{Keep}
use Rattle.solv_plan.specs.declared.plans.Want.{Want}
use Rattle.solv_plan.specs.declared.plans.Supplement.{Supplement}
use Rattle.solv_plan.specs.declared.plans.Named.{Named}
use Rattle.solv_plan.specs.declared.plans.Plan.{Plan}

-- rules by their numbers
abbrev pub numbered : List HardRule → List (ℕ × HardRule)
numbered rules = enumerate_from 0 rules

-- demands of rules, by their numbers
module _ (r : Request) where
  -- one of these packages, by policy
  abbrev pub demand_of : ℕ → Question → List ℕ → Demand
  demand_of i question xs = record { rule = i; question = question; candidates = by_policy r.catalog r.marks Other xs }

  -- that job j is to have one of the best
  abbrev pub best_job_demand : ℕ → ℕ → HardRule → List Demand
  best_job_demand j i (best_job k xs) = when (k == j) (demand_of i (question.BestJob j) xs ∷ [])
  best_job_demand j i _ = []

  -- that it is to have one of its selection
  abbrev pub job_demand : ℕ → ℕ → HardRule → List Demand
  job_demand j i (install k xs) = when (k == j) (demand_of i (question.Job j) xs ∷ [])
  job_demand j i _ = []

  -- that a job is to have the best update of p
  abbrev pub best_update_demand : ℕ → ℕ → HardRule → List Demand
  best_update_demand p i (best_update j q xs) = when (q == p) (demand_of i (question.BestUpdate j p) xs ∷ [])
  best_update_demand p i _ = []

  -- those of a job
  abbrev pub demands_of_job : List (ℕ × HardRule) → ℕ → List Demand
  demands_of_job rules j = flat_map (λ x. best_job_demand j x.0 x.1) rules ++ flat_map (λ x. job_demand j x.0 x.1) rules

-- the numbers of the rules that pass
abbrev pub numbers_of : (HardRule → Bool) → List (ℕ × HardRule) → List ℕ
numbers_of test rules = map (λ x. x.0) (filter (λ x. test x.1) rules)

-- a single package meets it, or does not, and nobody where it is none
abbrev pub is_by_row : Dep ℕ → Bool
is_by_row (joined and a b) = false
is_by_row (joined or a b) = package_wise a && package_wise b
is_by_row (under k a b) = false
is_by_row (under_else k a b c) = false
is_by_row d = true

-- dependencies, and how they are read
module _ (catalog : Catalog) where
  abbrev pub is_by_tree : ℕ → Bool
  is_by_tree d = not (is_by_row (dependency catalog d))

  abbrev pub wanted_of : ℕ → Wanted
  wanted_of d = record { dep = d; by_tree = is_by_tree d }

  -- what is to hold while p is in
  abbrev pub want_of : ℕ → ℕ → Want
  want_of p d = record { pack = p; wanted = wanted_of d; against = false }

  -- what is not to
  abbrev pub conflict_of : ℕ → ℕ → Want
  conflict_of p d = record { pack = p; wanted = wanted_of d; against = true }

-- the operands of a relation
abbrev pub operands_at : List DepNode → ℕ → List ℕ
operands_at nodes d = option_map_or operands (slice_get nodes d) []

module _ (catalog : Catalog) where
  -- the ids of the relations
  abbrev pub relation_ids : List ℕ
  relation_ids = range_with_len 0 (length catalog.pool.nodes)

  -- some relation is read by its tree
  abbrev pub has_trees : Bool
  has_trees = list_any (is_by_tree catalog) relation_ids

  -- p stands in the row of an operand of a relation that is read by its tree
  abbrev pub is_ranked : List (List ℕ) → ℕ → Bool
  is_ranked rows p = list_any (λ d. is_by_tree catalog d && list_any (λ o. is_among (row_at rows o) p) (operands_at catalog.pool.nodes d)) relation_ids

-- one of these asks for d
abbrev pub is_asked_by : List Want → ℕ → Bool
is_asked_by wants d = list_any (λ w. w.wanted.dep == d) wants

module _ (r : Request) where
  -- what is asked of an installed package
  abbrev pub keep_of : List (ℕ × HardRule) → ℕ → Keep
  keep_of rules p = record {
    pack = p;
    best = flat_map (λ x. best_update_demand r p x.0 x.1) rules;
    is_asked = not (marked r.marks.erased p);
    dup = marked r.marks.dup p;
    updates = numbers_of (is_update_of p) rules;
    features = numbers_of (is_feature_of p) rules;
    close = close_candidates r.catalog r.flags r.marks p;
    far = far_candidates r.catalog r.flags r.marks p;
  }

  -- of those marked to move, and then of the others
  abbrev pub keeps_of : List (ℕ × HardRule) → List Keep
  keeps_of rules = map (keep_of rules) (filter (λ p. is_installed r.catalog p && is_to_move r.marks p) (packages r.catalog))
      ++ map (keep_of rules) (filter (λ p. is_installed r.catalog p && not (is_to_move r.marks p)) (packages r.catalog))

  -- the members that meet a dependency alone, by policy: the system alone, where it does
  abbrev pub row_of : ℕ → List ℕ
  row_of d =
      let meeting : List ℕ = filter (package_meets r.catalog (dependency r.catalog d)) (members r.catalog) in
      if is_among meeting 0 then 0 ∷ [] else by_policy r.catalog r.marks Other meeting

  -- the requirements that count, and then the conflicts that no package meets alone
  abbrev pub required_by : ℕ → List Want
  required_by p = option_map_or (λ a. map (λ need. want_of r.catalog p need.dep) (counted_requirements r.catalog r.marks p a) ++ map (conflict_of r.catalog p) (counted_rich_conflicts r.catalog r.marks p a)) (package_at r.catalog p) []

  -- what a package recommends
  abbrev pub recommended_by : ℕ → List Want
  recommended_by p = option_map_or (λ a. map (want_of r.catalog p) a.recommends) (package_at r.catalog p) []

  -- of all packages
  abbrev pub all_required : List Want
  all_required = flat_map required_by (packages r.catalog)

  -- of those that are not installed, where recommendations count
  abbrev pub all_recommended : List Want
  all_recommended = when (not r.flags.ignore_recommended) (flat_map recommended_by (filter (λ p. not (is_installed r.catalog p)) (packages r.catalog)))

  -- d is a supplement of some package
  abbrev pub is_supplement : ℕ → Bool
  is_supplement d = list_any (λ p. option_map_or (λ a. is_among a.supplements d) (package_at r.catalog p) false) (packages r.catalog)

  -- the row of d is read: some package asks for it, or some relation is read by its tree
  abbrev pub is_read : ℕ → Bool
  is_read d = has_trees r.catalog || (is_asked_by all_required d || (is_asked_by all_recommended d || is_supplement d))

  -- a row for each relation, which is empty where it is not read
  abbrev pub rows_of : List (List ℕ)
  rows_of = map (λ d. when (is_read d) (row_of d)) (relation_ids r.catalog)

  -- what decides of p among candidates
  abbrev pub standing_of : ℕ → Standing
  standing_of p = record {
    key = key_alone r.catalog r.marks p;
    name = option_map_or (λ a. a.name) (package_at r.catalog p) 0;
    evr = evr_of r.catalog p;
    beaten_by = filter (λ q. not (same_name r.catalog p q) && obsoletes r.catalog q p) (packages r.catalog);
  }

  -- of the packages among which a tree may have to choose, by number
  abbrev pub standings_of : List Standing
  standings_of = unkept ∷ map (λ p. if is_ranked r.catalog rows_of p then standing_of p else unkept) (packages r.catalog)

  -- what dependencies are read from
  abbrev pub relations_of : Relations
  relations_of = record { nodes = when (has_trees r.catalog) r.catalog.pool.nodes; rows = rows_of; standings = when (has_trees r.catalog) standings_of }

  -- q is of p's name, may be taken, and has a supplement
  abbrev pub is_supplemented : ℕ → ℕ → Bool
  is_supplemented p q = same_name r.catalog p q && (is_installable r.catalog q && (not (is_installed r.catalog q) && option_map_or (λ a. nat_lt 0 (length a.supplements)) (package_at r.catalog q) false))

  -- with its supplements
  abbrev pub supplement_of : ℕ → Supplement
  supplement_of q = record { pack = q; deps = map (wanted_of r.catalog) (option_map_or (λ a. a.supplements) (package_at r.catalog q) []) }

  -- such packages of p's name, by policy
  abbrev pub supplemented : ℕ → List ℕ
  supplemented p = by_policy r.catalog r.marks Other (filter (is_supplemented p) (packages r.catalog))

  -- p's name, where there are such
  abbrev pub named_by : ℕ → List Named
  named_by p = when (nat_lt 0 (length (supplemented p))) (option_map_or (λ a. record {
    name = a.name;
    packs = filter (same_name r.catalog p) (packages r.catalog);
    candidates = map supplement_of (supplemented p);
  } ∷ []) (package_at r.catalog p) [])

-- the plan of what the questions rest on
abbrev pub plan_of : Request → Plan
plan_of r = record {
  demands = flat_map (λ job. demands_of_job r (numbered (rules_of r)) job.0) (numbered_jobs r.jobs);
  keeps = keeps_of r (numbered (rules_of r));
  relations = relations_of r;
  required = all_required r;
  recommended = all_recommended r;
  supplements = when (not r.flags.ignore_recommended) (flat_map (named_by r) (filter (is_first_of_name r.catalog) (packages r.catalog)));
}
