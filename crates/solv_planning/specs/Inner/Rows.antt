-- What rules add to the rows of jobs and of packages.
use Rattle.std.specs.Prelude.{ℕ, ◌≡◌, Bool, not, ◌&&◌, List, [], ◌∷◌, ◌++◌}
use Rattle.solv_pool.specs.Prelude.{when, Catalog, is_installed, marked, is_to_move, HardRule, req, rich_con}
use Rattle.solv_questions.specs.Questions.{Request, is_update_of, is_feature_of, far_candidates}
use Rattle.solv_questions.specs.Inner.Questions.{close_candidates}
use Rattle.solv_plan.specs.Inner.PlanOf.{want_of, conflict_of, best_job_demand, job_demand, best_update_demand}
use Rattle.solv_plan.specs.declared.plans.Keep.{Keep}
use Rattle.solv_plan.specs.declared.plans.Want.{Want}
use Rattle.solv_policy.specs.Policy.{by_policy}
use Rattle.solv_policy.specs.declared.policy.Asked.TheVariants.{Other}
use Rattle.solv_planning.specs.declared.demands.JobDemands.{JobDemands}
use Rattle.solv_planning.specs.declared.demands.Ordered.{Ordered}
use Rattle.solv_planning.specs.declared.keeps.PackRules.{PackRules}

-- a job of which no rule is known
abbrev pub no_demands : JobDemands
no_demands = record { best = []; own = [] }

-- a package of which no rule is known
abbrev pub no_rules : ℕ → PackRules
no_rules p = record { pack = p; best = []; updates = []; features = [] }

module _ (r : Request) where
  -- the packages of a job in the order of the policy
  abbrev pub IsOrdered : Ordered → Type 0
  IsOrdered ordered = ordered.candidates ≡ by_policy r.catalog r.marks Other ordered.packs.now

  -- the demand of a numbered rule, where it is one of job j
  abbrev pub add_to_job : ℕ → (ℕ × HardRule) → JobDemands → JobDemands
  add_to_job j x row = record { best = row.best ++ best_job_demand r j x.0 x.1; own = row.own ++ job_demand r j x.0 x.1 }

  -- the demand of a numbered rule, or its number, where it is one on p
  abbrev pub add_to_pack : ℕ → (ℕ × HardRule) → PackRules → PackRules
  add_to_pack p x row = record {
    pack = row.pack;
    best = row.best ++ best_update_demand r p x.0 x.1;
    updates = row.updates ++ when (is_update_of p x.1) (x.0 ∷ []);
    features = row.features ++ when (is_feature_of p x.1) (x.0 ∷ []);
  }

-- what a rule says that a package asks for: a requirement, or a conflict that no package meets alone
module _ (catalog : Catalog) where
  abbrev pub wants_of : HardRule → List Want
  wants_of (req p d) = want_of catalog p d ∷ []
  wants_of (rich_con p d) = conflict_of catalog p d ∷ []
  wants_of _ = []

-- what is asked of a package with these rules on it
abbrev pub keep_with : Request → PackRules → Keep
keep_with r row = record {
  pack = row.pack;
  best = row.best;
  is_asked = not (marked r.marks.erased row.pack);
  dup = marked r.marks.dup row.pack;
  updates = row.updates;
  features = row.features;
  close = close_candidates r.catalog r.flags r.marks row.pack;
  far = far_candidates r.catalog r.flags r.marks row.pack;
}

module _ (r : Request) where
  -- p is installed and marked to move
  abbrev pub is_marked : ℕ → Bool
  is_marked p = is_installed r.catalog p && is_to_move r.marks p

  -- p is installed and not marked to move
  abbrev pub is_other : ℕ → Bool
  is_other p = is_installed r.catalog p && not (is_to_move r.marks p)
