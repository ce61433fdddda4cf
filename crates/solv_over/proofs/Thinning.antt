-- The made rules stand among all.
use Rattle.std.proofs.Common.{◌≡◌, ℕ, Bool, true, false, not, ◌&&◌, List, [], ◌∷◌, ◌++◌, map, Option, Some, None, refl, cond}
use Rattle.std.specs.Prelude.{filter, flat_map}
use Rattle.std.specs.Option.{option_map_or}
use Rattle.solv_pool.specs.Prelude.{Catalog, packages, package_at, conflict_rules, obsoletion_rules, rules_asked_by, infarch_rules, update_rules, feature_rules, job_rules, best_job_rules, best_update_rules, hard_rules_by, marked, HardRule, req}
use Rattle.solv_pool.specs.Counting.{requirement_counts}
use Rattle.solv_pool.specs.Inner.HardRules.{not_installable_rules, requirement_rules, rich_conflict_rules, same_name_rules, rules_of_package}
use Rattle.solv_pool.specs.declared.jobs.Job.{Job}
use Rattle.solv_pool.specs.declared.job_marks.Marks.{Marks}
use Rattle.solv_pool.specs.declared.packages.Need.{Need}
use Rattle.solv_pool.specs.declared.packages.Package.{Package}
use Rattle.solv_pool.specs.declared.tasks.Flags.{Flags}
use Rattle.solv_leaving.specs.Inner.Leaving.{leaving}
use Rattle.solv_over.specs.Inner.Thinned.{Thinned, end, same, more}

abbrev pub thin_itself : (left : List Bool) (xs : List HardRule) → Thinned left xs xs
thin_itself left [] = end
thin_itself left (x ∷ xs) = same x (thin_itself left xs)

abbrev pub thin_both : (left : List Bool) {a b : List HardRule} → Thinned left a b → {c d : List HardRule} → Thinned left c d → Thinned left (a ++ c) (b ++ d)
thin_both left end u = u
thin_both left (same x t) u = same x (thin_both left t u)
thin_both left (more x own t) u = more x own (thin_both left t u)

abbrev pub thin_behind : (left : List Bool) {a b : List HardRule} → Thinned left a b → (c : List HardRule) → Thinned left (a ++ c) (b ++ c)
thin_behind left t c = thin_both left t (thin_itself left c)

abbrev pub thin_front : (left : List Bool) (c : List HardRule) {a b : List HardRule} → Thinned left a b → Thinned left (c ++ a) (c ++ b)
thin_front left c t = thin_both left (thin_itself left c) t

module _ (catalog : Catalog) (flags : Flags) (jobs : List Job) (marks : Marks) (left : List Bool) where
  abbrev whole : Marks
  whole = leaving marks []

  abbrev some : Marks
  some = leaving marks left

  -- of one package
  abbrev pub thin_one_more : (p : ℕ) (need : Need) → marked left p ≡ true → (b : Bool) (made all : List Need) → Thinned left (map (λ need. req p need.dep) made) (map (λ need. req p need.dep) all)
      → Thinned left (map (λ need. req p need.dep) made) (map (λ need. req p need.dep) (cond b (need ∷ all) all))
  thin_one_more p need e true made all t = more (req p need.dep) (record { pack = p; dep = need.dep; is = refl; out = e }) t
  thin_one_more p need e false made all t = t

  abbrev pub thin_needs : (p : ℕ) (counts : Need → Bool) (b : Bool) → marked left p ≡ b → (needs : List Need)
      → Thinned left (map (λ need. req p need.dep) (filter (λ need. not b && counts need) needs)) (map (λ need. req p need.dep) (filter (λ need. not false && counts need) needs))
  thin_needs p counts true e [] = end
  thin_needs p counts true e (need ∷ needs) = thin_one_more p need e (counts need) (filter (λ need. not true && counts need) needs) (filter (λ need. not false && counts need) needs) (thin_needs p counts true e needs)
  thin_needs p counts false e needs = thin_itself left (map (λ need. req p need.dep) (filter (λ need. not false && counts need) needs))

  abbrev pub thin_requirements : (p : ℕ) (a : Package) → Thinned left (requirement_rules catalog some p a) (requirement_rules catalog whole p a)
  thin_requirements p a = thin_needs p (λ need. requirement_counts catalog whole p need.dep) (marked left p) refl a.requires_

  abbrev pub thin_asked : (p : ℕ) (a : Package) → Thinned left (rules_asked_by catalog some p a) (rules_asked_by catalog whole p a)
  thin_asked p a =
      thin_behind left (thin_behind left (thin_behind left (thin_behind left (thin_front left (not_installable_rules catalog p) (thin_requirements p a)) (conflict_rules catalog marks p a)) (rich_conflict_rules catalog marks p a)) (obsoletion_rules catalog marks p a)) (same_name_rules catalog marks p)

  abbrev pub thin_option : (p : ℕ) (o : Option Package) → Thinned left (option_map_or (rules_asked_by catalog some p) o []) (option_map_or (rules_asked_by catalog whole p) o [])
  thin_option p None = end
  thin_option p (Some a) = thin_asked p a

  abbrev pub thin_package : (p : ℕ) → Thinned left (rules_of_package catalog some p) (rules_of_package catalog whole p)
  thin_package p = thin_option p (package_at catalog p)

  abbrev pub thin_packages : (ps : List ℕ) → Thinned left (flat_map (rules_of_package catalog some) ps) (flat_map (rules_of_package catalog whole) ps)
  thin_packages [] = end
  thin_packages (p ∷ ps) = thin_both left (thin_package p) (thin_packages ps)

  unfoldable pub made_among : Thinned left (hard_rules_by catalog flags jobs some) (hard_rules_by catalog flags jobs whole)
  made_among =
      thin_behind left (thin_behind left (thin_behind left (thin_behind left (thin_behind left (thin_behind left (thin_packages (packages catalog)) (infarch_rules catalog flags)) (update_rules catalog flags marks jobs)) (feature_rules catalog flags marks)) (job_rules catalog jobs)) (best_job_rules catalog jobs)) (best_update_rules catalog flags marks jobs)
