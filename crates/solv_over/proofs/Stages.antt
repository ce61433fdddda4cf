-- The sums before each made rule, package by package.
use Rattle.std.proofs.Common.{◌≡◌, ◌≤◌, ◌+◌, ◌-◌, ℕ, zero, suc, Bool, true, false, not, ◌&&◌, List, [], ◌∷◌, map, length, Option, Some, None, inl, inr, refl, sym, ◌∙◌, ap, subst, arith, if◌then◌else◌}
use Rattle.std.specs.Prelude.{filter, slice_get}
use Rattle.std.specs.List.{range_with_len}
use Rattle.std.specs.Option.{option_map_or}
use Rattle.std.proofs.lemmas.Bool.{false≢true}
use Rattle.solv_pool.specs.Prelude.{Catalog, packages, package_at, conflict_rules, obsoletion_rules, infarch_rules, update_rules, feature_rules, job_rules, best_job_rules, best_update_rules, marked, HardRule, req}
use Rattle.solv_pool.specs.Counting.{requirement_counts}
use Rattle.solv_pool.specs.Inner.HardRules.{not_installable_rules, rich_conflict_rules, same_name_rules}
use Rattle.solv_pool.specs.declared.jobs.Job.{Job}
use Rattle.solv_pool.specs.declared.job_marks.Marks.{Marks}
use Rattle.solv_pool.specs.declared.packages.Need.{Need}
use Rattle.solv_pool.specs.declared.packages.Package.{Package}
use Rattle.solv_pool.specs.declared.tasks.Flags.{Flags}
use Rattle.solv_pool.proofs.Members.{Has, of_mapped}
use Rattle.solv_leaving.proofs.Totals.{total}
use Rattle.solv_leaving.specs.Inner.Leaving.{leaving}
use Rattle.solv_over.specs.Inner.Thinned.{Thinned}
use Rattle.solv_over.proofs.Behind.{stage_of, free_last, free_infarch, free_update, free_feature, free_job, free_best_job, free_best_update, before_needs, behind_conflicts, behind_rich, behind_obsoletions, behind_namesakes}
use Rattle.solv_over.proofs.Thinning.{thin_itself, thin_both, thin_one_more, thin_needs, thin_requirements, thin_asked, thin_option, thin_package, thin_packages, made_among}
use Rattle.solv_over.proofs.Weights.{weight, AreSums, sums_both, sums_itself, one_among}

next_sum : (m w v t n : ℕ) → m + (v + t) ≡ n → w ≡ v → (m + w) + t ≡ n
next_sum m w v t n e f = omega (arith, e, f)

-- nothing either way
abbrev nothing : Bool → ℕ
nothing b = if b then 0 else 0

pub no_more : (b : Bool) → nothing b ≡ 0
no_more true = refl
no_more false = refl

module _ (catalog : Catalog) (flags : Flags) (jobs : List Job) (marks : Marks) (left : List Bool) (w : HardRule → ℕ) (v : ℕ → Need → ℕ) (before : ℕ → ℕ) where
  abbrev count : ℕ
  count = length catalog.universe.packages

  -- the sum before a rule
  abbrev pub sum : HardRule → ℕ
  sum x = before (stage_of count x)

  -- what the requirements of a package weigh that are not made
  abbrev pub own_by : ℕ → Option Package → ℕ
  own_by p o = if marked left p then option_map_or (λ a. total (v p) a.requires_) o 0 else 0

  -- each of them counts, and weighs what it is given
  abbrev pub Weighs : ℕ → Package → Type 0
  Weighs p a = marked left p ≡ true → (need : Need) → Has a.requires_ need → (requirement_counts catalog (leaving marks []) p need.dep ≡ true) × (w (req p need.dep) ≡ v p need)

  sums_needs : (p : ℕ) (counts : Need → Bool) (b : Bool) (e : marked left p ≡ b) (needs : List Need) (m n : ℕ)
      → (b ≡ true → (need : Need) → Has needs need → (counts need ≡ true) × (w (req p need.dep) ≡ v p need)) → before (suc p) ≡ n → m + (if b then total (v p) needs else 0) ≡ n
      → AreSums w sum (thin_needs catalog flags jobs marks left p counts b e needs) m n
  sums_needs p counts true e [] m n each at is = λ k. is
  sums_needs p counts true e (need ∷ needs) m n each at is =
      let here = each refl need (inl refl) in
      by (counts need) here.0 (sums_needs p counts true e needs (m + w (req p need.dep)) n (λ f y h. each f y (inr h)) at (next_sum m (w (req p need.dep)) (v p need) (total (v p) needs) n is here.1))
    where
      by : (b : Bool) → b ≡ true → AreSums w sum (thin_needs catalog flags jobs marks left p counts true e needs) (m + w (req p need.dep)) n
          → AreSums w sum (thin_one_more catalog flags jobs marks left p need e b (filter (λ need. not true && counts need) needs) (filter (λ need. not false && counts need) needs) (thin_needs catalog flags jobs marks left p counts true e needs)) m n
      by true f r = λ k.
          one_among m (w (req p need.dep)) (weight w (thin_needs catalog flags jobs marks left p counts true e needs) k) (option_map_or sum (slice_get (map (λ need. req p need.dep) (filter (λ need. not true && counts need) needs)) k) n) (r k)
      by false f r = absurd (false≢true f)
  sums_needs p counts false e needs m n each at is =
      let same_sum : m ≡ n = omega (arith, is) in
      let xs : List HardRule = map (λ need. req p need.dep) (filter (λ need. not false && counts need) needs) in
      let F : ℕ → Type 0 = λ o. AreSums w sum (thin_itself left xs) m o in
      subst F same_sum (sums_itself w sum left xs m (λ x h.
      let S : HardRule → Type 0 = λ y. sum y ≡ m in
      subst S (of_mapped (λ need. req p need.dep) (filter (λ need. not false && counts need) needs) x h).1.1 (at ∙ sym same_sum)))

  -- rules that each have one sum before them
  then_itself : {a b : List HardRule} (t : Thinned left a b) (c : List HardRule) (m n : ℕ) → AreSums w sum t m n → ((x : HardRule) → Has c x → sum x ≡ n) → AreSums w sum (thin_both left t (thin_itself left c)) m n
  then_itself t c m n f each = sums_both w sum t (thin_itself left c) m n n f (sums_itself w sum left c n each)

  sums_asked : (p : ℕ) (a : Package) → before p + (if marked left p then total (v p) a.requires_ else 0) ≡ before (suc p) → Weighs p a → AreSums w sum (thin_asked catalog flags jobs marks left p a) (before p) (before (suc p))
  sums_asked p a step each =
      let one = thin_itself left (not_installable_rules catalog p) in
      let two = thin_both left one (thin_requirements catalog flags jobs marks left p a) in
      let three = thin_both left two (thin_itself left (conflict_rules catalog marks p a)) in
      let four = thin_both left three (thin_itself left (rich_conflict_rules catalog marks p a)) in
      let five = thin_both left four (thin_itself left (obsoletion_rules catalog marks p a)) in
      let m = before p in
      let n = before (suc p) in
      let s1 = sums_itself w sum left (not_installable_rules catalog p) m (λ x h. ap before (before_needs catalog flags jobs marks count left p x h).0) in
      let s2 = sums_both w sum one (thin_requirements catalog flags jobs marks left p a) m m n s1 (sums_needs p (λ need. requirement_counts catalog (leaving marks []) p need.dep) (marked left p) refl a.requires_ m n each refl step) in
      let s3 = then_itself two (conflict_rules catalog marks p a) m n s2 (λ x h. ap before (behind_conflicts catalog flags jobs marks count left p a x h).0) in
      let s4 = then_itself three (rich_conflict_rules catalog marks p a) m n s3 (λ x h. ap before (behind_rich catalog flags jobs marks count left p a x h).0) in
      let s5 = then_itself four (obsoletion_rules catalog marks p a) m n s4 (λ x h. ap before (behind_obsoletions catalog flags jobs marks count left p a x h).0) in
      then_itself five (same_name_rules catalog marks p) m n s5 (λ x h. ap before (behind_namesakes catalog flags jobs marks count left p x h).0)

  sums_option : (p : ℕ) (o : Option Package) → package_at catalog p ≡ o → before (suc p) ≡ before p + own_by p o → ((a : Package) → package_at catalog p ≡ Some a → Weighs p a)
      → AreSums w sum (thin_option catalog flags jobs marks left p o) (before p) (before (suc p))
  sums_option p None is step each = λ k. let none = no_more (marked left p) in omega (arith, step, none)
  sums_option p (Some a) is step each = sums_asked p a (sym step) (each a is)

  module _ (step : (p : ℕ) → p ≤ count → before (suc p) ≡ before p + own_by p (package_at catalog p)) (each : (p : ℕ) (a : Package) → package_at catalog p ≡ Some a → Weighs p a) where
    sums_packages : (a len : ℕ) → a + len ≤ suc count → AreSums w sum (thin_packages catalog flags jobs marks left (range_with_len a len)) (before a) (before (a + len))
    sums_packages a zero le = λ k. let e : a ≡ a + 0 = omega arith in let same_sum = ap before e in omega (arith, same_sum)
    sums_packages a (suc len) le =
        let next : suc a ≡ a + 1 = omega arith in
        let last : (a + 1) + len ≡ a + suc len = omega arith in
        let rest = sums_packages (a + 1) len (omega (arith, le)) in
        let ps = range_with_len (a + 1) len in
        let here = sums_option a (package_at catalog a) refl (step a (omega (arith, le))) (λ own is. each a own is) in
        let F : ℕ → Type 0 = λ n. AreSums w sum (thin_package catalog flags jobs marks left a) (before a) (before n) in
        let G : ℕ → Type 0 = λ n. AreSums w sum (thin_packages catalog flags jobs marks left ps) (before (a + 1)) (before n) in
        sums_both w sum (thin_package catalog flags jobs marks left a) (thin_packages catalog flags jobs marks left ps) (before a) (before (a + 1)) (before (a + suc len)) (subst F next here) (subst G last rest)

    pub sums_made : AreSums w sum (made_among catalog flags jobs marks left) (before 1) (before (suc count))
    unfolding made_among
    sums_made =
        let one = thin_packages catalog flags jobs marks left (packages catalog) in
        let two = thin_both left one (thin_itself left (infarch_rules catalog flags)) in
        let three = thin_both left two (thin_itself left (update_rules catalog flags marks jobs)) in
        let four = thin_both left three (thin_itself left (feature_rules catalog flags marks)) in
        let five = thin_both left four (thin_itself left (job_rules catalog jobs)) in
        let six = thin_both left five (thin_itself left (best_job_rules catalog jobs)) in
        let m = before 1 in
        let n = before (suc count) in
        let last : 1 + count ≡ suc count = omega arith in
        let F : ℕ → Type 0 = λ k. AreSums w sum one (before 1) (before k) in
        let s1 : AreSums w sum one m n = subst F last (sums_packages 1 count (omega arith)) in
        let s2 = then_itself one (infarch_rules catalog flags) m n s1 (λ x h. ap before (free_last count x (free_infarch catalog flags jobs marks x h))) in
        let s3 = then_itself two (update_rules catalog flags marks jobs) m n s2 (λ x h. ap before (free_last count x (free_update catalog flags jobs marks x h))) in
        let s4 = then_itself three (feature_rules catalog flags marks) m n s3 (λ x h. ap before (free_last count x (free_feature catalog flags jobs marks x h))) in
        let s5 = then_itself four (job_rules catalog jobs) m n s4 (λ x h. ap before (free_last count x (free_job catalog flags jobs marks x h))) in
        let s6 = then_itself five (best_job_rules catalog jobs) m n s5 (λ x h. ap before (free_last count x (free_best_job catalog flags jobs marks x h))) in
        then_itself six (best_update_rules catalog flags marks jobs) m n s6 (λ x h. ap before (free_last count x (free_best_update catalog flags jobs marks x h)))
