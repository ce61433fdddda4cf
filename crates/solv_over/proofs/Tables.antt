-- The code's tables have the sums before each made rule.
use Rattle.std.proofs.Common.{◌≡◌, ◌≤◌, ◌<◌, ◌+◌, ◌-◌, ℕ, zero, suc, Bool, true, false, not, ◌||◌, cond, List, [], ◌∷◌, map, length, Option, Some, None, inl, inr, refl, sym, ◌∙◌, ap, arith, eq-eqb, if◌then◌else◌}
use Rattle.std.specs.Prelude.{filter, slice_get, ◌==◌}
use Rattle.std.specs.List.{list_all, range_with_len}
use Rattle.std.specs.Option.{option_map_or}
use Rattle.std.proofs.lemmas.Bool.{and_from, cases_Bool, false≢true, or_left}
use Rattle.solv_pool.specs.Prelude.{passes, package_wise, Catalog, catalog_of, packages, members, package_at, dependency, is_installed, hard_rules_by, marked, marks_of, holds, installed_set, HardRule, read_rule, rule_with, set_at}
use Rattle.solv_pool.specs.Counting.{requirement_counts}
use Rattle.solv_pool.specs.Updates.{is_feature}
use Rattle.solv_pool.specs.declared.hard_rules.Rule.{Rule}
use Rattle.solv_pool.specs.declared.hard_rules.Rule.TheVariants as rule
use Rattle.solv_pool.specs.declared.jobs.Job.{Job}
use Rattle.solv_pool.specs.declared.job_marks.Marks.{Marks}
use Rattle.solv_pool.specs.declared.packages.Need.{Need}
use Rattle.solv_pool.specs.declared.packages.Package.{Package}
use Rattle.solv_pool.specs.declared.tasks.Flags.{Flags}
use Rattle.solv_pool.specs.declared.tasks.Task.{Task}
use Rattle.solv_pool.proofs.Among.{among_filter}
use Rattle.solv_pool.proofs.Members.{all_at}
use Rattle.solv_clean.proofs.Told.{installed_there, is_there}
use Rattle.solv_rules.specs.Books.{IsBook, Written, owners_from, read_rules}
use Rattle.solv_leaving.proofs.Totals.{total}
use Rattle.solv_leaving.specs.Inner.Leaving.{leaving, LeavesOut}
use Rattle.solv_over.specs.Inner.Sums.{gives_clause, needed_clauses, unmade_rules, unmade_clauses, sums_from, stage, stage_at, sum_at, rule_by, clause_by}
use Rattle.solv_over.specs.Inner.Places.{ArePlaces, PlacesOf, rule_among, clause_among}
use Rattle.solv_over.specs.Inner.Thinned.{Thinned}
use Rattle.solv_over.proofs.Behind.{stage_of, all_made}
use Rattle.solv_over.proofs.Needed.{requirement_clauses}
use Rattle.solv_over.proofs.Placing.{place, clause_at}
use Rattle.solv_over.proofs.Stages.{no_more, own_by, Weighs, sums_made}
use Rattle.solv_over.proofs.Thinning.{made_among}
use Rattle.solv_over.proofs.Weights.{weight, one_each, place_weight, clauses_each, clause_weight, place_among, clause_place_among, more_among}

-- the places of made rules among all are told by all rules and by what is left out
pub place_is : (catalog : Catalog) (flags : Flags) (jobs : List Job) (marks : Marks) (left : List Bool) (k : ℕ) → place (made_among catalog flags jobs marks left) k ≡ rule_among left (hard_rules_by catalog flags jobs (leaving marks [])) k
place_is catalog flags jobs marks left k = place_among (made_among catalog flags jobs marks left) (λ x h. all_made catalog flags jobs marks left x h) k

pub clause_is : (catalog : Catalog) (flags : Flags) (jobs : List Job) (marks : Marks) (left : List Bool) (k : ℕ)
    → clause_at catalog (made_among catalog flags jobs marks left) k ≡ clause_among catalog left (hard_rules_by catalog flags jobs (leaving marks [])) k
clause_is catalog flags jobs marks left k = clause_place_among catalog (made_among catalog flags jobs marks left) (λ x h. all_made catalog flags jobs marks left x h) k

-- a table begins with what it is begun with
first_sum : (s : ℕ) (ns : List ℕ) → sum_at (sums_from s ns) 0 ≡ s
first_sum s [] = refl
first_sum s (n ∷ ns) = refl

-- and each sum has one number more
next_sum : (u : ℕ → ℕ) (s a len p : ℕ) → p < len → sum_at (sums_from s (map u (range_with_len a len))) (suc p) ≡ sum_at (sums_from s (map u (range_with_len a len))) p + u (a + p)
next_sum u s a zero p lt = absurd (omega (arith, lt))
next_sum u s a (suc len) zero lt = let e : a ≡ a + 0 = omega arith in first_sum (s + u a) (map u (range_with_len (a + 1) len)) ∙ ap (λ n. s + u n) e
next_sum u s a (suc len) (suc p) lt =
    let e : (a + 1) + p ≡ a + suc p = omega arith in
    next_sum u (s + u a) (a + 1) len p (omega (arith, lt)) ∙ ap (λ n. sum_at (sums_from (s + u a) (map u (range_with_len (a + 1) len))) p + u n) e

-- one for each
total_ones : (needs : List Need) → total (λ need. 1) needs ≡ length needs
total_ones [] = refl
total_ones (need ∷ needs) = let rest = total_ones needs in omega (arith, rest)

total_passing : (f : Need → Bool) (needs : List Need) → total (λ need. if f need then 1 else 0) needs ≡ length (filter f needs)
total_passing f [] = refl
total_passing f (need ∷ needs) = by (f need) (total_passing f needs)
  where
    by : (b : Bool) → total (λ need. if f need then 1 else 0) needs ≡ length (filter f needs) → (if b then 1 else 0) + total (λ need. if f need then 1 else 0) needs ≡ length (cond b (need ∷ filter f needs) (filter f needs))
    by true h = omega (arith, h)
    by false h = omega (arith, h)

-- nothing stands behind the last
none_behind : (rules : List HardRule) → slice_get rules (length rules) ≡ None
none_behind [] = refl
none_behind (x ∷ rules) = none_behind rules

-- the stage of a rule as the code keeps it is that of the rule
stage_read : (count : ℕ) (set : ℕ → List ℕ) (r : Rule) → stage count r ≡ stage_of count (read_rule set r)
stage_read count set (rule.NotInstallable p) = refl
stage_read count set _ = refl

by_stage : (before : ℕ → ℕ) (count : ℕ) (sets : List (List ℕ)) (rules : List Rule) (k : ℕ)
    → option_map_or (λ x. before (stage_of count x)) (slice_get (map (rule_with sets) rules) k) (before (suc count)) ≡ before (stage_at rules count k)
by_stage before count sets [] k = refl
by_stage before count sets (r ∷ rules) zero = ap before (sym (stage_read count (set_at sets) r))
by_stage before count sets (r ∷ rules) (suc k) = by_stage before count sets rules k

mapped_or : (f g : ℕ → ℕ) (o : Option ℕ) (d : ℕ) → option_map_or (λ n. f (g n)) o (f d) ≡ f (option_map_or g o d)
mapped_or f g None d = refl
mapped_or f g (Some n) d = refl

nothing_before : (n : ℕ) → 0 + n ≡ n
nothing_before n = omega arith

module _ (catalog : Catalog) (flags : Flags) (jobs : List Job) (marks : Marks) (left : List Bool) (out : LeavesOut catalog flags jobs marks left) where
  -- what is left out is not installed
  not_installed : (p : ℕ) → marked left p ≡ true → is_installed catalog p ≡ false
  not_installed p own = elim (cases_Bool (is_installed catalog p)) [
    | inl y ↦ let there = installed_there catalog p y in
        absurd (false≢true (sym (out.kept p p y (among_filter (λ q. (q == p) || is_feature catalog marks p q) (packages catalog) p ∙ and_from _ ((p == p) || is_feature catalog marks p p) (is_there catalog p there.0 there.1) (or_left (p == p) (is_feature catalog marks p p) (eq_itself p)))) ∙ own))
    | inr n ↦ n
  ]
    where
      eq_itself : (n : ℕ) → (n == n) ≡ true
      eq_itself n = eq-eqb n n refl

  -- so each of its requirements counts
  all_count : (p d : ℕ) → marked left p ≡ true → requirement_counts catalog (leaving marks []) p d ≡ true
  all_count p d own = ap (λ b. (not b || marked marks.verify p) || holds catalog (dependency catalog d) (installed_set catalog)) (not_installed p own)

  -- and packages meet it alone
  met_alone : (p : ℕ) (a : Package) → package_at catalog p ≡ Some a → marked left p ≡ true → list_all (λ need. package_wise (dependency catalog need.dep)) a.requires_ ≡ true
  met_alone p a at own = elim (cases_Bool (list_all (λ need. package_wise (dependency catalog need.dep)) a.requires_)) [
    | inl y ↦ y
    | inr n ↦ absurd (false≢true (sym (out.rich p (ap (λ o. passes o (λ b. not (list_all (λ need. package_wise (dependency catalog need.dep)) b.requires_))) at ∙ ap not n)) ∙ own))
  ]

  abbrev count : ℕ
  count = length catalog.universe.packages

  -- how many rules are not made, and how many clauses they have, package by package
  abbrev pub rules_table : List ℕ
  rules_table = sums_from 0 (map (unmade_rules catalog left) (members catalog))

  abbrev pub clauses_table : List ℕ
  clauses_table = sums_from 0 (map (unmade_clauses catalog left) (members catalog))

  -- a table of all packages has no sum before the first, and one more for each
  first_of : (u : ℕ → ℕ) → u 0 ≡ 0 → sum_at (sums_from 0 (map u (members catalog))) 1 ≡ 0
  first_of u none = first_sum (0 + u 0) (map u (packages catalog)) ∙ (omega (arith, none))

  step_of : (u : ℕ → ℕ) (p : ℕ) → p ≤ count → sum_at (sums_from 0 (map u (members catalog))) (suc p) ≡ sum_at (sums_from 0 (map u (members catalog))) p + u p
  step_of u p le =
      let lt : p < suc count = omega (arith, le) in
      next_sum u 0 0 (suc count) p lt ∙ ap (λ n. sum_at (sums_from 0 (map u (members catalog))) p + u n) (nothing_before p)

  -- rules weigh one each
  abbrev ones : ℕ → Need → ℕ
  ones p need = 1

  own_rules : (p : ℕ) (o : Option Package) → (if marked left p then option_map_or (λ a. length a.requires_) o 0 else 0) ≡ own_by catalog flags jobs marks left one_each ones (sum_at rules_table) p o
  own_rules p None = refl
  own_rules p (Some a) = ap (λ n. if marked left p then n else 0) (sym (total_ones a.requires_))

  weigh_rules : (p : ℕ) (a : Package) → package_at catalog p ≡ Some a → Weighs catalog flags jobs marks left one_each ones (sum_at rules_table) p a
  weigh_rules p a at own need there = (all_count p need.dep own, refl)

  rule_sums : (k : ℕ) → weight one_each (made_among catalog flags jobs marks left) k
      ≡ option_map_or (λ x. sum_at rules_table (stage_of count x)) (slice_get (hard_rules_by catalog flags jobs (leaving marks left)) k) (sum_at rules_table (suc count))
  rule_sums k =
      let all = sums_made catalog flags jobs marks left one_each ones (sum_at rules_table) (λ p le. step_of (unmade_rules catalog left) p le ∙ ap (λ n. sum_at rules_table p + n) (own_rules p (package_at catalog p))) weigh_rules k in
      let none = first_of (unmade_rules catalog left) (no_more (marked left 0)) in
      without_first (sum_at rules_table 1) (weight one_each (made_among catalog flags jobs marks left) k) _ none all
    where
      without_first : (m v o : ℕ) → m ≡ 0 → m + v ≡ o → v ≡ o
      without_first m v o e f = omega (arith, e, f)

  -- and each as many clauses as it has
  abbrev clause_each : ℕ → Need → ℕ
  clause_each p need = if gives_clause catalog p need.dep then 1 else 0

  own_clauses : (p : ℕ) (o : Option Package) → (if marked left p then option_map_or (λ a. needed_clauses catalog p a.requires_) o 0 else 0) ≡ own_by catalog flags jobs marks left (clauses_each catalog) clause_each (sum_at clauses_table) p o
  own_clauses p None = refl
  own_clauses p (Some a) = ap (λ n. if marked left p then n else 0) (sym (total_passing (λ need. gives_clause catalog p need.dep) a.requires_))

  weigh_clauses : (p : ℕ) (a : Package) → package_at catalog p ≡ Some a → Weighs catalog flags jobs marks left (clauses_each catalog) clause_each (sum_at clauses_table) p a
  weigh_clauses p a at own need there = (all_count p need.dep own, requirement_clauses catalog p need.dep (all_at (λ n. package_wise (dependency catalog n.dep)) a.requires_ need (met_alone p a at own) there))

  clause_sums : (k : ℕ) → weight (clauses_each catalog) (made_among catalog flags jobs marks left) k
      ≡ option_map_or (λ x. sum_at clauses_table (stage_of count x)) (slice_get (hard_rules_by catalog flags jobs (leaving marks left)) k) (sum_at clauses_table (suc count))
  clause_sums k =
      let all = sums_made catalog flags jobs marks left (clauses_each catalog) clause_each (sum_at clauses_table) (λ p le. step_of (unmade_clauses catalog left) p le ∙ ap (λ n. sum_at clauses_table p + n) (own_clauses p (package_at catalog p))) weigh_clauses k in
      let none = first_of (unmade_clauses catalog left) (no_more (marked left 0)) in
      without_first (sum_at clauses_table 1) (weight (clauses_each catalog) (made_among catalog flags jobs marks left) k) _ none all
    where
      without_first : (m v o : ℕ) → m ≡ 0 → m + v ≡ o → v ≡ o
      without_first m v o e f = omega (arith, e, f)

  -- so the places by the tables are the places among all
  module _ (book : Written) (is : IsBook catalog book) (rules : read_rules book.rules ≡ hard_rules_by catalog flags jobs (leaving marks left)) where
    abbrev t : Thinned left (hard_rules_by catalog flags jobs (leaving marks left)) (hard_rules_by catalog flags jobs (leaving marks []))
    t = made_among catalog flags jobs marks left

    rule_sum : (k : ℕ) → weight one_each t k ≡ sum_at rules_table (stage_at book.rules.list count k)
    rule_sum k =
        rule_sums k
        ∙ ap (λ l. option_map_or (λ x. sum_at rules_table (stage_of count x)) (slice_get l k) (sum_at rules_table (suc count))) (sym rules)
        ∙ by_stage (sum_at rules_table) count book.rules.sets book.rules.list k

    clause_sum : (k : ℕ) → weight (clauses_each catalog) t k ≡ sum_at clauses_table (stage_at book.rules.list count k)
    clause_sum k =
        clause_sums k
        ∙ ap (λ l. option_map_or (λ x. sum_at clauses_table (stage_of count x)) (slice_get l k) (sum_at clauses_table (suc count))) (sym rules)
        ∙ by_stage (sum_at clauses_table) count book.rules.sets book.rules.list k

    -- at the end, all of them
    last_rules : weight one_each t (length (hard_rules_by catalog flags jobs (leaving marks left))) ≡ sum_at rules_table (suc count)
    last_rules =
        rule_sums (length (hard_rules_by catalog flags jobs (leaving marks left)))
        ∙ ap (λ o. option_map_or (λ x. sum_at rules_table (stage_of count x)) o (sum_at rules_table (suc count))) (none_behind (hard_rules_by catalog flags jobs (leaving marks left)))

    last_clauses : weight (clauses_each catalog) t (length (hard_rules_by catalog flags jobs (leaving marks left))) ≡ sum_at clauses_table (suc count)
    last_clauses =
        clause_sums (length (hard_rules_by catalog flags jobs (leaving marks left)))
        ∙ ap (λ o. option_map_or (λ x. sum_at clauses_table (stage_of count x)) o (sum_at clauses_table (suc count))) (none_behind (hard_rules_by catalog flags jobs (leaving marks left)))

    pub rule_place : (k : ℕ) → rule_by book.rules.list count rules_table k ≡ rule_among left (hard_rules_by catalog flags jobs (leaving marks [])) k
    rule_place k = ap (λ n. k + n) (sym (rule_sum k)) ∙ sym (place_weight t k) ∙ place_is catalog flags jobs marks left k

    pub clause_place : (k : ℕ) → clause_by book.rules.list book.owners count clauses_table k ≡ clause_among catalog left (hard_rules_by catalog flags jobs (leaving marks [])) k
    clause_place k =
        let f : ℕ → ℕ = λ n. sum_at clauses_table (stage_at book.rules.list count n) in
        let d : ℕ = sum_at clauses_table (suc count) in
        let owners : book.owners ≡ owners_from catalog 0 (hard_rules_by catalog flags jobs (leaving marks left)) = is.owners ∙ ap (owners_from catalog 0) rules in
        let found = clause_weight catalog t f d 0 0 k (λ j. ap f (nothing_before j) ∙ sym (clause_sum j) ∙ sym (nothing_before _)) (sym last_clauses ∙ sym (nothing_before _)) in
        ap (λ n. k + n) (sym (mapped_or (sum_at clauses_table) (stage_at book.rules.list count) (slice_get book.owners k) (suc count)))
        ∙ ap (λ l. k + option_map_or f (slice_get l k) d) owners
        ∙ sym found
        ∙ nothing_before (clause_at catalog t k)
        ∙ clause_is catalog flags jobs marks left k

-- where tables of these sums are kept beside a book of the rules that are made, they tell all places
pub are_places : (task : Task) (left : List Bool) (book : Written) → LeavesOut (catalog_of task) task.flags task.jobs (marks_of task) left → IsBook (catalog_of task) book
    → read_rules book.rules ≡ hard_rules_by (catalog_of task) task.flags task.jobs (leaving (marks_of task) left) → (tables : PlacesOf)
    → tables.rules ≡ book.rules.list → tables.owners ≡ book.owners → tables.count ≡ length task.universe.packages
    → tables.rules_before ≡ sums_from 0 (map (unmade_rules (catalog_of task) left) (members (catalog_of task)))
    → tables.clauses_before ≡ sums_from 0 (map (unmade_clauses (catalog_of task) left) (members (catalog_of task)))
    → tables.more ≡ sum_at tables.rules_before (tables.count + 1) → ArePlaces task left tables
are_places task left book out is made tables same_rules same_owners same_count first second more =
    let catalog : Catalog = catalog_of task in
    let flags : Flags = task.flags in
    let jobs : List Job = task.jobs in
    let marks : Marks = marks_of task in
    let count_ : ℕ = length task.universe.packages in
    let rules_ : List ℕ = sums_from 0 (map (unmade_rules catalog left) (members catalog)) in
    let clauses_ : List ℕ = sums_from 0 (map (unmade_clauses catalog left) (members catalog)) in
    let next : count_ + 1 ≡ suc count_ = omega arith in
    record {
      rule = λ k.
          let same : rule_by tables.rules tables.count tables.rules_before k ≡ rule_by book.rules.list count_ rules_ k = λ i. rule_by (same_rules i) (same_count i) (first i) k in
          same ∙ rule_place catalog flags jobs marks left out book is made k;
      clause = λ k.
          let same : clause_by tables.rules tables.owners tables.count tables.clauses_before k ≡ clause_by book.rules.list book.owners count_ clauses_ k = λ i. clause_by (same_rules i) (same_owners i) (same_count i) (second i) k in
          same ∙ clause_place catalog flags jobs marks left out book is made k;
      more =
          let same : sum_at tables.rules_before (tables.count + 1) ≡ sum_at rules_ (count_ + 1) = λ i. sum_at (first i) (same_count i + 1) in
          more ∙ same ∙ ap (sum_at rules_) next ∙ sym (last_rules catalog flags jobs marks left out book is made)
          ∙ sym (more_among (made_among catalog flags jobs marks left) (λ x h. all_made catalog flags jobs marks left x h));
    }
