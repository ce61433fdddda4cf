-- The rules of a task name its packages; so the system alone meets the fixed ones, and no rule speaks of anything else.
use Rattle.std.proofs.Common.{◌≡◌, ℕ, zero, suc, Bool, true, false, not, ◌&&◌, ◌||◌, List, length, Some, refl, ap, subst, arith}
use Rattle.std.specs.Prelude.{filter, ◌==◌, Contains}
use Rattle.std.specs.List.{list_all}
use Rattle.std.specs.Bool.{beq}
use Rattle.solv_base.specs.Dependency.{Dep, and, or, if_holds, unless_holds, joined, under, under_else, missing}
use Rattle.solv_pool.specs.declared.jobs.Job.{Job}
use Rattle.solv_pool.specs.declared.job_marks.Marks.{Marks}
use Rattle.solv_pool.specs.declared.tasks.Flags.{Flags}
use Rattle.solv_pool.specs.declared.tasks.Task.{Task}
use Rattle.solv_pool.specs.Words.{is_among}
use Rattle.solv_pool.specs.Catalog.{Catalog, catalog_of, packages, members, dependency, is_installed}
use Rattle.solv_pool.specs.Holding.{package_meets, member_meets, holds, leaving_out}
use Rattle.solv_pool.specs.JobMarks.{marks_of}
use Rattle.solv_pool.specs.RuleMeaning.{HardRule, not_installable, req, con, rich_con, obs, same, infarch, update, dup, feature, install, erase, lock, best_job, best_update, Shape, out, requirement, conflict, not_both, some_of, none_of, as_installed, shape_of, meets_shape, is_fixed, meets_rule}
use Rattle.solv_pool.specs.HardRules.{is_kept, kept_packages, hard_rules}
use Rattle.solv_pool.specs.Laws.{shape_names, names_besides, names_packages, system_alone, AgreeOn}
use Rattle.solv_pool.proofs.Tests.{ap2}
use Rattle.solv_pool.proofs.Members.{Has, has_among, of_filtered}
use Rattle.solv_pool.proofs.Origins.{IsFrom, IsChosen, has_chosen, all_from}
use Rattle.solv_pool.proofs.Lists.{among_itself, passes_in, list_any_agree, list_all_agree, zero_not_among}
use Rattle.solv_list.proofs.Booleans.{first_of_both, second_of_both}
use Rattle.solv_list.proofs.Lists.{list_all_filter}
use Rattle.solv_list.proofs.Numbers.{successor_not_zero}
use Rattle.std.proofs.lemmas.Bool.{and_from, or_right}

module _ (catalog : Catalog) where
  abbrev pub is_package : ℕ → Bool
  is_package p = is_among (packages catalog) p

  abbrev pub is_member : ℕ → Bool
  is_member p = is_among (members catalog) p

  pub package-member : (p : ℕ) → is_package p ≡ true → is_member p ≡ true
  package-member p h = or_right (0 == p) (is_package p) h

  all_packages : list_all is_package (packages catalog) ≡ true
  all_packages = among_itself (packages catalog)

  pub all_members : list_all is_member (members catalog) ≡ true
  all_members = among_itself (members catalog)

  filtered : (test : ℕ → Bool) → list_all is_package (filter test (packages catalog)) ≡ true
  filtered test = list_all_filter is_package test (packages catalog) all_packages

  two_named : (p q : ℕ) → Has (packages catalog) p → Has (packages catalog) q → (is_package q && (is_package p && is_member q)) ≡ true
  two_named p q h k =
      let there = has_among (packages catalog) q k in
      and_from (is_package q) (is_package p && is_member q) there (and_from (is_package p) (is_member q) (has_among (packages catalog) p h) (package-member q there))

  module _ (flags : Flags) (marks : Marks) (jobs : List Job) where
    -- the list that a rule asks for has packages alone
    list_named : (xs : List ℕ) → IsChosen catalog xs → list_all is_package xs ≡ true
    list_named xs own = subst (λ ys. list_all is_package ys ≡ true) own.is (filtered own.test)

    kept_named : (p : ℕ) (xs : List ℕ) → Has (kept_packages catalog flags marks) p → IsChosen catalog xs → (is_package p && list_all is_package xs) ≡ true
    kept_named p xs h own =
        and_from (is_package p) (list_all is_package xs) (has_among (packages catalog) p (of_filtered (is_kept catalog flags marks) (packages catalog) p h).0) (list_named xs own)

    -- each rule names packages
    pub rule_named : (x : HardRule) → IsFrom catalog flags marks jobs x → names_packages catalog x ≡ true
    rule_named (not_installable p) own = has_among (packages catalog) p own
    rule_named (req p d) own = has_among (packages catalog) p own.there
    rule_named (con p d q) own = and_from (is_package p) (is_member q) (has_among (packages catalog) p own.0) (has_among (members catalog) q own.1)
    rule_named (rich_con p d) own = has_among (packages catalog) p own.there
    rule_named (obs p d q) own = two_named p q own.0 own.1
    rule_named (same p q) own = two_named p q own.0 own.1
    rule_named (infarch p) own = has_among (packages catalog) p own
    rule_named (update p xs) own = kept_named p xs own.0 (has_chosen catalog flags marks jobs (update p xs) own)
    rule_named (dup p xs) own = kept_named p xs own.0 (has_chosen catalog flags marks jobs (dup p xs) own)
    rule_named (feature p xs) own = kept_named p xs own.0 (has_chosen catalog flags marks jobs (feature p xs) own)
    rule_named (best_update j p xs) own =
        and_from (is_package p) (list_all is_package xs) (has_among (packages catalog) p own.there) (list_named xs (has_chosen catalog flags marks jobs (best_update j p xs) own))
    rule_named (install j xs) own = list_named xs (has_chosen catalog flags marks jobs (install j xs) own)
    rule_named (erase j xs) own = list_named xs (has_chosen catalog flags marks jobs (erase j xs) own)
    rule_named (lock j xs) own = list_named xs (has_chosen catalog flags marks jobs (lock j xs) own)
    rule_named (best_job j xs) own = list_named xs (has_chosen catalog flags marks jobs (best_job j xs) own)

-- each hard rule of a task names its packages
pub hard_rule-named : (task : Task) (r : HardRule) → Contains (hard_rules task) r → names_packages (catalog_of task) r ≡ true
hard_rule-named task r at = passes_in (names_packages (catalog_of task)) (hard_rules task) r (all_from (catalog_of task) task.flags (marks_of task) task.jobs (names_packages (catalog_of task)) (rule_named (catalog_of task) task.flags (marks_of task) task.jobs)) at

-- a package is not the system
not_alone : (catalog : Catalog) (p : ℕ) → is_package catalog p ≡ true → system_alone p ≡ false
not_alone catalog zero h = absurd (clash (zero_not_among 1 (length catalog.universe.packages) (omega arith)) h)
  where
    clash : {b : Bool} → b ≡ false → b ≡ true → ⊥
    clash f t = cc
not_alone catalog (suc k) h = successor_not_zero k

-- a shape without a list
abbrev has_no_list : Shape → Bool
has_no_list (some_of xs) = false
has_no_list (none_of xs) = false
has_no_list (as_installed xs) = false
has_no_list _ = true

-- the system alone meets it, where it names packages
alone-fits : (catalog : Catalog) (s : Shape) → shape_names catalog s ≡ true → has_no_list s ≡ true → meets_shape catalog s system_alone ≡ true
alone-fits catalog (out p) n f = ap not (not_alone catalog p n)
alone-fits catalog (requirement p d) n f = rw (not_alone catalog p n) refl
alone-fits catalog (conflict p d) n f = rw (not_alone catalog p n) refl
alone-fits catalog (not_both p q) n f = rw (not_alone catalog p (first_of_both _ _ n)) refl
alone-fits catalog _ n f = cc

-- a fixed rule has none
fixed-without : (r : HardRule) → is_fixed r ≡ true → has_no_list (shape_of r) ≡ true
fixed-without (infarch p) f = refl
fixed-without _ f = f

-- the system alone meets a fixed rule that names packages
pub alone-meets : (catalog : Catalog) (r : HardRule) → names_packages catalog r ≡ true → is_fixed r ≡ true → meets_rule catalog r system_alone ≡ true
alone-meets catalog r n f = alone-fits catalog (shape_of r) (second_of_both (names_besides catalog r) _ n) (fixed-without r f)

module _ (catalog : Catalog) where
  -- a dependency holds alike in sets that agree on the members
  holds-agree : (s t : ℕ → Bool) → AgreeOn (members catalog) s t → (d : Dep ℕ) → holds catalog d s ≡ holds catalog d t
  holds-agree s t h d = go d
    where
      alone : (d : Dep ℕ) → member_meets catalog d s ≡ member_meets catalog d t
      alone d = list_any_agree (is_member catalog) (λ p. s p && package_meets catalog d p) (λ p. t p && package_meets catalog d p)
          (λ p k. ap (λ b. b && package_meets catalog d p) (h p k)) (members catalog) (all_members catalog)

      go : (d : Dep ℕ) → holds catalog d s ≡ holds catalog d t
      go (joined and a b) = ap2 (λ m n. m && n) (go a) (go b)
      go (joined or a b) = ap2 (λ m n. m || n) (go a) (go b)
      go (under if_holds a b) = ap2 (λ m n. m || not n) (go a) (go b)
      go (under unless_holds a b) = ap2 (λ m n. m && not n) (go a) (go b)
      go (under_else if_holds a b c) = rw (go a, go b, go c)
      go (under_else unless_holds a b c) = rw (go a, go b, go c)
      go missing = refl
      go d = alone d

  -- a shape that names packages is met alike
  shapes-agree : (s t : ℕ → Bool) (x : Shape) → AgreeOn (members catalog) s t → shape_names catalog x ≡ true → meets_shape catalog x s ≡ meets_shape catalog x t
  shapes-agree s t (out p) h n = ap not (h p (package-member catalog p n))
  shapes-agree s t (requirement p d) h n = ap2 (λ m k. not m || k) (h p (package-member catalog p n)) (holds-agree s t h (dependency catalog d))
  shapes-agree s t (conflict p d) h n = ap2 (λ m k. not m || not k) (h p (package-member catalog p n))
      (holds-agree (leaving_out (Some p) s) (leaving_out (Some p) t) (λ q k. ap (λ b. not (q == p) && b) (h q k)) (dependency catalog d))
  shapes-agree s t (not_both p q) h n = ap2 (λ m k. not (m && k)) (h p (package-member catalog p (first_of_both _ _ n))) (h q (second_of_both _ _ n))
  shapes-agree s t (some_of xs) h n = list_any_agree (is_package catalog) s t (λ q k. h q (package-member catalog q k)) xs n
  shapes-agree s t (none_of xs) h n = ap not (list_any_agree (is_package catalog) s t (λ q k. h q (package-member catalog q k)) xs n)
  shapes-agree s t (as_installed xs) h n = list_all_agree (is_package catalog) _ _ (λ q k. ap (λ b. beq b (is_installed catalog q)) (h q (package-member catalog q k))) xs n

  -- and so is a rule
  pub meets-agree : (s t : ℕ → Bool) (r : HardRule) → AgreeOn (members catalog) s t → names_packages catalog r ≡ true → meets_rule catalog r s ≡ meets_rule catalog r t
  meets-agree s t r h n = shapes-agree s t (shape_of r) h (second_of_both (names_besides catalog r) _ n)
