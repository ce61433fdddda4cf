-- What a book gives a core, and what the first run finds.
use Rattle.std.proofs.Common.{◌≡◌, ◌<◌, ◌≤◌, ◌+◌, ◌*◌, ℕ, suc, Bool, true, false, List, [], ◌∷◌, ◌++◌, Option, Some, None, refl, sym, ap, ◌∙◌, subst, arith, if◌then◌else◌}
use Rattle.std.specs.Prelude.{ℤ, pos, negsuc, nat_lt, nat_le, flat_map, length, fold, ◌==◌}
use Rattle.std.specs.List.{list_all, range_with_len}
use Rattle.std.proofs.lemmas.Bool.{and_parts, and_from, lt-ltb, le-leb, eqb-true}
use Rattle.solv_pool.specs.Prelude.{IsWellFounded, is_among, Catalog, rule_clauses, words, words_of_all, HardRule, rule_with, shape_of, names_package, is_over, are_over}
use Rattle.solv_pool.specs.Laws.{ClausesNamePackages, names_packages}
use Rattle.solv_pool.specs.Laws.{names_package as names_one}
use Rattle.solv_pool.specs.declared.hard_rules.Rules.{Rules}
use Rattle.solv_core.specs.Cores.{CoreOf}
use Rattle.solv_rules.specs.Books.{most_words, rich_fault, overrun, first_fault, is_bookable, has_form}
use Rattle.solv_rules.specs.Inner.Books.{or_else, rule_fault}
use Rattle.solv_rules.specs.declared.fault.BookFault.{BookFault}
use Rattle.solv_rules.specs.declared.fault.BookFault.TheVariants.{TooManyWords}
use Rattle.std.proofs.lemmas.Bool.Decides.{nat_tests}
use Rattle.solv_rules.specs.Books.{owners_from, read_rules}
use Rattle.solv_questions.specs.Inner.Law.{AsksInForm}
use Rattle.solv_questions.specs.Questions.{Request, rules_of}
use Rattle.solv_plan.specs.Inner.PlanOf.{plan_of}
use Rattle.solv_decide.specs.Inner.Deciding.{Asker, IsAskedFor}
use Rattle.solv_rules.proofs.InRange.{clauses_over}
use Rattle.solv_decide.proofs.Enabling.{lengths_are, owners_below}
use Rattle.solv_pool.proofs.Members.{Has, any_has}
use Rattle.solv_questions.proofs.Asking.{in_range}
use Rattle.solv_list.proofs.Lists.{all_weaker, list_all_join}
use Rattle.std.proofs.lemmas.List.{length-map}

module _ (catalog : Catalog) where
  -- where there is no fault, each word is within the limit
  none_first : (a b : Option BookFault) → or_else a b ≡ None → (a ≡ None) × (b ≡ None)
  none_first None b h = (refl, h)
  none_first (Some x) b h = absurd (cc)

  fold_from : (n : ℕ) (cs : List (List ℤ)) → fold (λ a x. a + words x) n cs ≡ n + words_of_all cs
  fold_from n [] = omega arith
  fold_from n (c ∷ cs) =
      let first = fold_from (n + words c) cs in
      let second = fold_from (0 + words c) cs in
      omega (arith, first, second)

  zero_add : (n : ℕ) → 0 + n ≡ n
  zero_add n = omega arith

  words-cons : (c : List ℤ) (cs : List (List ℤ)) → words_of_all (c ∷ cs) ≡ words c + words_of_all cs
  words-cons c cs = ap (λ n. fold (λ a x. a + words x) n cs) (zero_add (words c)) ∙ fold_from (words c) cs

  overrun_within : (before : ℕ) (cs : List (List ℤ)) → before ≤ most_words → overrun before cs ≡ None → before + words_of_all cs ≤ most_words
  overrun_within before [] h e = omega (arith, h)
  overrun_within before (c ∷ cs) h e = step (nat_lt most_words (before + words c)) refl (λ k n. overrun_within (before + words c) cs k n) e
    where
      step : (b : Bool) → nat_lt most_words (before + words c) ≡ b → (before + words c ≤ most_words → overrun (before + words c) cs ≡ None → before + words c + words_of_all cs ≤ most_words)
          → (if b then Some (TooManyWords (before + words c)) else overrun (before + words c) cs) ≡ None → before + words_of_all (c ∷ cs) ≤ most_words
      step true t go n = absurd (cc)
      step false t go n = let small : before + words c ≤ most_words = grind (arith, nat_tests, t) in let r = go small n in omega (arith, r, words-cons c cs)

  words_each : (cs : List (List ℤ)) → 4 * length cs ≤ words_of_all cs
  words_each [] = omega arith
  words_each (c ∷ cs) = let r = words_each cs in omega (arith, r, words-cons c cs)

  words_join : (xs ys : List (List ℤ)) → words_of_all (xs ++ ys) ≡ words_of_all xs + words_of_all ys
  words_join [] ys = omega arith
  words_join (x ∷ xs) ys = let r = words_join xs ys in omega (arith, r, words-cons x xs, words-cons x (xs ++ ys))

  all_within : (before : ℕ) (rules : List HardRule) → before ≤ most_words → first_fault catalog before rules ≡ None → before + words_of_all (flat_map (rule_clauses catalog) rules) ≤ most_words
  all_within before [] h e = omega (arith, h)
  all_within before (r ∷ rules) h e =
      let both = none_first (rule_fault catalog before r) (first_fault catalog (before + words_of_all (rule_clauses catalog r)) rules) e in
      let own = overrun_within before (rule_clauses catalog r) h (none_first (rich_fault catalog (shape_of r)) (overrun before (rule_clauses catalog r)) both.0).1 in
      let rest = all_within (before + words_of_all (rule_clauses catalog r)) rules own both.1 in
      let join = words_join (rule_clauses catalog r) (flat_map (rule_clauses catalog) rules) in
      omega (arith, rest, join)

  -- so a book that fits has few clauses
  pub few_clauses : (rules : List HardRule) → first_fault catalog 0 rules ≡ None → length (flat_map (rule_clauses catalog) rules) ≤ 134217728
  few_clauses rules e =
      let all = all_within 0 rules (omega arith) e in
      let each = words_each (flat_map (rule_clauses catalog) rules) in
      omega (arith, all, each)

-- what a core owes of the clauses of a book and their owners
module _ (catalog : Catalog) (rules : List HardRule) (clauses : List (List ℤ)) (are : clauses ≡ flat_map (rule_clauses catalog) rules) where
  pub owner_each : (owners : List ℕ) → owners ≡ owners_from catalog 0 rules → length owners ≡ length clauses
  owner_each owners is = ap length is ∙ lengths_are catalog 0 rules ∙ sym (ap length are)

  pub few_are : first_fault catalog 0 rules ≡ None → length clauses ≤ 134217728
  few_are fits = let few = few_clauses catalog rules fits in let same = ap length are in omega (arith, same, few)

  pub all_over : ClausesNamePackages → list_all (is_bookable catalog) rules ≡ true → (count : ℕ) → count ≡ length catalog.universe.packages → are_over count clauses ≡ true
  all_over law bookable count same = ap (λ n. are_over n clauses) same ∙ ap (are_over (length catalog.universe.packages)) are ∙ clauses_over catalog law rules bookable

-- a core over a book is asked for by who has the plan
pub asked_for : (r : Request) (asker : Asker) (core : CoreOf) (clauses : List (List ℤ)) (owners : List ℕ) (rules : List HardRule)
    → asker ≡ record { plan = plan_of r; packages = length r.catalog.universe.packages } → core ≡ record { clauses = clauses; owners = owners; packages = length r.catalog.universe.packages }
    → clauses ≡ flat_map (rule_clauses r.catalog) rules → owners ≡ owners_from r.catalog 0 rules → rules ≡ rules_of r
    → AsksInForm r → IsWellFounded r.catalog.pool.nodes → are_over (length r.catalog.universe.packages) clauses ≡ true → IsAskedFor r asker core
asked_for r asker core clauses owners rules is_asker is_core of_clauses of_owners same formed founded over = record {
  plan = ap (λ a. a.plan) is_asker;
  packages = ap (λ a. a.packages) is_asker;
  formed = formed;
  founded = founded;
  clauses = ap (λ c. c.clauses) is_core ∙ of_clauses ∙ ap (λ l. flat_map (rule_clauses r.catalog) l) same;
  owners = ap (λ c. c.owners) is_core ∙ of_owners ∙ ap (λ l. owners_from r.catalog 0 l) same;
  count = ap (λ c. c.packages) is_core;
  over = ap (λ c. are_over c.packages c.clauses) is_core ∙ over;
}

-- each owner has an entry
pub owners_fit : (catalog : Catalog) (rules : List HardRule) (owners : List ℕ) (m : ℕ) → owners ≡ owners_from catalog 0 rules → m ≡ length rules → list_all (λ o. nat_lt o m) owners ≡ true
owners_fit catalog rules owners m is size = ap (λ l. list_all (λ o. nat_lt o m) l) is ∙ owners_below catalog m 0 rules (omega (arith, size))

-- as many rules as are read
pub length_read : (rules : Rules) → length (read_rules rules) ≡ length rules.list
length_read rules = length-map rules.list (rule_with rules.sets)
