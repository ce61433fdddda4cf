-- The clauses of rules of which a book can be made name packages.
use Rattle.std.proofs.Common.{◌≡◌, ◌<◌, ◌≤◌, ◌+◌, ◌*◌, ℕ, suc, Bool, true, false, List, [], ◌∷◌, ◌++◌, Option, Some, None, refl, sym, ap, ◌∙◌, subst, arith, if◌then◌else◌}
use Rattle.std.specs.Prelude.{ℤ, pos, negsuc, nat_lt, nat_le, flat_map, length, fold, ◌==◌}
use Rattle.std.specs.List.{list_all, range_with_len}
use Rattle.std.proofs.lemmas.Bool.{and_parts, and_from, lt-ltb, le-leb, eqb-true}
use Rattle.solv_pool.specs.Prelude.{IsWellFounded, is_among, Catalog, rule_clauses, words, words_of_all, HardRule, rule_with, shape_of, names_package, is_over, are_over}
use Rattle.solv_pool.specs.Laws.{ClausesNamePackages, names_packages}
use Rattle.solv_pool.specs.Laws.{names_package as names_one}
use Rattle.solv_pool.specs.declared.hard_rules.Rules.{Rules}
use Rattle.solv_rules.specs.Books.{most_words, rich_fault, overrun, first_fault, is_bookable, has_form}
use Rattle.solv_rules.specs.Inner.Books.{or_else, rule_fault}
use Rattle.solv_rules.specs.declared.fault.BookFault.{BookFault}
use Rattle.solv_rules.specs.declared.fault.BookFault.TheVariants.{TooManyWords}
use Rattle.std.proofs.lemmas.Bool.Decides.{nat_tests}
use Rattle.solv_rules.specs.Books.{owners_from, read_rules}
use Rattle.solv_pool.proofs.Members.{Has, any_has}
use Rattle.solv_list.proofs.Lists.{all_weaker, list_all_join}
use Rattle.std.proofs.lemmas.List.{length-map}
use Rattle.solv_pool.proofs.Among.{in_range}

module _ (catalog : Catalog) where
  literal_over : (l : ℤ) → names_one catalog l ≡ true → names_package (length catalog.universe.packages) l ≡ true
  literal_over (pos p) h =
      let r = in_range 1 (length catalog.universe.packages) p h in
      and_from (nat_lt 0 p) (nat_le p (length catalog.universe.packages)) (lt-ltb 0 p (omega (arith, r.0))) (le-leb p (length catalog.universe.packages) (omega (arith, r.1)))
  literal_over (negsuc k) h =
      let r = in_range 1 (length catalog.universe.packages) (suc k) h in
      and_from (nat_lt 0 (suc k)) (nat_le (suc k) (length catalog.universe.packages)) (lt-ltb 0 (suc k) (omega (arith, r.0))) (le-leb (suc k) (length catalog.universe.packages) (omega (arith, r.1)))

  clause_over : (c : List ℤ) → list_all (names_one catalog) c ≡ true → is_over (length catalog.universe.packages) c ≡ true
  clause_over c h = all_weaker (names_one catalog) (names_package (length catalog.universe.packages)) literal_over c h

  -- the clauses of rules of which a book can be made name packages
  pub clauses_over : ClausesNamePackages → (rules : List HardRule) → list_all (is_bookable catalog) rules ≡ true → are_over (length catalog.universe.packages) (flat_map (rule_clauses catalog) rules) ≡ true
  clauses_over law [] h = refl
  clauses_over law (r ∷ rules) h =
      let both = and_parts (is_bookable catalog r) (list_all (is_bookable catalog) rules) h in
      list_all_join (is_over (length catalog.universe.packages)) (rule_clauses catalog r) (flat_map (rule_clauses catalog) rules)
      (all_weaker (list_all (names_one catalog)) (is_over (length catalog.universe.packages)) clause_over (rule_clauses catalog r) (law catalog r (and_parts (names_packages catalog r) (has_form catalog (shape_of r)) both.0).0))
      (clauses_over law rules both.1)
