-- Booleans, and the records of packages.
use Rattle.std.proofs.Common.{◌≡◌, ◌<◌, ℕ, true, arith}
use Rattle.std.specs.Prelude.{nat_lt}
use Rattle.std.specs.List.{list_all}
use Rattle.std.proofs.lemmas.Bool.Decides.{nat_tests}
use Rattle.solv_pool.specs.Prelude.{fits, names_of}
use Rattle.solv_pool.specs.declared.packages.Package.{Package}
use Rattle.solv_list.proofs.Booleans.{first_of_both, second_of_both}

module _ (names nodes repos : ℕ) (a : Package) (h : fits names nodes repos a ≡ true) where
  all_names : list_all (λ n. nat_lt n names) (names_of a) ≡ true
  all_names = first_of_both (list_all (λ n. nat_lt n names) (names_of a)) _ h

  pub name_below : a.name < names
  name_below = let first : nat_lt a.name names ≡ true = first_of_both (nat_lt a.name names) _ all_names in grind (arith, nat_tests, first)

  pub evr_below : a.evr < names
  evr_below =
      let behind = second_of_both (nat_lt a.name names) _ all_names in
      let second : nat_lt a.evr names ≡ true = first_of_both (nat_lt a.evr names) _ behind in
      grind (arith, nat_tests, second)
