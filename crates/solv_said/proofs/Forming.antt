-- The packages of a script ask for what has the forms that the calls below want.
use Rattle.std.proofs.Common.{◌≡◌, ℕ, Bool, true, false}
use Rattle.std.specs.Prelude.{nat_le}
use Rattle.std.specs.List.{list_all}
use Rattle.std.proofs.lemmas.Bool.{and_parts, and_from}
use Rattle.solv_pool.specs.Prelude.{operators, fits_place, Catalog, catalog_of, dependency}
use Rattle.solv_pool.specs.TaskForms.{most_operators, has_form, is_formed, HasForms, asks_in_form}
use Rattle.solv_pool.specs.declared.packages.Package.{Package}
use Rattle.solv_pool.specs.declared.packages.Need.{Need}
use Rattle.solv_pool.specs.declared.tasks.Task.{Task}
use Rattle.solv_list.proofs.Lists.{all_weaker}

module _ (catalog : Catalog) where
  placed : (at : Bool) (d : ℕ) → has_form catalog at d ≡ true → fits_place at (dependency catalog d) ≡ true
  placed at d h = (and_parts (fits_place at (dependency catalog d)) (nat_le (operators (dependency catalog d)) most_operators) h).0

  asks : (a : Package) → is_formed catalog a ≡ true → asks_in_form catalog a ≡ true
  asks a formed =
      let parts = and_parts (list_all (λ (need : Need). has_form catalog true need.dep) a.requires_) _ formed in
      let conflicts = (and_parts (list_all (has_form catalog false) a.conflicts) _ parts.1).0 in
      and_from (list_all (λ (need : Need). fits_place true (dependency catalog need.dep)) a.requires_) (list_all (λ d. fits_place false (dependency catalog d)) a.conflicts)
      (all_weaker (λ (need : Need). has_form catalog true need.dep) (λ (need : Need). fits_place true (dependency catalog need.dep)) (λ need k. placed true need.dep k) a.requires_ parts.0)
      (all_weaker (has_form catalog false) (λ d. fits_place false (dependency catalog d)) (placed false) a.conflicts conflicts)

pub asks_formed : (task : Task) → HasForms task → list_all (asks_in_form (catalog_of task)) task.universe.packages ≡ true
asks_formed task forms = all_weaker (is_formed (catalog_of task)) (asks_in_form (catalog_of task)) (asks (catalog_of task)) task.universe.packages forms.packages
