-- What may take the place of an installed package, and what does so in a distribution upgrade.
use Rattle.std.specs.Prelude.{ℕ, Bool, not, ◌||◌, List, filter, ◌==◌, nat_eq, if◌then◌else◌}
use Rattle.std.specs.Option.{option_eq}
use Rattle.std.specs.Ordering.{is_lt}
use Rattle.solv_pool.specs.Best.{compare_evrs}
use Rattle.solv_pool.specs.Catalog.{Catalog, packages, same_name}
use Rattle.solv_pool.specs.Installable.{is_noarch}
use Rattle.solv_pool.specs.declared.packages.Package.{Package}
use Rattle.solv_pool.specs.declared.tasks.Flags.{Flags}
use Rattle.solv_pool.specs.declared.job_marks.Marks.{Marks}
use Rattle.solv_pool.specs.Updates.{is_legal}

module _ (catalog : Catalog) (flags : Flags) where
  -- a lower EVR of p's name is a downgrade; another name is a change of name
  abbrev pub name_allows : ℕ → ℕ → Bool
  name_allows p q = if same_name catalog p q then not (is_lt (compare_evrs catalog q p)) || flags.allow_downgrade else flags.allow_name_change

  -- from noarch and to noarch is no change of architecture
  abbrev pub arch_allows : Package → Package → Bool
  arch_allows a b = (a.arch == b.arch) || (is_noarch catalog a || (is_noarch catalog b || flags.allow_arch_change))

  -- both may have no vendor
  abbrev pub vendor_allows : Package → Package → Bool
  vendor_allows a b = option_eq nat_eq a.vendor b.vendor || flags.allow_vendor_change

module _ (catalog : Catalog) (flags : Flags) (marks : Marks) where
  -- all packages that may take the place of p, ascending
  abbrev pub legal_set : ℕ → List ℕ
  legal_set p = filter (is_legal catalog flags marks p) (packages catalog)
