-- What a set of packages changes: a line for each installed package that goes, and one for each package that comes beside these.
use Rattle.std.specs.Prelude.{ℕ, Bool, not, ◌&&◌, List, ◌++◌, Option, find, map, filter, if◌then◌else◌}
use Rattle.std.specs.List.{list_any}
use Rattle.std.specs.Option.{option_map_or}
use Rattle.std.specs.Ordering.{is_gt}
use Rattle.std.specs.declared.cmp.Ordering.{Ordering}
use Rattle.std.specs.declared.cmp.Ordering.TheVariants.{Less, Equal, Greater}
use Rattle.solv_pool.specs.Best.{compare_evrs}
use Rattle.solv_pool.specs.Catalog.{Catalog, packages, is_installed, same_name}
use Rattle.solv_pool.specs.Providing.{obsoletes}
use Rattle.solv_pool.specs.Updates.{same_build}
use Rattle.solv_trans.specs.Effects.{is_brought}
use Rattle.solv_trans.specs.Moving.{comes}
use Rattle.solv_trans.specs.declared.kinds.Change.{Change}
use Rattle.solv_trans.specs.declared.kinds.Change.TheVariants.{Install, Erase, Upgrade, Downgrade, Alter, Reinstall, Obsolete}

module _ (catalog : Catalog) where
  -- q, of p's name, comes for p: by the order of q's EVR to p's; of one EVR the same build is installed anew, and another one is a change
  abbrev pub change_by : ℕ → ℕ → Ordering → Change
  change_by p q Greater = Upgrade p q
  change_by p q Less = Downgrade p q
  change_by p q Equal = if same_build catalog p q then Reinstall p q else Alter p q

module _ (catalog : Catalog) (set : ℕ → Bool) where
  -- of the packages of p's name that come the one with the greatest EVR: the first that none exceeds
  abbrev pub partner : ℕ → Option ℕ
  partner p =
      let these = filter (λ q. comes catalog set q && same_name catalog p q) (packages catalog) in
      find (λ q. not (list_any (λ r. is_gt (compare_evrs catalog r q)) these)) these

  -- the lowest package of the set that obsoletes p
  abbrev pub obsoleter : ℕ → Option ℕ
  obsoleter p = find (λ q. set q && obsoletes catalog q p) (packages catalog)

  -- the line of p, which leaves: by its partner, else by its obsoleter, else it is erased
  abbrev pub line_of : ℕ → Change
  line_of p = option_map_or (λ q. change_by catalog p q (compare_evrs catalog q p)) (partner p) (option_map_or (Obsolete p) (obsoleter p) (Erase p))

  -- the lines of all installed packages that are not in the set, in their order: for each something else comes, or it goes for good
  abbrev pub lines_of_leaving : List Change
  lines_of_leaving = map line_of (filter (λ p. is_installed catalog p && not (set p)) (packages catalog))

  -- all lines: first those of the packages that leave, then an install line for each package that comes beside them, being the partner of none
  abbrev pub changes : List Change
  changes = lines_of_leaving ++ map Install (filter (λ q. comes catalog set q && not (is_brought lines_of_leaving q)) (packages catalog))
