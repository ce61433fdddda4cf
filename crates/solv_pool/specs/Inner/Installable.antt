-- How architectures rank.
use Rattle.std.specs.Prelude.{ℕ, Option, Some, if◌then◌else◌}
use Rattle.std.specs.List.{position_from}
use Rattle.std.specs.Str.{bytes_eq}
use Rattle.solv_pool.specs.Catalog.{Catalog, text}
use Rattle.solv_pool.specs.Installable.{allowed_archs, is_noarch}
use Rattle.solv_pool.specs.declared.packages.Package.{Package}
use Rattle.solv_pool.specs.declared.universes.Arch.{Arch}

-- below every place among the allowed ones
abbrev pub last_rank : ℕ
last_rank = 5

-- the place of a package's architecture among those that a system allows
abbrev pub place_for : Catalog → Arch → Package → Option ℕ
place_for catalog arch a = if is_noarch catalog a then Some 0 else position_from (bytes_eq (text catalog a.arch)) 0 (allowed_archs arch)
