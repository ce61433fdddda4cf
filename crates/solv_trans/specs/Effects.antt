-- What changes take away and bring, and which packages are there after them.
use Rattle.std.specs.Prelude.{ℕ, Bool, true, not, ◌&&◌, ◌||◌, ◌==◌, ◌≡◌, List, filter, nat_le, slice_get, Option, Some, None}
use Rattle.std.specs.List.{list_any, list_all}
use Rattle.std.specs.List.Sorted.{IsStrictlyIncreasing}
use Rattle.solv_pool.specs.Words.{passes}
use Rattle.solv_pool.specs.Catalog.{Catalog, members, installed_set}
use Rattle.solv_trans.specs.declared.kinds.Change.{Change}
use Rattle.solv_trans.specs.declared.kinds.Change.TheVariants.{Install, Erase, Upgrade, Downgrade, Alter, Reinstall, Obsolete}

-- the package that a change takes away, and the one that it brings; what obsoletes a package has a line of its own, or is there already
abbrev pub ends : Change → Option ℕ × Option ℕ
ends (Install q) = (None, Some q)
ends (Erase p) = (Some p, None)
ends (Upgrade p q) = (Some p, Some q)
ends (Downgrade p q) = (Some p, Some q)
ends (Alter p q) = (Some p, Some q)
ends (Reinstall p q) = (Some p, Some q)
ends (Obsolete p q) = (Some p, None)

-- some change takes p away
abbrev pub is_taken : List Change → ℕ → Bool
is_taken changes p = list_any (λ change. passes (ends change).0 (λ x. x == p)) changes

-- some change brings p
abbrev pub is_brought : List Change → ℕ → Bool
is_brought changes p = list_any (λ change. passes (ends change).1 (λ x. x == p)) changes

module _ (catalog : Catalog) (changes : List Change) where
  -- p is there after the changes: it was installed, or is the system, and none takes it away; or one brings it
  abbrev pub is_there_after : ℕ → Bool
  is_there_after p = (installed_set catalog p && not (is_taken changes p)) || is_brought changes p

  -- all that is there, ascending
  abbrev pub after : List ℕ
  after = filter is_there_after (members catalog)

-- a set of so many packages at most as a list: the system stands first, and the numbers rise
pub record IsMemberList (count : ℕ) (set : List ℕ) : Type 0 where
  pub begins : slice_get set 0 ≡ Some 0
  pub rises : IsStrictlyIncreasing set
  pub within : list_all (λ p. nat_le p count) set ≡ true
