-- Which forms the dependencies of packages have that a testtags file gives, each at its place.
use Rattle.std.specs.Prelude.{ℕ, Bool, ◌≡◌, ◌&&◌, true, false, List, ◌++◌, nat_le, Ok}
use Rattle.std.specs.List.{list_all}
use Rattle.solv_base.specs.Dependency.{Dep, operators}
use Rattle.solv_base.specs.Places.{fits_place}
use Rattle.solv_base.specs.Pool.{Held}
use Rattle.solv_deps.specs.Table.{is_capability}
use Rattle.solv_pool.specs.TaskForms.{most_operators}
use Rattle.solv_pool.specs.Written.{WrittenPackage}
use Rattle.solv_tags.specs.Testtags.{Repository, testtags}

-- may stand at a requirement (true), or at a conflict (false), with at most so many operators as a dependency may have
abbrev pub has_written_form : Bool → Dep (List ℕ) → Bool
has_written_form at d = fits_place at d && nat_le (operators d) most_operators

-- each dependency of a package has a form that may stand at its place
abbrev pub is_written_formed : WrittenPackage → Bool
is_written_formed a =
    list_all (λ need. has_written_form true need.dep) a.requires_
    && (list_all (has_written_form false) a.conflicts
    && (list_all is_capability (a.provides ++ a.obsoletes)
    && list_all (has_written_form true) (a.recommends ++ (a.suggests ++ (a.supplements ++ a.enhances)))))

-- the packages that numbered lines give have dependencies of such forms
abbrev pub EntriesHaveForms : Type 0
EntriesHaveForms = (held : Held) (before repo : ℕ) (lines : List (ℕ × List ℕ)) (r : Repository) → testtags held before repo lines ≡ Ok r → list_all is_written_formed r.packages ≡ true
