-- Where a dependency may stand.
use Rattle.std.specs.Prelude.{Bool, not, ◌&&◌}
use Rattle.solv_base.specs.Dependency.{Dep, Condition, if_holds, unless_holds, and, or, joined, under, under_else, package_wise}

-- a condition, which holds no condition itself; the operands of `+` and `-` are package-wise
abbrev pub unconditional : {N : Type 0} → Dep N → Bool
unconditional (joined and a b) = unconditional a && unconditional b
unconditional (joined or a b) = unconditional a && unconditional b
unconditional d = package_wise d

-- `<IF>` may stand at a requirement (true), `<UNLESS>` at a conflict (false)
abbrev pub may_stand : Bool → Condition → Bool
may_stand at if_holds = at
may_stand at unless_holds = not at

-- may stand at a requirement (true), or at a conflict (false)
abbrev pub fits_place : {N : Type 0} → Bool → Dep N → Bool
fits_place at (joined and a b) = fits_place at a && fits_place at b
fits_place at (joined or a b) = fits_place at a && fits_place at b
fits_place at (under k a b) = may_stand at k && (fits_place at a && unconditional b)
fits_place at (under_else k a b c) = may_stand at k && (fits_place at a && (unconditional b && fits_place at c))
fits_place at d = package_wise d
