-- The six comparisons, and the outcomes that they allow.
use Rattle.std.specs.Prelude.{◌||◌, Bool, true, false}
use Rattle.std.specs.declared.cmp.Ordering.{Ordering}
use Rattle.std.specs.declared.cmp.Ordering.TheVariants.{Less, Equal, Greater}
use Rattle.solv_base.specs.declared.comparison.Cmp.{Cmp}

abbrev pub exactly : Cmp
exactly = record { less = false; equal = true; greater = false }

-- a comparison allows this outcome
abbrev pub allows : Cmp → Ordering → Bool
allows f Less = f.less
allows f Equal = f.equal
allows f Greater = f.greater

-- a comparison allows some outcome, as each of the six does
abbrev pub allows_some : Cmp → Bool
allows_some f = f.less || (f.equal || f.greater)
