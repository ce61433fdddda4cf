-- What reading a testtags file does to a universe.
use Rattle.std.specs.Prelude.{◌≡◌, false, List, ◌++◌, map, Result, Err}
use Rattle.solv_base.specs.Pool.{Held}
use Rattle.solv_pool.specs.Contents.{Contents}
use Rattle.solv_pool.specs.Prelude.{WrittenPackage, written_package}
use Rattle.solv_pool.specs.declared.packages.Package.{Package}
use Rattle.solv_tags.specs.declared.tag_fault.TagFault.{TagFault}
use Rattle.solv_tags.specs.declared.tag_fault.TagCause.{TagCause}
use Rattle.solv_tags.specs.declared.tag_fault.TagCause.TheVariants.{Memory, Dep}
use Rattle.solv_deps.specs.declared.fault.DepFault.TheVariants as of_text
use Rattle.solv_tags.specs.Testtags.{Repository}

-- these packages, seen through their texts, come after the others, none of them disabled; all else is as before
pub record HasAdded (packages : List WrittenPackage) (pool : Held) (old new : Contents) : Type 0 where
  pub added : List Package
  pub texts : map (written_package pool) added ≡ packages
  pub universe : new ≡ record old { packages = old.packages ++ added; disabled = old.disabled ++ map (λ a. false) added }

-- the pool and the universe are as this reading says
pub record IsTaken (read : Repository) (pool : Held) (old new : Contents) : Type 0 where
  pub held : pool ≡ read.held
  pub packages : HasAdded read.packages pool old new

-- a refusal for this cause: running out of memory may come at any line, and any other cause is the first of the first bad line
abbrev pub IsBadFor : TagCause → TagFault → Result Repository TagFault → Type 0
IsBadFor Memory fault reading = Unit {0}
IsBadFor c fault reading = reading ≡ Err fault

-- a refusal of a file that is read so
abbrev pub IsTagRefusal : TagFault → Result Repository TagFault → Type 0
IsTagRefusal fault reading = IsBadFor fault.cause fault reading

-- a cause in its one form: what a dependency's cause holds is neither `FullNames` nor `Memory`, which are causes of their own
abbrev pub HasOneForm : TagCause → Type 0
HasOneForm (Dep of_text.FullNames) = ⊥
HasOneForm (Dep of_text.Memory) = ⊥
HasOneForm c = Unit {0}
