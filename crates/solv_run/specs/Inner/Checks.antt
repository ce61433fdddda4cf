-- What a comparison allows. Inner contracts alone speak of it.
use Rattle.std.specs.Prelude.{Bool}
use Rattle.std.specs.declared.cmp.Ordering.{Ordering}
use Rattle.std.specs.declared.cmp.Ordering.TheVariants.{Less, Equal, Greater}
use Rattle.solv_pool.specs.Prelude.{Cmp}

-- the comparison allows this order
abbrev pub allows : Cmp → Ordering → Bool
allows op order = elim order [ Less ↦ op.less | Equal ↦ op.equal | Greater ↦ op.greater ]
