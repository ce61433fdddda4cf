-- What one change takes away and brings.
use Rattle.std.specs.Prelude.{ℕ, Bool, ◌==◌}
use Rattle.solv_pool.specs.Prelude.{passes}
use Rattle.solv_trans.specs.Effects.{ends}
use Rattle.solv_trans.specs.declared.kinds.Change.{Change}

-- the change takes p away
abbrev pub takes : ℕ → Change → Bool
takes p change = passes (ends change).0 (λ x. x == p)

-- the change brings p
abbrev pub brings : ℕ → Change → Bool
brings p change = passes (ends change).1 (λ x. x == p)
