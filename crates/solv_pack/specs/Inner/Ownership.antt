-- What a block owns and lends: the words that are written, room after them, and the right to free all of it.
use Rattle.std.specs.Prelude.{ℕ, List}
use mir.Syntax.{Ty}
use base.Fml.{Fml, Lft}
use denote.RattleType.{RattleType}
use denote.RawPtr.{Ptr}
use Rattle.std.specs.Vec.Ownership.{vec_owns, vec_shares}

-- t is the allocator's token: the right to free the block
abbrev pub block_owns : (Ty → Ptr → Fml) → (R : RattleType) → Ptr → ℕ → ℕ → List R.Denot → Fml
block_owns = vec_owns

abbrev pub block_lends : (R : RattleType) → Ptr → ℕ → ℕ → List R.Denot → Lft → Fml
block_lends = vec_shares
