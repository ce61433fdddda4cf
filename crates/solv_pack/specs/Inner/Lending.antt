-- What a block is once a `&mut` to its words has ended.
use Rattle.std.specs.Prelude.{List, length, take, drop, ◌++◌}
use base.Fml.{Fml}
use denote.RattleType.{RattleType}
use denote.Array.{Array}
use denote.Ref.{MutBor}
use denote.Follow.{follows}
use Rattle.std.specs.List.{length_refill}
use Rattle.std.specs.declared.alloc.Allocator.{Ghosts}
use Rattle.solv_pack.specs.declared.block.Block.{Block}
use Rattle.solv_pack.specs.contracts.block.Block.{the_row as block-row}

-- the block with these as its words. Where they are of another number, they are cut, or filled up with its own
abbrev pub with_words : {X Z : Type 0} → Block X Z → List X → Block X Z
with_words v ws = record { ptr = v.ptr; len = v.len; cap = v.cap; alloc = v.alloc; items = take v.len (ws ++ drop (length ws) v.items); ok = (length_refill v.len v.items ws v.ok.0, v.ok.1); small = v.small }

-- r is the `&mut` to the words of the block behind v
abbrev pub block_follows : (T A : RattleType) → Ghosts A.Denot → MutBor (Block T.Denot A.Denot) → MutBor (List T.Denot) → Fml
block_follows T A heap v r = follows (block-row T A heap) (Array T 0) v.ghost_name r.ghost_name (with_words v.now)
