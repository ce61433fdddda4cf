-- What the handle of a task owns.
use Rattle.std.specs.Prelude.{Option, Some, None}
use base.Fml.{Fml, ftrue, ffalse}
use denote.RawPtr.{Ptr, block_ptr, null_ptr}
use Rattle.std.specs.declared.alloc.Global.{Global}
use Rattle.std.specs.contracts.impls.GlobalAllocator.TheImpl.{ghosts}
use Rattle.std_alloc.specs.Box.Ownership.{box_owns}
use Rattle.solv_solved.specs.declared.outcomes.Held.{Held}
use Rattle.solv_solved.specs.contracts.outcomes.Held.{the_row}

-- what is held lies at a pointer, and its memory may be freed
abbrev pub kept_at : Global → Ptr → Held → Fml
kept_at alloc = box_owns (ghosts.dealloc_token alloc) the_row

-- what is held at a block, or nothing at null
abbrev pub handle_owns : Global → Ptr → Option Held → Fml
handle_owns alloc null_ptr None = ftrue
handle_owns alloc null_ptr (Some held) = ffalse
handle_owns alloc (block_ptr b o) None = ffalse
handle_owns alloc (block_ptr b o) (Some held) = kept_at alloc (block_ptr b o) held
