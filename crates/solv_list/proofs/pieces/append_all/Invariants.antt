use Rattle.std.proofs.Common.{◌≡◌, ◌++◌, drop, length, take}
use Rattle.std.specs.List.{flat_map}
use Rattle.solv_list.proofs.pieces.append_all.Given as goal

abbrev pub invariant-loop-piece : goal.invariant-loop-piece
invariant-loop-piece l = record {
  all : l.into.items ++ flat_map (λ piece. piece.now) (drop l.piece-index l.pieces) ≡ l.initial.into.items ++ flat_map (λ piece. piece.now) l.pieces;
  kept : take (length l.initial.into.items) l.into.items ≡ l.initial.into.items;
}
