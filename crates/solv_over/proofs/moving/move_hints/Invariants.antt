use Rattle.std.proofs.Common.{◌≡◌, ◌++◌, map, take, drop}
use Rattle.solv_over.specs.Inner.Places.{clause_place, hint_at}
use Rattle.solv_over.proofs.moving.move_hints.Given as goal

abbrev pub invariant-loop-hint : goal.invariant-loop-hint
invariant-loop-hint l = take l.hint-index l.hints ++ map (hint_at (clause_place l.places)) (drop l.hint-index l.hints) ≡ map (hint_at (clause_place l.places)) l.fn.hints
