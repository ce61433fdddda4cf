-- Laws of reading an id as a tree.
use Rattle.std.specs.Prelude.{◌≡◌, ℕ, ◌<◌, true, List, length}
use Rattle.solv_base.specs.Dependency.{tree, is_whole, IsWellFounded}
use Rattle.solv_base.specs.declared.relation.DepNode.{DepNode}

-- where each operand has a smaller id, the tree of each id that is there is read to its end
abbrev pub ReadingEnds : Type 0
ReadingEnds = (nodes : List DepNode) → IsWellFounded nodes → (id : ℕ) → id < length nodes → is_whole (tree nodes id) ≡ true
