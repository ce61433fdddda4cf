-- The parts of a dependency by its operands.
use Rattle.std.specs.Prelude.{ℕ, ◌≡◌, ◌<◌, List, [], ◌∷◌, ◌++◌}
use Rattle.solv_pool.specs.Prelude.{tree, DepNode}
use Rattle.solv_pool.specs.Parts.{parts}
use Rattle.solv_prov.specs.declared.parts.Parts.{Parts}
use Rattle.solv_prov.specs.declared.parts.Parts.TheVariants.{Itself, Of, OfBoth}

-- they are the dependency itself, those of one operand, or those of one and of another
abbrev pub AreParts : List DepNode → ℕ → Parts → Type 0
AreParts nodes dep Itself = parts (tree nodes dep) ≡ tree nodes dep ∷ []
AreParts nodes dep (Of a) = (a < dep) × (parts (tree nodes dep) ≡ parts (tree nodes a))
AreParts nodes dep (OfBoth a b) = (a < dep) × ((b < dep) × (parts (tree nodes dep) ≡ parts (tree nodes a) ++ parts (tree nodes b)))
