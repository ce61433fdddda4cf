-- Rules among all, of which the others are requirements of what is left out.
use Rattle.std.specs.Prelude.{◌≡◌, true, Bool, ℕ, List, [], ◌∷◌}
use Rattle.solv_pool.specs.JobMarks.{marked}
use Rattle.solv_pool.specs.RuleMeaning.{HardRule, req}

-- a requirement of a package that is left out
pub record IsRequirementOf (left : List Bool) (x : HardRule) : Type 0 where
  pub pack : ℕ
  pub dep : ℕ
  pub is : req pack dep ≡ x
  pub out : marked left pack ≡ true

-- the first rules stand among the second in their order, and the others are such requirements
pub data Thinned (left : List Bool) : List HardRule → List HardRule → Type 0 where
  end : Thinned left [] []
  same : {made all : List HardRule} (x : HardRule) → Thinned left made all → Thinned left (x ∷ made) (x ∷ all)
  more : {made all : List HardRule} (x : HardRule) → IsRequirementOf left x → Thinned left made all → Thinned left made (x ∷ all)
