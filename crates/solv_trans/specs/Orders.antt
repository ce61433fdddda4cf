-- Good orders of a transaction.
use Rattle.std.specs.Prelude.{ℕ, ◌≡◌, Bool, true}
use Rattle.solv_graph.specs.Walks.{InOneClass}
use Rattle.solv_graph.specs.Classes.{AreClasses}
use Rattle.solv_graph.specs.Orders.{IsGoodOrder}
use Rattle.solv_trans.specs.declared.ordering.Ordered.{Ordered}

-- a stands before b: by a pre edge, unless the two are in one class of pre edges; or by another edge, unless they are in one class
pub data MustPrecede (edge pre_edge : ℕ → ℕ → Bool) (a b : ℕ) : Type 0 where
  a_pre_edge : pre_edge a b ≡ true → (InOneClass pre_edge a b → ⊥) → MustPrecede edge pre_edge a b
  another_edge : edge a b ≡ true → (InOneClass edge a b → ⊥) → MustPrecede edge pre_edge a b

-- of n numbers each part stands in it once, none before the start of an edge to it that it must keep, and at each place the ready part
-- that is due: one that does not go before one that goes, and then the lowest number; the cycles are exactly the classes of more than one member
pub record IsOrdered (n : ℕ) (part goes : ℕ → Bool) (edge pre_edge : ℕ → ℕ → Bool) (ordered : Ordered) : Type 0 where
  pub order : IsGoodOrder part goes (λ p q. MustPrecede edge pre_edge q p) ordered.parts
  pub pre_cycles : AreClasses pre_edge n ordered.pre_cycles
  pub cycles : AreClasses edge n ordered.cycles
