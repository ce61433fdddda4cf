-- Graphs over the parts alone: their vertices are the places in an ascending list of the parts.
use Rattle.std.specs.Prelude.{ℕ, ◌≡◌, ◌<◌, Bool, ◌&&◌, ◌==◌, List, length, map, slice_index, nat_lt}
use Rattle.std.specs.List.{list_any}
use Rattle.solv_graph.specs.Inner.Graphs.{edge_to}
use Rattle.solv_graph.specs.Inner.Orders.{turn_at}
use Rattle.solv_graph.specs.declared.orders.Turn.{Turn}
use Rattle.solv_trans.specs.Orders.{IsOrdered}
use Rattle.solv_trans.specs.Inner.Joining.{Adds}
use Rattle.solv_trans.specs.declared.edges.Link.{Link}
use Rattle.solv_trans.specs.declared.parting.Edges.{Edges}
use Rattle.solv_trans.specs.declared.ordering.Ordered.{Ordered}

-- each number is above the one before it
abbrev pub IsRising : List ℕ → Type 0
IsRising xs = (i j : ℕ) → i < j → j < length xs → slice_index xs i < slice_index xs j

-- the parts at some places
abbrev pub parts_at : List ℕ → List ℕ → List ℕ
parts_at parts places = map (slice_index parts) places

-- the turns of the parts, by their places
abbrev pub turns_at : List Turn → List ℕ → List Turn
turns_at turns parts = map (turn_at turns) parts

-- an edge joins the parts at two places
abbrev pub joins_places : List ℕ → Link → ℕ → ℕ → Bool
joins_places parts link i j = (nat_lt i (length parts) && nat_lt j (length parts)) && (link.from == slice_index parts i && link.to == slice_index parts j)

abbrev pub pre_joins_places : List ℕ → Link → ℕ → ℕ → Bool
pre_joins_places parts link i j = link.pre && joins_places parts link i j

-- each of these edges is put between the places of its ends
pub record Puts (parts : List ℕ) (links : List Link) (old new : Edges) : Type 0 where
  pub all : Adds (joins_places parts) links old.all new.all
  pub pre : Adds (pre_joins_places parts) links old.pre new.pre

-- both graphs are over the places, and have these edges
pub record AreJoined (parts : List ℕ) (links : List Link) (edges : Edges) : Type 0 where
  pub size : length edges.all ≡ length parts
  pub pre_size : length edges.pre ≡ length parts
  pub all : (i j : ℕ) → edge_to edges.all i j ≡ list_any (λ (link : Link). joins_places parts link i j) links
  pub pre : (i j : ℕ) → edge_to edges.pre i j ≡ list_any (λ (link : Link). pre_joins_places parts link i j) links

-- an order of places, given as one of the parts at them
pub record IsOrderedAt (parts : List ℕ) (part late : ℕ → Bool) (edge pre_edge : ℕ → ℕ → Bool) (made : Ordered) : Type 0 where
  pub own : Ordered
  pub ordered : IsOrdered (length parts) part late edge pre_edge own
  pub is : made ≡ record { parts = parts_at parts own.parts; pre_cycles = map (parts_at parts) own.pre_cycles; cycles = map (parts_at parts) own.cycles }
