-- Edges that are put into graphs, for inner contracts alone.
use Rattle.std.specs.Prelude.{ℕ, ◌≡◌, ◌≤◌, Bool, true, false, not, ◌&&◌, ◌||◌, ◌==◌, List, [], length, slice_index, slice_index_or, if◌then◌else◌, ◌+◌}
use Rattle.std.specs.List.{list_any}
use Rattle.solv_pool.specs.Prelude.{Catalog, package_at, dependency, passes}
use Rattle.solv_pool.specs.declared.packages.Need.{Need}
use Rattle.solv_pool.specs.Needs.{serves}
use Rattle.solv_graph.specs.Inner.Graphs.{edge_to}
use Rattle.solv_graph.specs.Inner.Orders.{turn_at, part_of, late_of}
use Rattle.solv_graph.specs.declared.orders.Turn.{Turn}
use Rattle.solv_graph.specs.declared.orders.Turn.TheVariants.{Never, Early, Late}
use Rattle.solv_trans.specs.Moving.{comes, goes}
use Rattle.solv_trans.specs.Inner.Edges.{is_kept}
use Rattle.solv_trans.specs.Edges.{brings, requires_some, edge, pre_edge}
use Rattle.solv_trans.specs.declared.edges.Link.{Link}

-- which numbers a table marks
abbrev pub is_marked : List Bool → ℕ → Bool
is_marked table p = slice_index_or table p false

-- a package of this name comes
abbrev pub comes_named : Catalog → (ℕ → Bool) → ℕ → ℕ → Bool
comes_named catalog set n q = comes catalog set q && passes (package_at catalog q) (λ b. n == b.name)

-- the turn of a package: what comes is placed early, what goes late
abbrev pub turn_of : Catalog → (ℕ → Bool) → ℕ → Turn
turn_of catalog set p = if comes catalog set p then Early else if goes catalog set p then Late else Never

pub record AreTurns (catalog : Catalog) (set : ℕ → Bool) (turns : List Turn) : Type 0 where
  pub size : length turns ≡ length catalog.universe.packages + 1
  pub each : (p : ℕ) → p ≤ length catalog.universe.packages → turn_at turns p ≡ turn_of catalog set p

-- the edges that a list holds, and the pre edges among them
abbrev pub linked : List Link → ℕ → ℕ → Bool
linked links a b = list_any (λ (link : Link). link.from == a && link.to == b) links

abbrev pub pre_linked : List Link → ℕ → ℕ → Bool
pre_linked links a b = list_any (λ (link : Link). link.pre && (link.from == a && link.to == b)) links

-- there are besides the edges that each of these asks for
abbrev pub Extends : {X : Type 0} → (X → ℕ → ℕ → Bool) → List X → (ℕ → ℕ → Bool) → (ℕ → ℕ → Bool) → Type 0
Extends asks xs old new = (a b : ℕ) → new a b ≡ (old a b || list_any (λ x. asks x a b) xs)

-- each of these puts the edges that it asks for into a graph
pub record Adds {X : Type 0} (asks : X → ℕ → ℕ → Bool) (xs : List X) (old new : List (List ℕ)) : Type 0 where
  pub size : length new ≡ length old
  pub edges : Extends asks xs (edge_to old) (edge_to new)

-- each of these puts the edges that it asks for into a list, by the requirements and by the pre-requirements
pub record Joins {X : Type 0} (asks : (Need → Bool) → X → ℕ → ℕ → Bool) (xs : List X) (old new : List Link) : Type 0 where
  pub all : Extends (asks (λ need. true)) xs (linked old) (linked new)
  pub pre : Extends (asks (λ need. need.pre)) xs (pre_linked old) (pre_linked new)

abbrev pub is_early_in : List Turn → ℕ → Bool
is_early_in turns q = part_of turns q && not (late_of turns q)

-- edges by one requirement of p: from a package that comes, and to another one that goes
abbrev pub from_one : List Turn → ℕ → Need → (Need → Bool) → ℕ → ℕ → ℕ → Bool
from_one turns p need these q a b = these need && (is_early_in turns q && (q == a && p == b))

abbrev pub to_one : List Turn → ℕ → Need → (Need → Bool) → ℕ → ℕ → ℕ → Bool
to_one turns p need these q a b = these need && (not (p == q) && (late_of turns q && (p == a && q == b)))

-- q settles what p requires, where q meets it: it is p, the system or a kept package
abbrev pub settles : Catalog → (ℕ → Bool) → ℕ → ℕ → Bool
settles catalog set p q = q == p || (q == 0 || is_kept catalog set q)

-- those that may bring what is required: none where it is settled
abbrev pub unsettled : Catalog → (ℕ → Bool) → ℕ → List ℕ → List ℕ
unsettled catalog set p qs = if list_any (settles catalog set p) qs then [] else qs

-- edges by the requirements of p: to it where it comes, and from it where it goes
abbrev pub to_coming : Catalog → (ℕ → Bool) → ℕ → (Need → Bool) → Need → ℕ → ℕ → Bool
to_coming catalog set p these need a b = these need && (p == b && (comes catalog set a && brings catalog set a p (dependency catalog need.dep)))

abbrev pub from_going : Catalog → (ℕ → Bool) → ℕ → (Need → Bool) → Need → ℕ → ℕ → Bool
from_going catalog set p these need a b = these need && (p == a && (not (p == b) && (goes catalog set b && serves catalog b (dependency catalog need.dep))))

abbrev pub owned_by : Catalog → (ℕ → Bool) → (Need → Bool) → ℕ → ℕ → ℕ → Bool
owned_by catalog set these p a b =
    (p == b && (comes catalog set a && (comes catalog set p && requires_some catalog set these (brings catalog set a p) p)))
    || (p == a && (not (p == b) && (goes catalog set b && (goes catalog set p && requires_some catalog set these (serves catalog b) p))))

-- a list holds the edges of a set
pub record AreEdges (catalog : Catalog) (set : ℕ → Bool) (links : List Link) : Type 0 where
  pub all : (a b : ℕ) → linked links a b ≡ edge catalog set a b
  pub pre : (a b : ℕ) → pre_linked links a b ≡ pre_edge catalog set a b

-- the edges between what has different numbers
abbrev pub apart : List ℕ → List (List ℕ) → ℕ → ℕ → Bool
apart marks rows a b = edge_to rows a b && not (slice_index marks a == slice_index marks b)
