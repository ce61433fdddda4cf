-- Supplements that are put into a graph, for inner contracts alone. Its vertices are the members by number, and after them the relations by id: walks lead over relations from what serves a supplement to the members that have it.
use Rattle.std.specs.Prelude.{◌≡◌, ℕ, ◌<◌, ◌+◌, Bool, true, ◌&&◌, ◌||◌, ◌==◌, List, length}
use Rattle.std.specs.List.{list_any}
use Rattle.solv_pool.specs.Prelude.{is_among, passes, Catalog, package_at, dependency, holds}
use Rattle.solv_pool.specs.Needs.{supplements}
use Rattle.solv_graph.specs.Walks.{Leads}
use Rattle.solv_graph.specs.Inner.Graphs.{edge_to}
use Rattle.solv_clean.specs.Inner.Tables.{is_marked}
use Rattle.solv_clean.specs.Inner.Finding.{serving}

-- each of these puts the edges that it asks for into a graph
pub record Adds {X : Type 0} (asks : X → ℕ → ℕ → Bool) (xs : List X) (old new : List (List ℕ)) : Type 0 where
  pub size : length new ≡ length old
  pub edges : (a b : ℕ) → edge_to new a b ≡ (edge_to old a b || list_any (λ x. asks x a b) xs)

-- an edge from a member to q
abbrev pub from_member : List Bool → ℕ → ℕ → ℕ → ℕ → Bool
from_member may q x a b = is_marked may x && (x == a && q == b)

-- all edges stay
pub record Grows (old new : List (List ℕ)) : Type 0 where
  pub size : length new ≡ length old
  pub keeps : (a b : ℕ) → edge_to old a b ≡ true → edge_to new a b ≡ true

-- a package has this supplement
abbrev pub has_supplement : Catalog → ℕ → ℕ → Bool
has_supplement catalog q id = passes (package_at catalog q) (λ a. is_among a.supplements id)

-- a package supplements something
abbrev pub supplements_something : Catalog → ℕ → Bool
supplements_something catalog q = passes (package_at catalog q) (λ a. list_any (λ d. true) a.supplements)

-- what an edge says: a member serves a relation; what serves a relation serves another; or a member has a supplement that holds
pub data Says (catalog : Catalog) (may : List Bool) (a b : ℕ) : Type 0 where
  a_serving : (id : ℕ) → b ≡ length may + id → id < length catalog.pool.nodes → is_marked may a ≡ true → serving catalog id a ≡ true → Says catalog may a b
  a_part : (o id : ℕ) → a ≡ length may + o → b ≡ length may + id → id < length catalog.pool.nodes → ((p : ℕ) → serving catalog o p ≡ true → serving catalog id p ≡ true) → Says catalog may a b
  a_supplement : (id : ℕ) → a ≡ length may + id → is_marked may b ≡ true → has_supplement catalog b id ≡ true → holds catalog (dependency catalog id) (is_marked may) ≡ true → Says catalog may a b

module _ (catalog : Catalog) (may : List Bool) (rows : List (List ℕ)) where
  -- walks lead to a relation from the members that serve it
  abbrev pub LeadFromServing : ℕ → Type 0
  LeadFromServing id = (p : ℕ) → is_marked may p ≡ true → serving catalog id p ≡ true → Leads (edge_to rows) p (length may + id)

  -- to a member by one of its supplements
  abbrev pub LeadByOne : ℕ → ℕ → Type 0
  LeadByOne q id = (p : ℕ) → is_marked may p ≡ true → (holds catalog (dependency catalog id) (is_marked may) && serving catalog id p) ≡ true → Leads (edge_to rows) p q

  -- to a member from those that supplement it
  abbrev pub LeadTo : ℕ → Type 0
  LeadTo q = (p : ℕ) → is_marked may p ≡ true → is_marked may q ≡ true → supplements catalog (is_marked may) q p ≡ true → Leads (edge_to rows) p q

-- each edge says something, and walks lead to the relations that were visited
pub record AreJoined (catalog : Catalog) (may passed : List Bool) (rows : List (List ℕ)) : Type 0 where
  pub size : length rows ≡ length may + length catalog.pool.nodes
  pub sound : (a b : ℕ) → edge_to rows a b ≡ true → Says catalog may a b
  pub served : (id : ℕ) → is_marked passed id ≡ true → LeadFromServing catalog may rows id

-- each edge says something, and walks lead to each member from those that supplement it
pub record AreSupplements (catalog : Catalog) (may : List Bool) (rows : List (List ℕ)) : Type 0 where
  pub sound : (a b : ℕ) → edge_to rows a b ≡ true → Says catalog may a b
  pub whole : (q : ℕ) → LeadTo catalog may rows q
