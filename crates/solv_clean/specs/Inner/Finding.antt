-- Members of a set that are marked and listed, for inner contracts alone.
use Rattle.std.specs.Prelude.{◌≡◌, ℕ, ◌<◌, ◌≤◌, Bool, true, ◌&&◌, ◌||◌, ◌==◌, List, length, slice_index, sum_by, ◌⊎◌}
use Rattle.std.specs.List.{list_any}
use Rattle.solv_pool.specs.Prelude.{Catalog, dependency}
use Rattle.solv_pool.specs.Needs.{serves, serves_package}
use Rattle.solv_pool.specs.declared.packages.Need.{Need}
use Rattle.solv_graph.specs.Inner.Graphs.{edge_to}
use Rattle.solv_graph.specs.Inner.Searching.{one_if}
use Rattle.solv_clean.specs.Inner.Tables.{is_marked}

-- the list has each marked number once
pub record AreListed (marks : List Bool) (found : List ℕ) : Type 0 where
  pub marked : (k : ℕ) → k < length found → is_marked marks (slice_index found k) ≡ true
  pub listed : (q : ℕ) → is_marked marks q ≡ true → (k : ℕ) × (k < length found) × (slice_index found k ≡ q)
  pub count : sum_by one_if marks ≡ length found

-- of the members of a set those for which one of these asks are marked and listed besides
pub record Finds {X : Type 0} (may : List Bool) (asks : X → ℕ → Bool) (xs : List X) (marks : List Bool) (found : List ℕ) (marks' : List Bool) (found' : List ℕ) : Type 0 where
  pub size : length marks' ≡ length marks
  pub keeps : (q : ℕ) → is_marked marks q ≡ true → is_marked marks' q ≡ true
  pub longer : length found ≤ length found'
  pub before : (k : ℕ) → k < length found → slice_index found' k ≡ slice_index found k
  pub sound : (q : ℕ) → is_marked marks' q ≡ true → (is_marked marks q ≡ true) ⊎ ((is_marked may q ≡ true) × (list_any (λ x. asks x q) xs ≡ true))
  pub whole : (q : ℕ) → is_marked may q ≡ true → list_any (λ x. asks x q) xs ≡ true → is_marked marks' q ≡ true
  pub listing : AreListed marks found → AreListed marks' found'

-- each member for which a number that was gone through asks is marked
abbrev pub ArePassed : (ℕ → ℕ → Bool) → List Bool → List Bool → List Bool → Type 0
ArePassed asks may passed marks = (x q : ℕ) → is_marked passed x ≡ true → is_marked may q ≡ true → asks x q ≡ true → is_marked marks q ≡ true

-- for itself alone
abbrev pub itself : ℕ → ℕ → Bool
itself x q = x == q

-- for what serves a dependency, or a requirement
abbrev pub serving : Catalog → ℕ → ℕ → Bool
serving catalog id q = serves catalog q (dependency catalog id)

abbrev pub serving_need : Catalog → Need → ℕ → Bool
serving_need catalog need q = serves catalog q (dependency catalog need.dep)

-- for what serves a package
abbrev pub serving_package : Catalog → ℕ → ℕ → Bool
serving_package catalog p q = serves_package catalog q p

-- for what serves a package in the set, or what an edge leads to
abbrev pub next_to : Catalog → List Bool → List (List ℕ) → ℕ → ℕ → Bool
next_to catalog in_set rows v w = (is_marked in_set w && serves_package catalog w v) || edge_to rows v w
