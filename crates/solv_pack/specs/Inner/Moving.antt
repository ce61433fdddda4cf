-- How a rule is moved to an earlier place.
use Rattle.std.specs.Prelude.{ℕ, ◌≡◌, ◌<◌, ◌≤◌, ◌+◌, List, [], ◌∷◌, ◌++◌, length, take, drop, slice_index, ⊤}
use Rattle.solv_pack.specs.declared.place.Place.{Place}
use Rattle.solv_pack.specs.Inner.Layout.{block_at, rule_in, rules_in, AreInside, AreBehind}

-- a point in the blocks is before a place, and what stands before the point is written
pub record IsPoint {X : Type 0} (words : List (List X)) (from : Place) (block start : ℕ) : Type 0 where
  pub before : block ≤ from.block
  pub here : block ≡ from.block → start ≤ from.start
  pub written : start ≤ length (block_at words block)

-- the rule at a place fits in at a later point that is still before it
pub record IsTarget {X : Type 0} (words : List (List X)) (rooms : List ℕ) (from : Place) (block start to_block to_start : ℕ) : Type 0 where
  pub point : IsPoint words from to_block to_start
  pub later : block ≤ to_block
  pub same : block ≡ to_block → start ≤ to_start
  pub fits : to_block < from.block → to_start + from.len ≤ slice_index rooms to_block

-- the rule at a place was moved to a point before it
pub record HasMoved {X : Type 0} (old new : List (List X)) (from : Place) (block start : ℕ) : Type 0 where
  pub count : length new ≡ length old
  pub other : (k : ℕ) → (k ≡ block → ⊥) → block_at new k ≡ block_at old k
  pub front : take (start + from.len) (block_at new block) ≡ take start (block_at old block) ++ rule_in old from
  pub back : block ≡ from.block → drop (from.start + from.len) (block_at new block) ≡ drop (from.start + from.len) (block_at old block)
  pub long : block ≡ from.block → length (block_at new block) ≡ length (block_at old block)
  pub reach : start + from.len ≤ length (block_at new block)

-- other literals lie at a place, and all else is as it was
pub record HasChanged {X : Type 0} (old new : List (List X)) (p : Place) (ys : List X) : Type 0 where
  pub count : length new ≡ length old
  pub other : (k : ℕ) → (k ≡ p.block → ⊥) → block_at new k ≡ block_at old k
  pub front : take p.start (block_at new p.block) ≡ take p.start (block_at old p.block)
  pub is : rule_in new p ≡ ys
  pub back : drop (p.start + p.len) (block_at new p.block) ≡ drop (p.start + p.len) (block_at old p.block)
  pub long : length (block_at new p.block) ≡ length (block_at old p.block)

-- a place ends before a point
abbrev pub EndsBefore : ℕ → ℕ → Place → Type 0
EndsBefore block start p = (p.block ≤ block) × (p.block ≡ block → p.start + p.len ≤ start)

abbrev pub AllBefore : ℕ → ℕ → List Place → Type 0
AllBefore block start [] = ⊤
AllBefore block start (p ∷ ps) = EndsBefore block start p × AllBefore block start ps

-- these rules lie at these places, in order, all of them before a point
pub record IsClosed {X : Type 0} (rules : List (List X)) (words : List (List X)) (places : List Place) (block start : ℕ) : Type 0 where
  pub are : rules_in words places ≡ rules
  pub inside : AreInside words places
  pub behind : AreBehind 0 0 places
  pub before : AllBefore block start places
  pub written : start ≤ length (block_at words block)
