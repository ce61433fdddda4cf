-- How rules lie in blocks of words.
use Rattle.std.specs.Prelude.{ℕ, ◌≡◌, ◌<◌, ◌≤◌, ◌+◌, ◌-◌, ◌*◌, ◌^◌, List, [], ◌∷◌, length, map, slice_index, slice_index_or, slice_range, ⊤}
use Rattle.solv_pack.specs.declared.block.Block.{Block}
use Rattle.solv_pack.specs.declared.place.Place.{Place}
use Rattle.solv_pack.specs.Inner.Packing.{most_literals, most_rules}

-- the words that are written in each block, and for how many each has room
abbrev pub words_of : {X Z : Type 0} → List (Block X Z) → List (List X)
words_of blocks = map (λ b. b.items) blocks

abbrev pub rooms_of : {X Z : Type 0} → List (Block X Z) → List ℕ
rooms_of blocks = map (λ b. b.cap) blocks

-- the words of the block of this number
abbrev pub block_at : {X : Type 0} → List (List X) → ℕ → List X
block_at words k = slice_index_or words k []

-- what lies at a place
abbrev pub rule_in : {X : Type 0} → List (List X) → Place → List X
rule_in words p = slice_range (block_at words p.block) p.start (p.start + p.len)

abbrev pub rules_in : {X : Type 0} → List (List X) → List Place → List (List X)
rules_in words [] = []
rules_in words (p ∷ ps) = rule_in words p ∷ rules_in words ps

-- a place whole in one block, no longer than a rule may be
pub record IsInside {X : Type 0} (words : List (List X)) (p : Place) : Type 0 where
  pub there : p.block < length words
  pub whole : p.start + p.len ≤ length (block_at words p.block)
  pub short : p.len ≤ most_literals

abbrev pub AreInside : {X : Type 0} → List (List X) → List Place → Type 0
AreInside words [] = ⊤
AreInside words (p ∷ ps) = IsInside words p × AreInside words ps

-- places in order, none before a place of a block, and each after the one before it
abbrev pub AreBehind : ℕ → ℕ → List Place → Type 0
AreBehind block start [] = ⊤
AreBehind block start (p ∷ ps) = (block ≤ p.block) × (block ≡ p.block → start ≤ p.start) × AreBehind p.block (p.start + p.len) ps

-- how many more words there is room for in the last block
abbrev pub left_in : {X : Type 0} → List (List X) → List ℕ → ℕ
left_in words rooms = slice_index rooms (length rooms - 1) - length (block_at words (length words - 1))

-- all blocks are there as they were, and perhaps one more
pub record Grows {X : Type 0} (old new : List (List X)) : Type 0 where
  pub more : length old ≤ length new
  pub same : (k : ℕ) → k < length old → block_at new k ≡ block_at old k

-- the most blocks
abbrev pub most_blocks : ℕ
most_blocks = 2 ^ 10

-- each rule lies in a block, in order; and the spare words, if there are any, fit into the last block and into the table of places, whose capacity this is
pub record IsLaidOut {X : Type 0} (words : List (List X)) (rooms : List ℕ) (places : List Place) (spare places_room : ℕ) : Type 0 where
  pub inside : AreInside words places
  pub behind : AreBehind 0 0 places
  pub few : length places ≤ most_rules
  pub few_blocks : length words ≤ most_blocks
  pub lits_fit : 0 < spare → spare ≤ left_in words rooms
  pub places_fit : 0 < spare → spare + 4 * length places ≤ 4 * places_room
