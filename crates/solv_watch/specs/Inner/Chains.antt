-- Chains of watches, one for each literal. The watches of rule r are 2 r and 2 r + 1.
use Rattle.std.specs.Prelude.{ℕ, ◌≡◌, ◌+◌, ◌-◌, ◌*◌, ◌/◌, ◌%◌, ◌<◌, ◌==◌, ◌⊎◌, List, [], ◌∷◌, length, slice_index, slice_set, if◌then◌else◌}

-- the link that leads nowhere
abbrev pub no_link : ℕ
no_link = 4294967295

abbrev pub Has : List ℕ → ℕ → Type 0
Has [] x = ⊥
Has (y ∷ ys) x = (y ≡ x) ⊎ Has ys x

-- no number stands twice
abbrev pub AreOnce : List ℕ → Type 0
AreOnce [] = Unit {0}
AreOnce (y ∷ ys) = (Has ys y → ⊥) × AreOnce ys

-- these are the watches, from a number on, to which one link after another leads
abbrev pub IsChain : List ℕ → ℕ → List ℕ → Type 0
IsChain links from [] = from ≡ no_link
IsChain links from (w ∷ ws) = (from ≡ w) × IsChain links (slice_index links w) ws

-- the other watch of the same rule
abbrev pub other : ℕ → ℕ
other w = 2 * (w / 2) + (1 - w % 2)

-- the chain of each place hangs from its head; is: what is a watch, at: the place to which it belongs
pub record AreHung (heads links : List ℕ) (is : ℕ → Type 0) (at : ℕ → ℕ) (chain : ℕ → List ℕ) : Type 0 where
  pub linked : (p : ℕ) → p < length heads → IsChain links (slice_index heads p) (chain p)
  pub once : (p : ℕ) → AreOnce (chain p)
  pub own : (p w : ℕ) → Has (chain p) w → (w < length links) × is w × (at w ≡ p)

-- each watch hangs at its place
abbrev pub AreAllHung : (ℕ → Type 0) → (ℕ → ℕ) → (ℕ → List ℕ) → Type 0
AreAllHung is at chain = (w : ℕ) → is w → Has (chain (at w)) w

-- the heads and the links where what comes after the watch last, or first of all, begins at a number
abbrev pub heads_past : List ℕ → ℕ → ℕ → ℕ → List ℕ
heads_past heads p last next = if last == no_link then slice_set heads p next else heads

abbrev pub links_past : List ℕ → ℕ → ℕ → List ℕ
links_past links last next = if last == no_link then links else slice_set links last next
