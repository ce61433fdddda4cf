-- What a pool holds: one id for each text and for each node.
use Rattle.std.specs.Prelude.{ℕ, ◌^◌, ◌≡◌, ◌<◌, ◌≤◌, Bool, true, List, [], ◌∷◌, ◌++◌, length, slice_get, Some, unwrap_or, if◌then◌else◌, nat_lt}
use Rattle.std.specs.List.{list_any, list_all, position_or_len}
use Rattle.std.specs.Str.{bytes_eq}
use Rattle.solv_base.specs.declared.relation.DepNode.{DepNode}
use Rattle.solv_base.specs.Dependency.{Dep, tree, map_dep, names_in, IsWellFounded}

-- the texts of the names and the nodes of the relations, each by its id
pub record Held : Type 0 where
  pub names : List (List ℕ)
  pub nodes : List DepNode

-- the most names, and the most nodes
abbrev pub most : ℕ
most = 2 ^ 24

-- the text of a name
abbrev pub text_at : Held → ℕ → List ℕ
text_at held n = unwrap_or (slice_get held.names n) []

-- the tree of a relation over texts
unfoldable pub text_tree : Held → ℕ → Dep (List ℕ)
text_tree held id = map_dep (text_at held) (tree held.nodes id)

-- is this text a name?
abbrev pub is_name : List (List ℕ) → List ℕ → Bool
is_name names text = list_any (bytes_eq text) names

-- the id of a text, which is the next free one where it is new
abbrev pub name_id : List (List ℕ) → List ℕ → ℕ
name_id names text = position_or_len (bytes_eq text) names

-- the names with this text among them
abbrev pub with_name : List (List ℕ) → List ℕ → List (List ℕ)
with_name names text = if is_name names text then names else names ++ text ∷ []

-- no value has two ids
abbrev pub HasOneId : {A : Type 0} → List A → Type 0
HasOneId {A} xs = (m n : ℕ) (x : A) → slice_get xs m ≡ Some x → slice_get xs n ≡ Some x → m ≡ n

-- each name of a node is held
abbrev pub HoldsNames : Held → Type 0
HoldsNames held = (id : ℕ) (node : DepNode) → slice_get held.nodes id ≡ Some node → list_all (λ n. nat_lt n (length held.names)) (names_in node) ≡ true

-- what holds of every pool
pub record IsPool (held : Held) : Type 0 where
  pub names_once : HasOneId held.names
  pub nodes_once : HasOneId held.nodes
  pub names_fit : length held.names ≤ most
  pub nodes_fit : length held.nodes ≤ most
  pub names_held : HoldsNames held
  pub operands_before : IsWellFounded held.nodes

-- what was held is held under the same ids
pub record Grows (old new : Held) : Type 0 where
  pub names : length old.names ≤ length new.names
  pub nodes : length old.nodes ≤ length new.nodes
  pub texts : (n : ℕ) → n < length old.names → text_at new n ≡ text_at old n
  pub trees : (id : ℕ) → id < length old.nodes → text_tree new id ≡ text_tree old id
