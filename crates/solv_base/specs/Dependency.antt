-- Dependencies as trees: rpm's boolean dependencies, with libsolv's signs.
use Rattle.std.specs.Prelude.{◌≡◌, nat_lt, ℕ, zero, suc, ◌+◌, Bool, true, false, ◌&&◌, List, [], ◌∷◌, Option, Some, None, slice_get, option_map, unwrap_or}
use Rattle.std.specs.List.{list_all}
use Rattle.solv_base.specs.declared.comparison.Cmp.{Cmp}
use Rattle.solv_base.specs.declared.relation.DepNode.{DepNode}
use Rattle.solv_base.specs.declared.relation.DepNode.TheVariants.{Simple, Versioned, Namespace, And, Or, With, Without, If, IfElse, Unless, UnlessElse}

-- a name, or a name with a comparison and an EVR; names and EVRs are ids, or texts
pub data Capability (N : Type 0) : Type 0 where
  plain : N → Capability N
  versioned : N → Cmp → N → Capability N

-- how two dependencies are joined: `&`, `|`, `+`, `-`
pub data Connective : Type 0 where
  and or with without : Connective

-- when a dependency counts: `<IF>`, `<UNLESS>`
pub data Condition : Type 0 where
  if_holds unless_holds : Condition

-- a dependency; with `<ELSE>` another one counts where it does not; `missing` stands for an id that is none
pub data Dep (N : Type 0) : Type 0 where
  one : Capability N → Dep N
  namespace : N → Dep N
  joined : Connective → Dep N → Dep N → Dep N
  under : Condition → Dep N → Dep N → Dep N
  under_else : Condition → Dep N → Dep N → Dep N → Dep N
  missing : Dep N

-- a node as a tree, its operands being read by `at`
abbrev pub tree_of_node : (ℕ → Dep ℕ) → DepNode → Dep ℕ
tree_of_node at (Simple n) = one (plain n)
tree_of_node at (Versioned n c e) = one (versioned n c e)
tree_of_node at (Namespace n) = namespace n
tree_of_node at (And a b) = joined and (at a) (at b)
tree_of_node at (Or a b) = joined or (at a) (at b)
tree_of_node at (With a b) = joined with (at a) (at b)
tree_of_node at (Without a b) = joined without (at a) (at b)
tree_of_node at (If a b) = under if_holds (at a) (at b)
tree_of_node at (IfElse a b c) = under_else if_holds (at a) (at b) (at c)
tree_of_node at (Unless a b) = under unless_holds (at a) (at b)
tree_of_node at (UnlessElse a b c) = under_else unless_holds (at a) (at b) (at c)

-- the tree of an id, read to a depth
abbrev pub tree_within : List DepNode → ℕ → ℕ → Dep ℕ
tree_within nodes zero id = missing
tree_within nodes (suc depth) id = unwrap_or (option_map (tree_of_node (tree_within nodes depth)) (slice_get nodes id)) missing

-- the tree of an id; each operand of a node has a smaller id, so this depth is enough
abbrev pub tree : List DepNode → ℕ → Dep ℕ
tree nodes id = tree_within nodes (id + 1) id

-- the simple or versioned dependency of an id
abbrev pub capability_of_node : DepNode → Option (Capability ℕ)
capability_of_node (Simple n) = Some (plain n)
capability_of_node (Versioned n c e) = Some (versioned n c e)
capability_of_node _ = None

abbrev pub capability : List DepNode → ℕ → Option (Capability ℕ)
capability nodes id = unwrap_or (option_map capability_of_node (slice_get nodes id)) None

-- built of simple, versioned and namespace dependencies, `|`, `+` and `-` alone: one package meets it or does not
abbrev pub package_wise : {N : Type 0} → Dep N → Bool
package_wise (one c) = true
package_wise (namespace n) = true
package_wise (joined and a b) = false
package_wise (joined j a b) = package_wise a && package_wise b
package_wise d = false

-- no id in it was none
abbrev pub is_whole : {N : Type 0} → Dep N → Bool
is_whole (joined j a b) = is_whole a && is_whole b
is_whole (under k a b) = is_whole a && is_whole b
is_whole (under_else k a b c) = is_whole a && (is_whole b && is_whole c)
is_whole missing = false
is_whole d = true

abbrev pub map_capability : {N M : Type 0} → (N → M) → Capability N → Capability M
map_capability f (plain n) = plain (f n)
map_capability f (versioned n c e) = versioned (f n) c (f e)

-- the same dependency with each name and EVR replaced, as each id by its text
abbrev pub map_dep : {N M : Type 0} → (N → M) → Dep N → Dep M
map_dep f (one c) = one (map_capability f c)
map_dep f (namespace n) = namespace (f n)
map_dep f (joined j a b) = joined j (map_dep f a) (map_dep f b)
map_dep f (under k a b) = under k (map_dep f a) (map_dep f b)
map_dep f (under_else k a b c) = under_else k (map_dep f a) (map_dep f b) (map_dep f c)
map_dep f missing = missing

-- the names and EVRs of a node
abbrev pub names_in : DepNode → List ℕ
names_in (Simple n) = n ∷ []
names_in (Versioned n c e) = n ∷ e ∷ []
names_in (Namespace n) = n ∷ []
names_in node = []

-- the operands of a node
abbrev pub operands : DepNode → List ℕ
operands (And a b) = a ∷ b ∷ []
operands (Or a b) = a ∷ b ∷ []
operands (With a b) = a ∷ b ∷ []
operands (Without a b) = a ∷ b ∷ []
operands (If a b) = a ∷ b ∷ []
operands (Unless a b) = a ∷ b ∷ []
operands (IfElse a b c) = a ∷ b ∷ c ∷ []
operands (UnlessElse a b c) = a ∷ b ∷ c ∷ []
operands node = []

-- each operand of a node has a smaller id
abbrev pub IsWellFounded : List DepNode → Type 0
IsWellFounded nodes = (id : ℕ) (node : DepNode) → slice_get nodes id ≡ Some node → list_all (λ o. nat_lt o id) (operands node) ≡ true

-- how many operators stand in it; `<ELSE>` is one
abbrev pub operators : {N : Type 0} → Dep N → ℕ
operators (joined j a b) = operators a + operators b + 1
operators (under k a b) = operators a + operators b + 1
operators (under_else k a b c) = operators a + operators b + operators c + 2
operators d = 0
