-- What a pool holds: one id for each text and for each node.
use Rattle.std.specs.Prelude.{ℕ, Bool, ◌&&◌, List, [], ◌∷◌, ◌++◌, if◌then◌else◌, nat_lt}
use Rattle.std.specs.List.{list_all, list_any, position_or_len}
use Rattle.solv_base.specs.contracts.relation.DepNodePartialEq.TheImpl.{eq-value}
use Rattle.solv_base.specs.declared.relation.DepNode.{DepNode}
use Rattle.solv_base.specs.Dependency.{Dep, plain, versioned, one, namespace, and, or, with, without, if_holds, unless_holds, joined, under, under_else, names_in, operands}
use Rattle.solv_base.specs.declared.relation.DepNode.TheVariants.{Simple, Versioned, Namespace, And, Or, With, Without, If, IfElse, Unless, UnlessElse}

-- a node over texts, its operands being read by `at`
abbrev pub text_tree_of_node : (ℕ → List ℕ) → (ℕ → Dep (List ℕ)) → DepNode → Dep (List ℕ)
text_tree_of_node text at (Simple n) = one (plain (text n))
text_tree_of_node text at (Versioned n c e) = one (versioned (text n) c (text e))
text_tree_of_node text at (Namespace n) = namespace (text n)
text_tree_of_node text at (And a b) = joined and (at a) (at b)
text_tree_of_node text at (Or a b) = joined or (at a) (at b)
text_tree_of_node text at (With a b) = joined with (at a) (at b)
text_tree_of_node text at (Without a b) = joined without (at a) (at b)
text_tree_of_node text at (If a b) = under if_holds (at a) (at b)
text_tree_of_node text at (IfElse a b c) = under_else if_holds (at a) (at b) (at c)
text_tree_of_node text at (Unless a b) = under unless_holds (at a) (at b)
text_tree_of_node text at (UnlessElse a b c) = under_else unless_holds (at a) (at b) (at c)

-- a node whose names and operands are below these numbers
abbrev pub uses_below : ℕ → ℕ → DepNode → Bool
uses_below names nodes node = list_all (λ n. nat_lt n names) (names_in node) && list_all (λ o. nat_lt o nodes) (operands node)

-- is this relation held?
abbrev pub is_node : List DepNode → DepNode → Bool
is_node nodes node = list_any (eq-value.it node) nodes

-- the id of a relation, which is the next free one where it is new
abbrev pub node_id : List DepNode → DepNode → ℕ
node_id nodes node = position_or_len (eq-value.it node) nodes

-- the relations with this one among them
abbrev pub with_node : List DepNode → DepNode → List DepNode
with_node nodes node = if is_node nodes node then nodes else nodes ++ node ∷ []
