-- Entering a dependency into a pool: texts from left to right, each relation directly after its operands, each once.
use Rattle.std.specs.Prelude.{ℕ, Bool, ◌||◌, List, [], ◌∷◌, ◌++◌, length, nat_lt, Result, Ok, Err, if◌then◌else◌}
use Rattle.std.specs.List.{list_any, position_or_len}
use Rattle.solv_base.specs.contracts.relation.DepNodePartialEq.TheImpl.{eq-value}
use Rattle.solv_base.specs.declared.relation.DepNode.{DepNode}
use Rattle.solv_base.specs.declared.relation.DepNode.TheVariants.{Simple, Versioned, Namespace, And, Or, With, Without, If, IfElse, Unless, UnlessElse}
use Rattle.solv_base.specs.Dependency.{Dep, plain, versioned, one, namespace, and, or, with, without, if_holds, unless_holds, joined, under, under_else, missing}
use Rattle.solv_base.specs.Pool.{Held, most, is_name, name_id, with_name}
use Rattle.solv_deps.specs.declared.fault.DepFault.{DepFault}
use Rattle.solv_deps.specs.declared.fault.DepFault.TheVariants.{FullNames, FullRelations, OperatorNotHere}
use Rattle.solv_deps.specs.Reading.{and_then}

-- an id, and what the pool holds then
pub record Entered : Type 0 where
  pub id : ℕ
  pub held : Held

-- a text that is held, or for which there is room
abbrev pub text_entered : List ℕ → Held → Result Entered DepFault
text_entered text held =
    if is_name held.names text || nat_lt (length held.names) most
    then Ok (record { id = name_id held.names text; held = record held { names = with_name held.names text } })
    else Err FullNames

-- a relation that is held, or for which there is room
abbrev pub relation_entered : DepNode → Held → Result Entered DepFault
relation_entered node held =
    let known : Bool = list_any (eq-value.it node) held.nodes in
    if known || nat_lt (length held.nodes) most
    then Ok (record { id = position_or_len (eq-value.it node) held.nodes; held = record held { nodes = if known then held.nodes else held.nodes ++ node ∷ [] } })
    else Err FullRelations

-- two operands, then their relation
abbrev pub pair_entered : (Held → Result Entered DepFault) → (Held → Result Entered DepFault) → (ℕ → ℕ → DepNode) → Held → Result Entered DepFault
pair_entered first second node held = and_then (first held) (λ a. and_then (second a.held) (λ b. relation_entered (node a.id b.id) b.held))

-- three operands, then their relation
abbrev pub triple_entered : (Held → Result Entered DepFault) → (Held → Result Entered DepFault) → (Held → Result Entered DepFault) → (ℕ → ℕ → ℕ → DepNode) → Held → Result Entered DepFault
triple_entered first second third node held = and_then (first held) (λ a. pair_entered second third (node a.id) a.held)

-- a dependency: its id and what the pool holds then, or the first text or relation that would pass the limit
abbrev pub dependency_entered : Dep (List ℕ) → Held → Result Entered DepFault
dependency_entered (one (plain name)) held = and_then (text_entered name held) (λ n. relation_entered (Simple n.id) n.held)
dependency_entered (one (versioned name c evr)) held = pair_entered (text_entered name) (text_entered evr) (λ n e. Versioned n c e) held
dependency_entered (namespace name) held = and_then (text_entered name held) (λ n. relation_entered (Namespace n.id) n.held)
dependency_entered (joined and a b) held = pair_entered (dependency_entered a) (dependency_entered b) And held
dependency_entered (joined or a b) held = pair_entered (dependency_entered a) (dependency_entered b) Or held
dependency_entered (joined with a b) held = pair_entered (dependency_entered a) (dependency_entered b) With held
dependency_entered (joined without a b) held = pair_entered (dependency_entered a) (dependency_entered b) Without held
dependency_entered (under if_holds a b) held = pair_entered (dependency_entered a) (dependency_entered b) If held
dependency_entered (under unless_holds a b) held = pair_entered (dependency_entered a) (dependency_entered b) Unless held
dependency_entered (under_else if_holds a b c) held = triple_entered (dependency_entered a) (dependency_entered b) (dependency_entered c) IfElse held
dependency_entered (under_else unless_holds a b c) held = triple_entered (dependency_entered a) (dependency_entered b) (dependency_entered c) UnlessElse held
dependency_entered missing held = Err OperatorNotHere
