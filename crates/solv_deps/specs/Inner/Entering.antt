-- Entering a dependency into a pool: texts from left to right, each relation directly after its operands, each once.
use Rattle.std.specs.Prelude.{ℕ, Bool, List, [], ◌∷◌, ◌++◌, length, Result, Ok, Err, ◌≡◌, ◌<◌, if◌then◌else◌}
use Rattle.std.specs.List.{list_any, position_or_len}
use Rattle.solv_base.specs.contracts.relation.DepNodePartialEq.TheImpl.{eq-value}
use Rattle.solv_base.specs.declared.relation.DepNode.{DepNode}
use Rattle.solv_base.specs.declared.relation.DepNode.TheVariants.{And, Or, With, If, IfElse, Unless, UnlessElse}
use Rattle.solv_base.specs.declared.interning.PoolFault.{PoolFault}
use Rattle.solv_base.specs.declared.interning.PoolFault.TheVariants as PoolFull
use Rattle.solv_base.specs.Dependency.{Dep}
use Rattle.solv_base.specs.Pool.{Held, text_tree}
use Rattle.solv_deps.specs.declared.place.Place.{Place}
use Rattle.solv_deps.specs.declared.fault.DepFault.{DepFault}
use Rattle.solv_deps.specs.declared.fault.DepFault.TheVariants.{FullNames, FullRelations, Memory}
use Rattle.solv_deps.specs.declared.sign.Joint.{Joint}
use Rattle.solv_deps.specs.declared.sign.Joint.TheVariants.{Both, Either, Jointly}
use Rattle.solv_deps.specs.declared.sign.Conditional.{Conditional}
use Rattle.solv_deps.specs.declared.sign.Conditional.TheVariants as kind
use Rattle.solv_deps.specs.Reading.{and_then, dependency}
use Rattle.solv_deps.specs.Entering.{Entered, dependency_entered}

-- is it a relation that is held?
abbrev pub is_relation : List DepNode → DepNode → Bool
is_relation nodes node = list_any (eq-value.it node) nodes

-- the id of a relation, which is the next free one where it is new
abbrev pub relation_id : List DepNode → DepNode → ℕ
relation_id nodes node = position_or_len (eq-value.it node) nodes

-- a text at a place, read and then entered: every cause of the text comes before the limits of the pool
abbrev pub text_read : Place → List ℕ → Held → Result Entered DepFault
text_read place text held = and_then (dependency place text) (λ d. dependency_entered d held)

-- the dependency is in the pool under this id, and the pool holds what it held and what this entering adds
pub record IsEntered (d : Dep (List ℕ)) (old new : Held) (id : ℕ) : Type 0 where
  pub held : dependency_entered d old ≡ Ok (record { id = id; held = new })
  pub below : id < length new.nodes
  pub tree : text_tree new id ≡ d

-- a refusal that is not for lack of memory is this one
abbrev pub IsRefusal : {A : Type 0} → DepFault → Result A DepFault → Type 0
IsRefusal Memory r = Unit {0}
IsRefusal e r = r ≡ Err e

-- a refusal that is the pool's: a limit, or running out of memory
abbrev pub IsOfPool : DepFault → Type 0
IsOfPool FullNames = Unit {0}
IsOfPool FullRelations = Unit {0}
IsOfPool Memory = Unit {0}
IsOfPool e = ⊥

-- the refusal that a pool's is
abbrev pub refusal : PoolFault → DepFault
refusal PoolFull.FullNames = FullNames
refusal PoolFull.FullRelations = FullRelations
refusal PoolFull.Memory = Memory

-- the relation of a chain's operator
abbrev pub link_node : Joint → ℕ → ℕ → DepNode
link_node Both a b = And a b
link_node Either a b = Or a b
link_node Jointly a b = With a b

-- the relation of a condition
abbrev pub under_node : Conditional → ℕ → ℕ → DepNode
under_node kind.If a b = If a b
under_node kind.Unless a b = Unless a b

-- the relation of a condition with `<ELSE>`
abbrev pub under_else_node : Conditional → ℕ → ℕ → ℕ → DepNode
under_else_node kind.If a b c = IfElse a b c
under_else_node kind.Unless a b c = UnlessElse a b c
