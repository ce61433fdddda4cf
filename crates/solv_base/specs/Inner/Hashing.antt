-- A relation as one number, by which it is hashed.
use Rattle.std.specs.Prelude.{◌≡◌, ℕ, ◌+◌, ◌*◌, ◌^◌, cond, true}
use Rattle.std.proofs.Common.{rules}
use Rattle.solv_base.specs.declared.comparison.Cmp.{Cmp}
use Rattle.solv_base.specs.declared.relation.DepNode.{DepNode}
use Rattle.solv_base.specs.declared.relation.DepNode.TheVariants.{Simple, Versioned, Namespace, And, Or, With, Without, If, IfElse, Unless, UnlessElse}
use Rattle.solv_base.specs.contracts.relation.DepNodePartialEq.TheImpl.{eq-value}

-- a comparison as a kind of relation
abbrev pub comparison_number : Cmp → ℕ
comparison_number f = 10 + cond f.less 1 0 + 2 * cond f.equal 1 0 + 4 * cond f.greater 1 0

-- three ids below a kind
abbrev pub parts_number : ℕ → ℕ → ℕ → ℕ → ℕ
parts_number kind a b c = a + b * 2 ^ 32 + c * 2 ^ 64 + kind * 2 ^ 96

abbrev pub node_number : DepNode → ℕ
node_number (Simple n) = parts_number 0 n 0 0
node_number (Namespace n) = parts_number 1 n 0 0
node_number (And a b) = parts_number 2 a b 0
node_number (Or a b) = parts_number 3 a b 0
node_number (With a b) = parts_number 4 a b 0
node_number (Without a b) = parts_number 5 a b 0
node_number (If a b) = parts_number 6 a b 0
node_number (IfElse a b c) = parts_number 7 a b c
node_number (Unless a b) = parts_number 8 a b 0
node_number (UnlessElse a b c) = parts_number 9 a b c
node_number (Versioned n f e) = parts_number (comparison_number f) n e 0

pub equal_nodes : (x y : DepNode) → eq-value.it x y ≡ true → x ≡ y
equal_nodes x y h = search rules
