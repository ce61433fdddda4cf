use Rattle.solv_base.proofs.Trees.{tree-is}
use Rattle.solv_base.proofs.Growth.{text_tree-is}
use Rattle.solv_base.proofs.Pools.{uses-held}
use Rattle.solv_base.proofs.interning.Pool.dep.Goals as goal

pub returns-clause-below : goal.returns-clause-below
returns-clause-below c = uses-held c.args.self.now c.node_at.ensures.pool c.args.id c.node_at.result c.node_at.ensures.node

pub returns-clause-tree : goal.returns-clause-tree
returns-clause-tree c = tree-is c.args.self.now.nodes c.node_at.ensures.pool.operands_before c.args.id c.node_at.result c.node_at.ensures.node

pub returns-clause-text_tree : goal.returns-clause-text_tree
returns-clause-text_tree c = text_tree-is c.args.self.now c.node_at.ensures.pool.operands_before c.args.id c.node_at.result c.node_at.ensures.node
