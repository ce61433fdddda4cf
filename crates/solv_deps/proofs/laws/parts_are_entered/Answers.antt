use Rattle.solv_deps.proofs.HeldEntered.{held_entered}
use Rattle.solv_deps.proofs.PartEntered.{texts_entered, trees_entered}
use Rattle.solv_deps.proofs.laws.parts_are_entered.Goals as goal

pub returns-clause-texts : goal.returns-clause-texts
returns-clause-texts c = texts_entered

pub returns-clause-trees : goal.returns-clause-trees
returns-clause-trees c = trees_entered held_entered
