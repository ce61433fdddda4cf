use Rattle.solv_deps.proofs.dependency.+enter.Given as goal

abbrev pub decreases-enter : goal.decreases-enter
decreases-enter l = l.number
