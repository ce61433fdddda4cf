use Rattle.solv_base.proofs.interning.Pool.+package_wise.Given as goal

abbrev pub decreases-package_wise : goal.decreases-package_wise
decreases-package_wise l = l.id
