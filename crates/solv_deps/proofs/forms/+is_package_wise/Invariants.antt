use Rattle.solv_deps.proofs.forms.+is_package_wise.Given as goal

abbrev pub decreases-is_package_wise : goal.decreases-is_package_wise
decreases-is_package_wise l = l.number
