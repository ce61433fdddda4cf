use Rattle.solv_deps.proofs.forms.+is_unconditional.Given as goal

abbrev pub decreases-is_unconditional : goal.decreases-is_unconditional
decreases-is_unconditional l = l.number
