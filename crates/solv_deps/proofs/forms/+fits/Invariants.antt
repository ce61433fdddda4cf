use Rattle.solv_deps.proofs.forms.+fits.Given as goal

abbrev pub decreases-fits : goal.decreases-fits
decreases-fits l = l.number
