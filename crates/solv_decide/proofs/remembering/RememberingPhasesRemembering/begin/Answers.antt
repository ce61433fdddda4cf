use Rattle.solv_decide.proofs.remembering.RememberingPhasesRemembering.begin.Goals as goal

pub returns : goal.returns
returns g c = c.fit.ensures.fits g.K.Planned.plan
