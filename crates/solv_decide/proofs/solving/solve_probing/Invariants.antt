use Rattle.solv_decide.proofs.solving.solve_probing.Given as goal

abbrev pub ghosts-run_probing : goal.ghosts-run_probing
ghosts-run_probing a = record { plan = a.phases.now.plan }
