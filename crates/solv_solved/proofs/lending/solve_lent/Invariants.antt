use Rattle.solv_solved.proofs.lending.solve_lent.Given as goal

abbrev pub ghosts-solve_over : goal.ghosts-solve_over
ghosts-solve_over a = record { held = a.files.now }
