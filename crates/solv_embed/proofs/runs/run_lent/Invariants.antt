use Rattle.solv_embed.proofs.runs.run_lent.Given as goal

abbrev pub ghosts-run_over : goal.ghosts-run_over
ghosts-run_over a = record { held = a.files.now }
