use Rattle.solv_leaving.proofs.leaving.+is_plainly_met.Given as goal

abbrev pub decreases-is_plainly_met : goal.decreases-is_plainly_met
decreases-is_plainly_met l = l.dep
