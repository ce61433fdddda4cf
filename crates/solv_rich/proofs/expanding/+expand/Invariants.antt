use Rattle.solv_rich.proofs.expanding.+expand.Given as goal

abbrev pub decreases-expand : goal.decreases-expand
decreases-expand l = l.dep
