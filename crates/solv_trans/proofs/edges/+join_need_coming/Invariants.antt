use Rattle.solv_trans.proofs.edges.+join_need_coming.Given as goal

abbrev pub decreases-join_need_coming : goal.decreases-join_need_coming
decreases-join_need_coming l = l.need.dep
