use Rattle.solv_trans.proofs.edges.+join_need_going.Given as goal

abbrev pub decreases-join_need_going : goal.decreases-join_need_going
decreases-join_need_going l = l.need.dep
