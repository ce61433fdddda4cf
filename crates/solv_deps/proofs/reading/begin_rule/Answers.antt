use Rattle.solv_deps.proofs.reading.begin_rule.Goals as goal

pub returns-in-Else-clause-goes : goal.returns-in-Else-clause-goes
returns-in-Else-clause-goes c = λ at. rw c.in-Else.is (c.else_here.ensures.goes at)
