use Rattle.solv_list.proofs.Answers.{ok_map}
use Rattle.solv_solved.proofs.WhatIsHeld.{of_lent}
use Rattle.solv_solved.proofs.lending.solve_over.Goals as goal

pub returns : goal.returns
returns g c =
    let before = c.new-lent.result in
    let after = c.solve_script.new.files in
    ok_map _ _ c.solve_script.result
    (λ held h. of_lent g.K.Lending.held c.args.name.now c.args.budget before.asked after.asked before.faults after.faults c.held.result.now held after.missing c.held.ensures c.new-lent.ensures.asked c.new-lent.ensures.faults h) c.solve_script.ensures
