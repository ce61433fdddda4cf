use Rattle.solv_list.proofs.Answers.{ok_map}
use Rattle.solv_pool.specs.Prelude.{IsClosed}
use Rattle.solv_pool.specs.TaskForms.{HasForms}
use Rattle.solv_solved.specs.Solvings.{was_read}
use Rattle.solv_script.proofs.FinishedRounds.{first_of}
use Rattle.solv_solved.proofs.WhatIsHeld.{unread_by}
use Rattle.solv_solved.proofs.solving.solve_script.Goals as goal

pub held_for-requires-clause-closed : goal.held_for-requires-clause-closed
held_for-requires-clause-closed g c = first_of IsClosed c.in-Ok.script c.in-Ok.ensures.closed

pub held_for-requires-clause-forms : goal.held_for-requires-clause-forms
held_for-requires-clause-forms g c = first_of HasForms c.in-Ok.script c.in-Ok.ensures.forms

pub returns-in-Ok : goal.returns-in-Ok
returns-in-Ok g c = ok_map _ _ c.held_for.result (λ held h. was_read c.in-Ok.script held c.in-Ok.ensures.read h) c.held_for.ensures

pub returns-in-Err : goal.returns-in-Err
returns-in-Err g c = ok_map _ _ c.held_for_fault.result (λ held h. unread_by _ _ _ c.in-Err.fault held c.in-Err.ensures.ended h) c.held_for_fault.ensures
