use Rattle.std.proofs.Common.{ℕ, List, ap, ◌∙◌}
use Rattle.solv_io.specs.declared.status.Status.TheVariants.{Done}
use Rattle.solv_run.specs.Cases.{nothing_reached}
use Rattle.solv_run.specs.Inner.Phases.{concluded}
use Rattle.solv_run.proofs.Said.{due_written}
use Rattle.solv_run.proofs.running.written_due.Goals as goal

pub returns : goal.returns
returns c =
    due_written c.args.command.now c.args.script.now c.in_ok-write_script.field-0 c.unanswered.result c.requires.asked c.in_ok-write_script.ensures.text
    (c.unanswered.ensures ∙ ap (λ (err : List ℕ). concluded (record { status = Done; out = c.in_ok-write_script.field-0; err = err }) nothing_reached) (c.wrap.ensures ∙ c.new.ensures.items))
