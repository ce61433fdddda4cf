use Rattle.std.proofs.Common.{◌++◌, List, ℕ, ap, sym, ◌∙◌}
use Rattle.solv_io.specs.Lines.{ended_lines}
use Rattle.solv_script.specs.Rounds.{turns}
use Rattle.solv_run.specs.Checks.{false_lines}
use Rattle.solv_run.specs.Texts.{rounds_lines}
use Rattle.solv_run.proofs.WhatIsAsked.{lines_print}
use Rattle.solv_run.proofs.running.answers_text.Goals as goal
use Rattle.solv_io.proofs.WrittenLines.{ended_lines-append}

pub returns : goal.returns
returns c =
    let script = c.args.script.now in
    let begun = c.args.begun.now in
    let told : List (List ℕ) = rounds_lines c.args.command.now.shows (turns script) begun.reached.answers in
    c.in_ok-extend_from_slice.ensures.items
    ∙ ap (λ t. t ++ c.deref.result.now) (c.in_ok-append_false.ensures ∙ ap (λ t. t ++ ended_lines (false_lines c.held.result.now)) c.new-out.ensures.items)
    ∙ ap (λ l. ended_lines (false_lines l) ++ c.deref.result.now) c.held.ensures
    ∙ ap (λ t. ended_lines (false_lines script.checks) ++ t) (c.deref.ensures.value ∙ c.requires.all.text (lines_print c.args.command.now.output c.requires.plain))
    ∙ sym (ended_lines-append (false_lines script.checks) told)
