use Rattle.std.proofs.Common.{◌≡◌, ◌++◌, ◌||◌, Bool, List, ℕ, sym, ap, ◌∙◌}
use Rattle.std.specs.Prelude.{is_none}
use Rattle.solv_io.specs.Lines.{ended_lines}
use Rattle.solv_pool.specs.Prelude.{when}
use Rattle.solv_script.specs.Inner.Turns.{first_turn}
use Rattle.solv_run.specs.Texts.{told_lines, differences}
use Rattle.solv_run.proofs.printing.round_said.Goals as goal
use Rattle.solv_io.proofs.WrittenLines.{ended_lines-append}

pub returns-clause-text : goal.returns-clause-text
returns-clause-text c =
    let turn = first_turn c.args.script.now in
    let asked : Bool = c.args.shows || is_none c.args.script.now.wanted in
    let differing = differences turn c.args.answer.now in
    let shown : List (List ℕ) = when asked (told_lines turn c.args.answer.now) in
    let told : c.append_told.new.text.items ≡ ended_lines shown =
    c.in_ok-append_told.ensures ∙ ap (λ t. t ++ ended_lines (when asked c.in_ok-given.given)) c.new-text.ensures.items ∙ ap (λ g. ended_lines (when asked g)) c.in_ok-given.ensures in
    c.in_ok-append_lines.ensures
    ∙ ap (λ t. t ++ ended_lines c.deref.result.now) told
    ∙ ap (λ d. ended_lines shown ++ ended_lines d) (c.deref.ensures.value ∙ c.in_ok-differing.ensures)
    ∙ sym (ended_lines-append shown differing)
