use Rattle.std.proofs.Common.{ℕ, ◌≤◌, List, ◌∷◌, [], ◌++◌, length, map, sym, ap, subst, ◌∙◌}
use Rattle.std.specs.Prelude.{codes}
use Rattle.solv_deps.specs.Canonical.{comparison_text}
use Rattle.solv_io.specs.JoinedWords.{joined}
use Rattle.solv_io.specs.Lines.{ended_lines}
use Rattle.solv_pool.specs.declared.jobs.Job.{Job}
use Rattle.solv_script.specs.declared.scripts.EvrCheck.{EvrCheck}
use Rattle.solv_script.specs.declared.scripts.Round.{Round}
use Rattle.solv_script.specs.Grammar.{most_file}
use Rattle.solv_script.specs.Reads.{written_script}
use Rattle.solv_writing.specs.WrittenBack.{IsReadBack}
use Rattle.solv_writing.specs.Inner.RoundTexts.{later_text, round_text}
use Rattle.solv_writing.proofs.TextInParts.{text_is}
use Rattle.solv_writing.proofs.WholeTexts.{script_put}
use Rattle.solv_writing.proofs.writing.write_script.Goals as goal

pub returns-clause-text : goal.returns-clause-text
returns-clause-text c =
    let script = c.args.script.now in
    c.wrap.ensures
    ∙ script_put script c.new-text.result.items c.put_universe.new.into.items c.put_checks.new.into.items c.put_round.new.into.items c.put_later.new.into.items c.new-text.ensures.items c.in_ok-put_universe.ensures
    (c.in_ok-put_checks.ensures ∙ ap (λ (checks : List EvrCheck). c.put_universe.new.into.items ++ ended_lines (map (λ (check : EvrCheck). joined (codes "evrcmp" ∷ check.left ∷ comparison_text check.op ∷ check.right ∷ [])) checks)) c.held.ensures)
    (c.in_ok-put_round.ensures ∙ ap (λ (jobs : List Job). c.put_checks.new.into.items ++ ended_lines (round_text (record { flags = script.task.flags; jobs = jobs; kinds = script.kinds; wanted = script.wanted }))) c.held-2.ensures)
    (c.in_ok-put_later.ensures ∙ ap (λ (rounds : List Round). c.put_round.new.into.items ++ ended_lines (later_text rounds)) c.held-3.ensures)
    ∙ sym (text_is (written_script script))

pub returns-clause-sense : goal.returns-clause-sense
returns-clause-sense c came short =
    let script = c.args.script.now in
    let P : List ℕ → Type 0 = λ text. length text ≤ most_file → IsReadBack (written_script script) text in
    subst P (sym (returns-clause-text c)) (c.each_script_is_read_back.ensures script came) short
