use Rattle.std.proofs.Common.{sym, ap, ◌∙◌, ◌+◌, drop, arith}
use Rattle.std.specs.Prelude.{option_and_then}
use Rattle.solv_commands.specs.Inner.FlagWords.{with_words}
use Rattle.solv_commands.proofs.SettingLists.{texts, words_from}
use Rattle.solv_commands.proofs.flags_of_solver.set_flags.Goals as goal

pub returns-in-None : goal.returns-in-None
returns-in-None c =
    let i = c.loop-word.word-index in
    sym (ap (option_and_then (with_words (texts (drop (i + 1) c.args.words.now)))) c.in-None.is)
    ∙ sym (words_from c.args.words.now i _ c.loop-word.flags c.with_settings.result (omega arith) c.with_settings.ensures)
    ∙ c.loop-word.invariant

pub loop-word-preserved : goal.loop-word-preserved
loop-word-preserved c =
    let i = c.loop-word.word-index in
    sym (ap (option_and_then (with_words (texts (drop (i + 1) c.args.words.now)))) c.in-Some.is)
    ∙ sym (words_from c.args.words.now i _ c.loop-word.flags c.with_settings.result (omega arith) c.with_settings.ensures)
    ∙ c.loop-word.invariant
