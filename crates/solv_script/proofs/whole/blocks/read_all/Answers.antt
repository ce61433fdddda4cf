use Rattle.std.proofs.Common.{◌+◌, ◌∙◌, refl, sym, ap, subst}
use Rattle.solv_io.specs.Lines.{lines_of}
use Rattle.solv_list.proofs.Answers.{on_ok, if_err}
use Rattle.solv_tags.specs.Inner.Lines.{lines_read}
use Rattle.solv_tags.specs.Inner.RepositoryReading.{IsTagRefusal}
use Rattle.solv_tags.proofs.PieceLines.{before_lines, whole_taken}
use Rattle.solv_tags.proofs.ReaderLines.{more_more}
use Rattle.solv_script.specs.ScriptLines.{inline_lines}
use Rattle.solv_script.proofs.whole.blocks.read_all.Goals as goal

pub returns-in-Ok-clause-read : goal.returns-in-Ok-clause-read
returns-in-Ok-clause-read c =
    let universe = c.args.universe.now in
    let middle = c.read_lines.new.universe in
    let lines = inline_lines (c.args.line + 1) (lines_of c.args.behind.now) in
    let start = before_lines c.args.reader c.args.pool.now universe c.args.reader.repo refl c.requires.before c.requires.hand c.requires.block in
    let read = c.in-Ok.ensures.ok in
    let more = more_more universe middle c.end.new.universe c.read_lines.ensures.more c.end.ensures.more in
    on_ok c.end.result (λ k. whole_taken c.in-Ok.last c.read_lines.new.reader c.read_lines.new.pool universe middle c.end.new.universe _ (read.before ∙ c.requires.before)
    (ap (λ s. lines_read 0 s lines) (sym start) ∙ read.is) (k c.read_lines.new.pool read.reading) more) c.end.ensures.ok

pub returns-in-Ok-clause-refused : goal.returns-in-Ok-clause-refused
returns-in-Ok-clause-refused c =
    let universe = c.args.universe.now in
    let lines = inline_lines (c.args.line + 1) (lines_of c.args.behind.now) in
    let start = before_lines c.args.reader c.args.pool.now universe c.args.reader.repo refl c.requires.before c.requires.hand c.requires.block in
    if_err c.end.result (λ fault k. subst (IsTagRefusal fault) (sym (ap (λ s. lines_read 0 s lines) (sym start) ∙ c.in-Ok.ensures.ok.is)) (k c.read_lines.new.pool)) c.end.ensures.refused
