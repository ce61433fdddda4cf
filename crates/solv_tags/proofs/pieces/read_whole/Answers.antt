use Rattle.std.proofs.Common.{◌≡◌, ◌∙◌, ◌++◌, [], length, refl, sym, ap, subst}
use Rattle.std.specs.Prelude.{IsOkAnd}
use Rattle.solv_io.specs.Lines.{numbered_lines}
use Rattle.solv_list.proofs.Answers.{on_ok, if_err}
use Rattle.solv_tags.specs.Inner.Lines.{lines_read}
use Rattle.solv_tags.specs.Inner.RepositoryReading.{IsTaken, IsTagRefusal}
use Rattle.solv_tags.specs.Inner.TagReading.{tagged_of}
use Rattle.solv_tags.specs.Inner.Testtags.{testtags_file}
use Rattle.solv_tags.proofs.PieceLines.{taken_more, file_read, before_lines, whole_taken}
use Rattle.solv_tags.proofs.ReaderLines.{more_more}
use Rattle.solv_tags.proofs.SameLines.{said_same}
use Rattle.solv_tags.proofs.pieces.read_whole.Goals as goal

pub returns-in-Ok-clause-read : goal.returns-in-Ok-clause-read
returns-in-Ok-clause-read g c =
    let left = g.F.Files.left in
    let repo = c.args.repo in
    let pool = c.args.pool.now in
    let universe = c.args.universe.now in
    let reader = c.new-reader.result in
    let text = c.grow.new.self.text.items in
    let after = c.take_file.new.universe in
    let first = rw (c.new-at.ensures.size, c.new-at.ensures.text) at c.in_ok-grow.ensures.taken in
    let second = rw c.in-Ok.is at c.in_ok-last.ensures.read in
    let before : reader.before ≡ length universe.packages = c.new-reader.ensures.before ∙ c.count.ensures in
    let start = before_lines reader pool universe repo c.new-reader.ensures.repo before c.new-reader.ensures.hand c.new-reader.ensures.block in
    let more = more_more universe after c.end.new.universe c.take_file.ensures.more c.end.ensures.more in
    on_ok c.end.result (λ k. file_read c.args.most c.take_file.new.at.size (left c.args.file.now) (left c.take_file.new.file)
    (λ bytes. IsOkAnd (testtags_file pool (length universe.packages) repo bytes) (λ r. IsTaken r c.take_file.new.pool universe c.end.new.universe))
    (taken_more (left c.args.file.now) (left c.grow.new.file) (left c.take_file.new.file) 0 c.grow.new.self.size c.take_file.new.at.size [] text _ _ _ first second
    (λ all piece same read. said_same (λ r. IsOkAnd r (λ taken. IsTaken taken c.take_file.new.pool universe c.end.new.universe)) pool (length universe.packages) repo repo (numbered_lines (all ++ piece)) refl
    (whole_taken c.in-Ok.last c.take_file.new.reader c.take_file.new.pool universe after c.end.new.universe _ (read.before ∙ before)
    (ap (λ s. lines_read 0 s (numbered_lines (all ++ piece))) (sym start) ∙ ap (λ l. lines_read 0 (tagged_of reader pool universe) (numbered_lines (l ++ piece))) (sym same) ∙ read.is)
    (k c.take_file.new.pool read.reading) more)))
    c.in_ok-last.ensures.within c.in_ok-last.ensures.done) c.end.ensures.ok

pub returns-in-Ok-clause-refused : goal.returns-in-Ok-clause-refused
returns-in-Ok-clause-refused g c =
    let left = g.F.Files.left in
    let repo = c.args.repo in
    let pool = c.args.pool.now in
    let universe = c.args.universe.now in
    let reader = c.new-reader.result in
    let text = c.grow.new.self.text.items in
    let first = rw (c.new-at.ensures.size, c.new-at.ensures.text) at c.in_ok-grow.ensures.taken in
    let second = rw c.in-Ok.is at c.in_ok-last.ensures.read in
    let before : reader.before ≡ length universe.packages = c.new-reader.ensures.before ∙ c.count.ensures in
    let start = before_lines reader pool universe repo c.new-reader.ensures.repo before c.new-reader.ensures.hand c.new-reader.ensures.block in
    if_err c.end.result (λ fault k. file_read c.args.most c.take_file.new.at.size (left c.args.file.now) (left c.take_file.new.file)
    (λ bytes. IsTagRefusal fault (testtags_file pool (length universe.packages) repo bytes))
    (taken_more (left c.args.file.now) (left c.grow.new.file) (left c.take_file.new.file) 0 c.grow.new.self.size c.take_file.new.at.size [] text _ _ _ first second
    (λ all piece same read. said_same (IsTagRefusal fault) pool (length universe.packages) repo repo (numbered_lines (all ++ piece)) refl
    (subst (IsTagRefusal fault) (sym (ap (λ s. lines_read 0 s (numbered_lines (all ++ piece))) (sym start) ∙ ap (λ l. lines_read 0 (tagged_of reader pool universe) (numbered_lines (l ++ piece))) (sym same) ∙ read.is))
    (k c.take_file.new.pool))))
    c.in_ok-last.ensures.within c.in_ok-last.ensures.done) c.end.ensures.refused

pub returns-in-Ok-clause-more : goal.returns-in-Ok-clause-more
returns-in-Ok-clause-more g c = more_more c.args.universe.now c.take_file.new.universe c.end.new.universe c.take_file.ensures.more c.end.ensures.more

pub returns-clause-refused : goal.returns-clause-refused
returns-clause-refused g c =
    let left = g.F.Files.left in
    let repo = c.args.repo in
    let pool = c.args.pool.now in
    let universe = c.args.universe.now in
    let reader = c.new-reader.result in
    let text = c.grow.new.self.text.items in
    let fault = c.in-Err.fault in
    let first = rw (c.new-at.ensures.size, c.new-at.ensures.text) at c.in_ok-grow.ensures.taken in
    let second = rw c.in-Err.is at c.in_ok-last.ensures.refused in
    let before : reader.before ≡ length universe.packages = c.new-reader.ensures.before ∙ c.count.ensures in
    let start = before_lines reader pool universe repo c.new-reader.ensures.repo before c.new-reader.ensures.hand c.new-reader.ensures.block in
    file_read c.args.most c.take_file.new.at.size (left c.args.file.now) (left c.take_file.new.file)
    (λ bytes. IsTagRefusal fault (testtags_file pool (length universe.packages) repo bytes))
    (taken_more (left c.args.file.now) (left c.grow.new.file) (left c.take_file.new.file) 0 c.grow.new.self.size c.take_file.new.at.size [] text _ _ _ first second
    (λ all piece same refused. said_same (IsTagRefusal fault) pool (length universe.packages) repo repo (numbered_lines (all ++ piece)) refl
    (subst (IsTagRefusal fault) (sym (ap (λ s. lines_read 0 s (numbered_lines (all ++ piece))) (sym start) ∙ ap (λ l. lines_read 0 (tagged_of reader pool universe) (numbered_lines (l ++ piece))) (sym same))) refused)))
    c.in_ok-last.ensures.within c.in_ok-last.ensures.done
