use Rattle.std.proofs.Common.{◌∙◌, ◌+◌, ◌++◌, List, ℕ, [], sym, subst, ap}
use Rattle.std.specs.Prelude.{⊤}
use Rattle.std.specs.List.{enumerate_from}
use Rattle.solv_io.specs.Lines.{lines_of, numbered_lines}
use Rattle.solv_list.proofs.Answers.{ok_map, if_err}
use Rattle.solv_tags.specs.Inner.Lines.{lines_read}
use Rattle.solv_tags.specs.Inner.Pieces.{Leaves}
use Rattle.solv_tags.specs.Inner.RepositoryReading.{IsTagRefusal}
use Rattle.solv_tags.specs.Inner.TagReading.{tagged_of}
use Rattle.solv_tags.proofs.PieceLines.{taken_so, taken_more, leaves_all}
use Rattle.solv_tags.proofs.ReaderLines.{more_more}
use Rattle.solv_tags.proofs.pieces.take_file.Goals as goal

pub returns-in-Ok-clause-read : goal.returns-in-Ok-clause-read
returns-in-Ok-clause-read g c =
    let start = tagged_of c.args.reader.now c.args.pool.now c.args.universe.now in
    let at = c.take_pieces.new.at in
    let now = tagged_of c.take_pieces.new.reader c.take_pieces.new.pool c.take_pieces.new.universe in
    let repo = rw c.in-Ok.is at c.in_ok-take_pieces.ensures.repo in
    let before = rw c.in-Ok.is at c.in_ok-take_pieces.ensures.before in
    let h = rw c.in-Ok.is at c.in_ok-take_pieces.ensures.taken in
    ok_map _ _ c.take_last.result (λ last k. taken_so (g.F.Files.left c.args.file.now) (g.F.Files.left c.take_pieces.new.file) c.args.at.now.size at.size c.args.at.now.text.items (Leaves start at.lines now at.text.items) _
    h (λ all leaves. record {
      is = leaves_all start now at.lines at.text.items all leaves ∙ ap (λ l. lines_read at.lines now (enumerate_from (at.lines + 1) (lines_of l))) (sym c.deref.ensures.value) ∙ k.is;
      reading = k.reading;
      repo = k.repo ∙ repo;
      before = k.before ∙ before;
    })) c.take_last.ensures.ok

pub returns-in-Ok-clause-refused : goal.returns-in-Ok-clause-refused
returns-in-Ok-clause-refused g c =
    let start = tagged_of c.args.reader.now c.args.pool.now c.args.universe.now in
    let at = c.take_pieces.new.at in
    let now = tagged_of c.take_pieces.new.reader c.take_pieces.new.pool c.take_pieces.new.universe in
    let h = rw c.in-Ok.is at c.in_ok-take_pieces.ensures.taken in
    if_err c.take_last.result (λ fault k. taken_so (g.F.Files.left c.args.file.now) (g.F.Files.left c.take_pieces.new.file) c.args.at.now.size at.size c.args.at.now.text.items (Leaves start at.lines now at.text.items) _
    h (λ all leaves. subst (IsTagRefusal fault) (sym (leaves_all start now at.lines at.text.items all leaves ∙ ap (λ l. lines_read at.lines now (enumerate_from (at.lines + 1) (lines_of l))) (sym c.deref.ensures.value))) k)) c.take_last.ensures.refused

pub returns-in-Ok-clause-more : goal.returns-in-Ok-clause-more
returns-in-Ok-clause-more g c = more_more c.args.universe.now c.take_pieces.new.universe c.take_last.new.universe c.take_pieces.ensures.more c.take_last.ensures.more

pub returns-in_ok-skip-in-Err-clause-refused : goal.returns-in_ok-skip-in-Err-clause-refused
returns-in_ok-skip-in-Err-clause-refused g c =
    let start = tagged_of c.args.reader.now c.args.pool.now c.args.universe.now in
    let at = c.take_pieces.new.at in
    let h = rw c.in-Err.is at c.in_ok-take_pieces.ensures.refused in
    taken_more (g.F.Files.left c.args.file.now) (g.F.Files.left c.take_pieces.new.file) (g.F.Files.left c.skip.new.file) c.args.at.now.size at.size c.skip.new.self.size c.args.at.now.text.items []
    (λ bytes. (more : List ℕ) → IsTagRefusal c.in-Err.fault (lines_read 0 start (numbered_lines (bytes ++ more)))) (λ bytes. ⊤) _ h c.in_ok-skip-in-Err.ensures.taken (λ all piece k done. k piece)
