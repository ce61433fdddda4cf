use Rattle.std.proofs.Common.{◌≡◌, ◌∙◌, ◌+◌, ◌≤◌, length, ap, sym, subst, arith, rules, length-append}
use Rattle.solv_io.specs.Lines.{IsLine}
use Rattle.solv_tags.specs.Inner.Pieces.{Leaves}
use Rattle.solv_tags.specs.Inner.TagReading.{tagged_of}
use Rattle.solv_tags.proofs.PieceLines.{taken_more, leaves_on}
use Rattle.solv_tags.proofs.ReaderLines.{more_more}
use Rattle.solv_tags.proofs.pieces.take_pieces.Goals as goal

pub returns-in_err-grow-clause-more : goal.returns-in_err-grow-clause-more
returns-in_err-grow-clause-more g c = more_more c.args.universe.now c.loop-lines.universe c.take_ended.new.universe c.loop-lines.invariant.more c.take_ended.ensures.more

pub returns-then-not-branch-clause-taken : goal.returns-then-not-branch-clause-taken
returns-then-not-branch-clause-taken g c =
    let l = c.loop-lines in
    let start = tagged_of c.args.reader.now c.args.pool.now c.args.universe.now in
    let before = tagged_of l.reader l.pool l.universe in
    let after = tagged_of c.take_ended.new.reader c.take_ended.new.pool c.take_ended.new.universe in
    taken_more (g.F.Files.left c.args.file.now) (g.F.Files.left l.file) (g.F.Files.left c.grow.new.file) c.args.at.now.size l.at.size c.grow.new.self.size c.args.at.now.text.items c.in-Ok-from_slice.rest.items
    (Leaves start l.at.lines before l.at.text.items) _ (Leaves start c.grow.new.self.lines after c.grow.new.self.text.items) l.invariant.taken c.in_ok-grow.ensures.taken
    (λ all piece h k. rw c.grow.ensures.lines (leaves_on start before after l.at.lines c.in-Ok.lines l.at.text.items c.in-Ok.rest.now c.in-Ok-from_slice.rest.items c.grow.new.self.text.items
    (rw c.deref.ensures.value at c.in-Ok.ensures.leaves) c.in-Ok-from_slice.ensures.items all piece h k))

pub returns-then-not-branch-clause-open : goal.returns-then-not-branch-clause-open
returns-then-not-branch-clause-open g c = subst IsLine (sym (c.in_ok-grow.ensures.same (search rules) ∙ c.in-Ok-from_slice.ensures.items)) c.in-Ok.ensures.open

pub returns-then-not-branch-clause-more : goal.returns-then-not-branch-clause-more
returns-then-not-branch-clause-more g c = more_more c.args.universe.now c.loop-lines.universe c.take_ended.new.universe c.loop-lines.invariant.more c.take_ended.ensures.more

pub loop-lines-preserved : goal.loop-lines-preserved
loop-lines-preserved g c =
    let l = c.loop-lines in
    let start = tagged_of c.args.reader.now c.args.pool.now c.args.universe.now in
    let before = tagged_of l.reader l.pool l.universe in
    let after = tagged_of c.take_ended.new.reader c.take_ended.new.pool c.take_ended.new.universe in
    let piece = c.in_ok-grow.ensures.taken in
    let text : length c.grow.new.self.text.items ≡ length c.in-Ok.rest.now + length piece.piece = ap length piece.holds ∙ length-append c.in-Ok-from_slice.rest.items piece.piece ∙ ap (λ k. k + length piece.piece) (ap length c.in-Ok-from_slice.ensures.items) in
    let size : c.grow.new.self.size ≡ l.at.size + length piece.piece = piece.count in
    let lines : c.grow.new.self.lines ≡ c.in-Ok.lines = c.grow.ensures.lines in
    let lent : length c.deref.result.now ≡ length l.at.text.items = ap length c.deref.ensures.value in
    let taken : c.in-Ok.lines + length c.in-Ok.rest.now ≤ l.at.lines + length c.deref.result.now = c.in-Ok.ensures.count in
    let counted : l.at.lines + length l.at.text.items ≤ l.at.size = l.invariant.count in
    record {
      within = c.in_ok-grow.ensures.within;
      contents = c.grow.ensures.contents ∙ l.invariant.contents;
      asked = c.grow.ensures.asked ∙ l.invariant.asked;
      faults = c.in_ok-grow.ensures.faults ∙ l.invariant.faults;
      count = omega arith;
      reading = c.in-Ok.ensures.reading;
      repo = c.in-Ok.ensures.repo ∙ l.invariant.repo;
      before = c.in-Ok.ensures.before ∙ l.invariant.before;
      more = more_more c.args.universe.now c.loop-lines.universe c.take_ended.new.universe c.loop-lines.invariant.more c.take_ended.ensures.more;
      grows = search rules;
      taken = taken_more (g.F.Files.left c.args.file.now) (g.F.Files.left l.file) (g.F.Files.left c.grow.new.file) c.args.at.now.size l.at.size c.grow.new.self.size c.args.at.now.text.items c.in-Ok-from_slice.rest.items
          (Leaves start l.at.lines before l.at.text.items) _ (Leaves start c.grow.new.self.lines after c.grow.new.self.text.items) l.invariant.taken c.in_ok-grow.ensures.taken
          (λ all piece h k. rw c.grow.ensures.lines (leaves_on start before after l.at.lines c.in-Ok.lines l.at.text.items c.in-Ok.rest.now c.in-Ok-from_slice.rest.items c.grow.new.self.text.items
          (rw c.deref.ensures.value at c.in-Ok.ensures.leaves) c.in-Ok-from_slice.ensures.items all piece h k));
    }
