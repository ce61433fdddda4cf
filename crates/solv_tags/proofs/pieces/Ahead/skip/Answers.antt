use Rattle.std.proofs.Common.{◌∙◌, []}
use Rattle.std.specs.Prelude.{⊤}
use Rattle.solv_tags.proofs.PieceLines.{taken_more}
use Rattle.solv_tags.proofs.pieces.Ahead.skip.Goals as goal

pub loop-self-preserved : goal.loop-self-preserved
loop-self-preserved g c =
    let l = c.loop-self in
    record {
      text = c.clear-in-loop-self.ensures.items;
      within = c.in_ok-grow.ensures.within;
      contents = c.grow.ensures.contents ∙ l.invariant.contents;
      asked = c.grow.ensures.asked ∙ l.invariant.asked;
      faults = c.in_ok-grow.ensures.faults ∙ l.invariant.faults;
      taken = taken_more (g.F.Files.left c.args.file.now) (g.F.Files.left l.file) (g.F.Files.left c.grow.new.file) c.args.self.now.size l.self.size c.grow.new.self.size [] l.self.text.items _ _ (λ bytes. ⊤)
          l.invariant.taken c.in_ok-grow.ensures.taken (λ all piece h k. tt);
    }

pub returns-clause-taken : goal.returns-clause-taken
returns-clause-taken g c =
    let l = c.loop-self in
    taken_more (g.F.Files.left c.args.file.now) (g.F.Files.left l.file) (g.F.Files.left c.grow.new.file) c.args.self.now.size l.self.size c.grow.new.self.size [] l.self.text.items _ _ (λ bytes. ⊤)
    l.invariant.taken c.in_ok-grow.ensures.taken (λ all piece h k. tt)
