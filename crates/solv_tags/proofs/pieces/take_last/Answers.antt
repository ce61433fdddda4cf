use Rattle.std.proofs.Common.{◌+◌, ◌<◌, ◌∙◌, length, sym, arith, refl}
use Rattle.std.proofs.lemmas.Bool.Decides.{nat_tests}
use Rattle.solv_io.proofs.WrittenLines.{lines_of-rest}
use Rattle.solv_tags.proofs.PieceLines.{refused_line}
use Rattle.solv_tags.proofs.pieces.take_last.Goals as goal

pub returns-in-Ok-clause-ok : goal.returns-in-Ok-clause-ok
returns-in-Ok-clause-ok c =
    let some : 0 < length c.args.text.now = let none = sym c.is_empty.ensures ∙ c.if-is_empty.false in grind (arith, nat_tests) in
    record {
      is = rw (lines_of-rest c.args.text.now c.requires.open some, c.in-Ok.ensures.ok.is) refl;
      reading = c.in-Ok.ensures.ok.reading;
      repo = c.in-Ok.ensures.ok.repo;
      before = c.in-Ok.ensures.ok.before;
    }

pub returns-in-Err-clause-refused : goal.returns-in-Err-clause-refused
returns-in-Err-clause-refused c =
    let some : 0 < length c.args.text.now = let none = sym c.is_empty.ensures ∙ c.if-is_empty.false in grind (arith, nat_tests) in
    rw (lines_of-rest c.args.text.now c.requires.open some) (refused_line c.in-Err.cause (c.args.lines + 1) _ _ c.in-Err.ensures.refused)
