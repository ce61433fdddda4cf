use Rattle.std.proofs.Common.{◌+◌, length}
use Rattle.std.proofs.lemmas.List.{take_rest}
use Rattle.std.proofs.Math.Seq.{drop-length}
use Rattle.solv_io.proofs.FirstLine.{lines_of-whole, lines_of-cut}
use Rattle.solv_io.proofs.line_walk.split_line.Goals as goal

pub returns-in-Some-clause-first : goal.returns-in-Some-clause-first
returns-in-Some-clause-first c =
    let found = c.in-Some.ensures in
    rw (take_rest c.args.text.now (c.in-Some.end + 1)) (lines_of-cut c.args.text.now c.in-Some.end found.0.high found.0.before found.1)

pub returns-in-None-clause-first : goal.returns-in-None-clause-first
returns-in-None-clause-first c =
    rw (take_rest c.args.text.now (length c.args.text.now), drop-length c.args.text.now) (lines_of-whole c.args.text.now c.requires c.in-None.ensures)
