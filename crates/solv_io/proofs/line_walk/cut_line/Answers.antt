use Rattle.std.proofs.Common.{◌+◌, length}
use Rattle.std.proofs.lemmas.List.{take_rest}
use Rattle.solv_io.proofs.FirstLine.{is_line, is_line-before, cut-at}
use Rattle.solv_io.proofs.line_walk.cut_line.Goals as goal

pub returns-in-Some-clause-cut : goal.returns-in-Some-clause-cut
returns-in-Some-clause-cut c =
    let found = c.in-Some.ensures in
    rw (take_rest c.args.text.now (c.in-Some.end + 1)) (cut-at c.args.text.now c.in-Some.end found.0.high found.1)

pub returns-in-Some-clause-line : goal.returns-in-Some-clause-line
returns-in-Some-clause-line c =
    let found = c.in-Some.ensures in
    is_line-before c.args.text.now c.in-Some.end found.0.high found.0.before

pub returns-in-None-clause-none : goal.returns-in-None-clause-none
returns-in-None-clause-none c = is_line c.args.text.now c.in-None.ensures
