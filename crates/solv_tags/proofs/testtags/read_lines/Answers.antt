use Rattle.solv_tags.proofs.ReaderLines.{more_more}
use Rattle.solv_tags.proofs.testtags.read_lines.Goals as goal

pub returns-in-Err-clause-more : goal.returns-in-Err-clause-more
returns-in-Err-clause-more c = more_more c.args.universe.now c.loop-number.universe c.line.new.universe c.loop-number.invariant.more c.line.ensures.more
