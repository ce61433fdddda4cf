use Rattle.solv_io.proofs.WrittenLines.{lines_of-ended, lines_of-open}
use Rattle.solv_io.proofs.laws.lines_are_read_again.Goals as goal

pub returns-clause-closed : goal.returns-clause-closed
returns-clause-closed c = lines_of-ended

pub returns-clause-open : goal.returns-clause-open
returns-clause-open c = lines_of-open
