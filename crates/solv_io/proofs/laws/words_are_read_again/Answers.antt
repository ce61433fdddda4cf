use Rattle.solv_io.proofs.WordsAgain.{words_again}
use Rattle.solv_io.proofs.laws.words_are_read_again.Goals as goal

pub returns : goal.returns
returns c = words_again
