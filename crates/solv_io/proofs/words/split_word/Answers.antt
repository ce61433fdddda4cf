use Rattle.std.proofs.Common.{◌<◌, arith, length}
use Rattle.std.proofs.lemmas.List.{take_rest}
use Rattle.std.proofs.lemmas.Bool.Decides.{nat_tests}
use Rattle.solv_io.proofs.WordRuns.{word_cut}
use Rattle.solv_io.proofs.words.split_word.Goals as goal

pub returns-clause-word : goal.returns-clause-word
returns-clause-word c =
    let line = c.skip_blanks-line.result.now in
    let there : 0 < length line = grind (arith, nat_tests, c.is_empty.ensures, c.if-is_empty.false) in
    rw (← c.skip_blanks-line.ensures.same, take_rest line c.word_len-n.result)
    (word_cut line c.word_len-n.result there (c.skip_blanks-line.ensures.at_word there) c.word_len-n.ensures.run)
