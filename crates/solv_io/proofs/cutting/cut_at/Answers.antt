use Rattle.std.proofs.Common.{◌≡◌, ◌<◌, ◌+◌, arith, length}
use Rattle.std.proofs.lemmas.List.{take_rest}
use Rattle.std.proofs.lemmas.Bool.Decides.{nat_tests}
use Rattle.solv_io.proofs.ByteCuts.{first_text, last_text}
use Rattle.solv_io.proofs.cutting.cut_at.Goals as goal

pub returns-then-n-text-clause-more : goal.returns-then-n-text-clause-more
returns-then-n-text-clause-more c =
    let within : c.place_of-n.result < length c.args.text.now = grind (arith, nat_tests, c.if-n-text.true) in
    rw (take_rest c.args.text.now (c.place_of-n.result + 1)) (first_text c.args.separator c.args.text.now c.place_of-n.result c.place_of-n.ensures.run within)

pub returns-else-n-text-clause-last : goal.returns-else-n-text-clause-last
returns-else-n-text-clause-last c =
    let whole : c.place_of-n.result ≡ length c.args.text.now = grind (arith, nat_tests, c.if-n-text.false, c.place_of-n.ensures.within) in
    last_text c.args.separator c.args.text.now c.place_of-n.result c.place_of-n.ensures.run whole
