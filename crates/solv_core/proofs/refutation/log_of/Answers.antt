use Rattle.std.proofs.Common.{◌≡◌, length, arith}
use Rattle.solv_core.proofs.Holding.{number_within}
use Rattle.solv_core.specs.Inner.Holding.{entry_of}
use Rattle.solv_core.proofs.refutation.log_of.Goals as goal

pub places_of-requires-clause-within : goal.places_of-requires-clause-within
places_of-requires-clause-within c = λ rule less.
    let h = c.requires.held in
    number_within c.args.entries.now (entry_of c.args.numbers.now.kept.items c.args.numbers.now.first) h.0 h.1.0 rule (let many : length h.0 ≡ c.args.count = h.1.1 in omega (arith, less, many))

pub steps_of-requires-clause-within : goal.steps_of-requires-clause-within
steps_of-requires-clause-within c = λ rule less.
    let h = c.requires.held in
    number_within c.args.entries.now (entry_of c.args.numbers.now.kept.items c.args.numbers.now.first) h.0 h.1.0 rule (let many : length h.0 ≡ c.args.count = h.1.1 in omega (arith, less, many))
