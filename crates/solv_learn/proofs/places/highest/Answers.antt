use Rattle.std.proofs.Common.{rules, refl, arith}
use Rattle.solv_learn.proofs.Lasts.{highest_bit}
use Rattle.solv_learn.proofs.places.highest.Goals as goal

pub returns-else-word-eq0 : goal.returns-else-word-eq0
returns-else-word-eq0 c = let some = c.if-word-eq0.false in highest_bit c.args.word _ (omega arith) (search rules) refl
