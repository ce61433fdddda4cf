use Rattle.std.proofs.Common.{rules, refl, arith}
use Rattle.solv_trail.proofs.Bits.{none_from, first_from}
use Rattle.solv_trail.proofs.numbers.lowest.Goals as goal

pub returns-then-left-eq0-clause-first : goal.returns-then-left-eq0-clause-first
returns-then-left-eq0-clause-first c = none_from c.args.word c.args.from _ c.requires refl (search rules) c.if-left-eq0.true

pub returns-else-left-eq0-clause-first : goal.returns-else-left-eq0-clause-first
returns-else-left-eq0-clause-first c = let some = c.if-left-eq0.false in (first_from c.args.word c.args.from _ c.requires refl (omega arith) (search rules) _ refl).1

pub returns-else-left-eq0-clause-within : goal.returns-else-left-eq0-clause-within
returns-else-left-eq0-clause-within c = let some = c.if-left-eq0.false in (first_from c.args.word c.args.from _ c.requires refl (omega arith) (search rules) _ refl).0
