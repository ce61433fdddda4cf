use Rattle.std.proofs.Common.{take, map}
use Rattle.solv_rich.specs.Inner.Expansions.{literal_of}
use Rattle.solv_rich.specs.Inner.LongClauses.{IsSetOf}
use Rattle.solv_rich.proofs.long_clauses.set_of.Given as goal

abbrev pub invariant-loop-each : goal.invariant-loop-each
invariant-loop-each l = IsSetOf l.set (map literal_of (take l.each-index l.said))
