use Rattle.std.proofs.Common.{◌≡◌, drop, map}
use Rattle.solv_pool.specs.Prelude.{contains_literal}
use Rattle.solv_rich.specs.Inner.Expansions.{literal_of}
use Rattle.solv_rich.proofs.shortening.is_among.Given as goal

abbrev pub invariant-loop-each : goal.invariant-loop-each
invariant-loop-each l = contains_literal (map literal_of (drop l.each-index l.said)) (literal_of l.wanted) ≡ contains_literal (map literal_of l.said) (literal_of l.wanted)
