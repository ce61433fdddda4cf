use Rattle.solv_learn.proofs.Levels.{IsHighest}
use Rattle.solv_learn.proofs.search.highest.Given as goal

abbrev pub invariant-loop-lit : goal.invariant-loop-lit
invariant-loop-lit l = IsHighest l.known.lits l.clause l.lit-index l.highest
