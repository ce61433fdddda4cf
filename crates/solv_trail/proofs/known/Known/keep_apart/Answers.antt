use Rattle.solv_trail.proofs.Holding.{held_apart}
use Rattle.solv_trail.proofs.known.Known.keep_apart.Goals as goal

pub returns-clause-apart : goal.returns-clause-apart
returns-clause-apart c =
    let f = c.self.inside in
    rw (← c.self.view_is) (held_apart f.count f.values.items f.places.items f.lits.items f.reasons.items f.marks.items c.self.invariant.held)

pub returns-clause-small : goal.returns-clause-small
returns-clause-small c = rw (← c.self.view_is) c.self.invariant.held.small

pub returns-clause-over : goal.returns-clause-over
returns-clause-over c = rw (← c.self.view_is) c.self.invariant.held.over
