use Rattle.std.proofs.Common.{◌≤◌, ◌≡◌, arith, vec_len, length}
use Rattle.solv_trail.proofs.Holding.{held_few}
use Rattle.solv_trail.proofs.known.Known.len.Goals as goal

pub returns-clause-room : goal.returns-clause-room
returns-clause-room c =
    let f = c.self.inside in
    let few : length f.lits.items ≤ f.count = held_few f.count f.values.items f.places.items f.lits.items f.reasons.items f.marks.items c.self.invariant.held in
    let long : vec_len f.lits ≡ length f.lits.items = f.lits.ok.0 in
    rw (← c.self.view_is) (omega (arith, c.len.ensures))
