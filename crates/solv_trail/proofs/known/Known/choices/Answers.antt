use Rattle.std.proofs.Common.{◌≤◌, ◌≡◌, arith, vec_len, length}
use Rattle.solv_trail.proofs.Holding.{held_few}
use Rattle.solv_trail.proofs.known.Known.choices.Goals as goal

pub returns-clause-room : goal.returns-clause-room
returns-clause-room c =
    let f = c.self.inside in
    rw (← c.self.view_is) (held_few f.count f.values.items f.places.items f.lits.items f.reasons.items f.marks.items c.self.invariant.held)

pub returns-clause-few : goal.returns-clause-few
returns-clause-few c =
    let f = c.self.inside in
    let room : length f.lits.items ≤ f.count = held_few f.count f.values.items f.places.items f.lits.items f.reasons.items f.marks.items c.self.invariant.held in
    let few : length f.marks.items ≤ length f.lits.items = c.self.invariant.held.marks_few in
    let long : vec_len f.marks ≡ length f.marks.items = f.marks.ok.0 in
    rw (← c.self.view_is) (omega (arith, c.len.ensures))
