use Rattle.std.proofs.Common.{◌≡◌, ◌≤◌, ◌<◌, arith, length, get_or}
use Rattle.std.proofs.lemmas.List.{get_or_read}
use Rattle.solv_trail.proofs.Holding.{marks_at_least}
use Rattle.solv_trail.proofs.known.Known.cut.Goals as goal
use Rattle.solv_trail.proofs.known.Known.cut.Goals.{After-index}

level : (c : After-index) → c.args.level < length c.self.inside.marks.items
level c = rw (← c.self.view_is) at c.requires

end_is : (c : After-index) → c.index.result.now ≡ get_or c.self.inside.marks.items c.args.level 0
end_is c = get_or_read c.self.inside.marks.items c.args.level c.index.result.now (level c) c.index.ensures 0

pub take_back-requires-clause-end : goal.take_back-requires-clause-end
take_back-requires-clause-end c =
    let d = (goal.at.take_back-requires-clause-end c).After-index in
    let far : get_or c.self.inside.marks.items c.args.level 0 < length c.self.inside.lits.items = c.self.invariant.held.marks_within c.args.level (level d) in
    let e = end_is d in
    rw (← c.self.view_is) (omega arith)

pub take_back-requires-clause-few : goal.take_back-requires-clause-few
take_back-requires-clause-few c =
    let d = (goal.at.take_back-requires-clause-few c).After-index in
    let least : c.args.level ≤ get_or c.self.inside.marks.items c.args.level 0 = marks_at_least c.self.inside.marks.items c.self.invariant.held.marks_rise c.args.level (level d) in
    let e = end_is d in
    omega arith

pub take_back-requires-clause-below : goal.take_back-requires-clause-below
take_back-requires-clause-below c =
    let d = (goal.at.take_back-requires-clause-below c).After-index in
    rw (← c.self.view_is, end_is d) (λ k h. c.self.invariant.held.marks_rise k c.args.level h (level d))
