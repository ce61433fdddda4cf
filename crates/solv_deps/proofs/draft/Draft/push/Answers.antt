use Rattle.solv_deps.proofs.Drafts.{IsDraft-push, room, below_len, length-pushed, entered}
use Rattle.solv_deps.proofs.draft.Draft.push.Goals as goal

pub bounds-self-inside-number : goal.bounds-self-inside-number
bounds-self-inside-number c = room c.self.inside.parts c.self.inside.len c.args.part.now c.args.self.now c.self.view_is c.self.invariant c.requires.room

pub invariant_of-self : goal.invariant_of-self
invariant_of-self c =
    IsDraft-push c.self.inside.parts c.self.inside.len c.args.part.now c.self.invariant
    (room c.self.inside.parts c.self.inside.len c.args.part.now c.args.self.now c.self.view_is c.self.invariant c.requires.room)
    (below_len c.self.inside.parts c.self.inside.len c.args.part.now c.args.self.now c.self.view_is c.self.invariant c.requires.room c.requires.below)

pub returns-clause-longer : goal.returns-clause-longer
returns-clause-longer c = length-pushed c.self.inside.parts c.self.inside.len c.args.part.now c.args.self.now c.self.view_is c.self.invariant c.requires.room

pub returns-clause-entered : goal.returns-clause-entered
returns-clause-entered c = entered c.self.inside.parts c.self.inside.len c.args.part.now c.args.self.now c.self.view_is c.self.invariant c.requires.room
