use Rattle.std.proofs.Common.{take}
use Rattle.solv_deps.proofs.Drafts.{said-part, kept_part, within_array}
use Rattle.solv_deps.proofs.draft.Draft.get.Goals as goal

pub returns-clause-below : goal.returns-clause-below
returns-clause-below c =
    let i = c.self.inside in
    (said-part (take i.len i.parts) c.args.number _ c.self.invariant.first
    (kept_part i.parts i.len c.args.number _ c.self.invariant (within_array i.parts i.len c.args.number c.args.self.now c.self.view_is c.self.invariant c.requires))).0

pub returns-clause-part : goal.returns-clause-part
returns-clause-part c =
    let i = c.self.inside in
    rw (← c.self.view_is) (said-part (take i.len i.parts) c.args.number _ c.self.invariant.first
    (kept_part i.parts i.len c.args.number _ c.self.invariant (within_array i.parts i.len c.args.number c.args.self.now c.self.view_is c.self.invariant c.requires))).1
