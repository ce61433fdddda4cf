use Rattle.std.proofs.Common.{ℕ, ap, subst}
use Rattle.solv_watch.specs.Inner.Watching.{AreHeads}
use Rattle.solv_watch.proofs.Forgetting.{heads_of}
use Rattle.solv_core.proofs.refuting.force.Goals as goal

pub returns-clause-heads : goal.returns-clause-heads
returns-clause-heads c =
    let P : ℕ → Type 0 = λ n. AreHeads n c.propagate.new.watches.learnt.heads.items c.propagate.new.watches.learnt.watched.items in
    subst P (ap (λ h. h.count) c.clear.ensures)
    (heads_of c.clear.new.self.count c.new-none.result.rules c.propagate.new.watches.learnt.heads.items c.propagate.new.watches.learnt.links.items c.propagate.new.watches.learnt.watched.items c.propagate.ensures.watched.learnt_chained)
