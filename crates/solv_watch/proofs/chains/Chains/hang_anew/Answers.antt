use Rattle.std.proofs.Common.{◌≡◌, ℕ, List, [], sym, ap, ◌∙◌, subst, arith, length}
use Rattle.std.specs.Prelude.{ℤ}
use Rattle.solv_watch.specs.Inner.Watching.{AreChained, AreChainedTo, AreHeads}
use Rattle.solv_watch.proofs.Chained.{none_chained}
use Rattle.solv_watch.proofs.Forgetting.{heads_of, leads_nowhere, none_watched}
use Rattle.solv_watch.proofs.chains.Chains.hang_anew.Goals as goal
use Rattle.solv_watch.proofs.chains.Chains.hang_anew.Goals.{After-forget}

forgotten : (c : After-forget) → AreChained c.args.packages [] c.forget.new.self.heads.items c.forget.new.self.links.items c.forget.new.self.watched.items
forgotten c = c.forget.ensures.chained c.args.packages c.requires.heads

pub returns-in_err-reserve-clause-heads : goal.returns-in_err-reserve-clause-heads
returns-in_err-reserve-clause-heads c =
    let P : List ℤ → Type 0 = λ w. AreHeads c.args.packages c.forget.new.self.heads.items w in
    subst P (sym c.reserve.ensures.items) (heads_of c.args.packages [] c.forget.new.self.heads.items c.forget.new.self.links.items c.forget.new.self.watched.items (forgotten (goal.at.returns-in_err-reserve-clause-heads c).After-forget))

pub returns-in_err-resize-clause-heads : goal.returns-in_err-resize-clause-heads
returns-in_err-resize-clause-heads c =
    let P : List ℤ → Type 0 = λ w. AreHeads c.args.packages c.forget.new.self.heads.items w in
    subst P (sym c.in_ok-reserve.ensures.items) (heads_of c.args.packages [] c.forget.new.self.heads.items c.forget.new.self.links.items c.forget.new.self.watched.items (forgotten (goal.at.returns-in_err-resize-clause-heads c).After-forget))

pub hang_all-requires-clause-chained : goal.hang_all-requires-clause-chained
hang_all-requires-clause-chained c =
    let h = forgotten (goal.at.hang_all-requires-clause-chained c).After-forget in
    let none : c.reserve.new.self.items ≡ [] = c.in_ok-reserve.ensures.items ∙ none_watched c.args.packages c.forget.new.self.heads.items c.forget.new.self.links.items c.forget.new.self.watched.items h in
    let P : List ℤ → Type 0 = λ w. AreChainedTo c.args.packages 0 c.args.rules.now.rules c.forget.new.self.heads.items c.resize.new.self.items w in
    subst P (sym none) (none_chained c.args.packages c.args.rules.now.rules c.forget.new.self.heads.items c.resize.new.self.items h.room
    (leads_nowhere c.args.packages c.forget.new.self.heads.items c.forget.new.self.links.items c.forget.new.self.watched.items h) (omega (arith, c.in_ok-resize.ensures.len, c.resize.new.self.len, c.len-2.ensures.count)) c.requires.few)

pub returns-clause-heads : goal.returns-clause-heads
returns-clause-heads c = heads_of c.args.packages c.args.rules.now.rules c.hang_all.new.chains.heads.items c.hang_all.new.chains.links.items c.hang_all.new.chains.watched.items c.hang_all.ensures.chained
