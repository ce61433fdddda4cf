use Rattle.std.proofs.Common.{[], ◌∙◌, ◌*◌, ap, arith}
use Rattle.solv_watch.proofs.Chained.{none_chained, none_at_all}
use Rattle.solv_watch.proofs.Forgetting.{heads_of}
use Rattle.solv_watch.proofs.chains.Watches.over.Goals as goal

pub chain_all-requires-clause-chained : goal.chain_all-requires-clause-chained
chain_all-requires-clause-chained c =
    rw (c.in_ok-chains.ensures.watched) (none_chained c.args.packages c.args.book.now.rules c.in_ok-chains.chains.heads.items c.in_ok-chains.chains.links.items c.in_ok-chains.ensures.heads c.in_ok-chains.ensures.none (c.in_ok-chains.ensures.links ∙ ap (λ n. 2 * n) c.len.ensures.count) (omega (arith, c.requires.rules)))

pub returns-clause-learnt : goal.returns-clause-learnt
returns-clause-learnt c = rw (c.in_ok-learnt.ensures.watched) (none_at_all c.args.packages c.in_ok-learnt.learnt.heads.items c.in_ok-learnt.learnt.links.items c.in_ok-learnt.ensures.heads c.in_ok-learnt.ensures.none c.in_ok-learnt.ensures.links)

pub returns-clause-heads : goal.returns-clause-heads
returns-clause-heads c =
    heads_of c.args.packages [] c.in_ok-learnt.learnt.heads.items c.in_ok-learnt.learnt.links.items c.in_ok-learnt.learnt.watched.items
    (rw (c.in_ok-learnt.ensures.watched) (none_at_all c.args.packages c.in_ok-learnt.learnt.heads.items c.in_ok-learnt.learnt.links.items c.in_ok-learnt.ensures.heads c.in_ok-learnt.ensures.none c.in_ok-learnt.ensures.links))
