use Rattle.solv_watch.proofs.Chained.{passed}
use Rattle.solv_watch.proofs.chains.Chains.pass.Goals as goal

pub returns-clause-chained : goal.returns-clause-chained
returns-clause-chained c = λ count rule rules clause chained found short.
    rw (c.add_pair.ensures.items) (passed count rule rules c.args.self.now.heads.items c.args.self.now.links.items c.args.self.now.watched.items chained clause found c.new.result c.new-2.result short)
