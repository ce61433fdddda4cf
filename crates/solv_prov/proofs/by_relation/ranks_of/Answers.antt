use Rattle.solv_prov.proofs.Placing.{ranked_found}
use Rattle.solv_prov.proofs.by_relation.ranks_of.Goals as goal

pub returns-then-is_long-clause-ranked : goal.returns-then-is_long-clause-ranked
returns-then-is_long-clause-ranked c = ranked_found c.args.pool.now c.args.provides.now c.args.ranked.now c.name.inside.0 c.get.result c.get.ensures.value c.requires
