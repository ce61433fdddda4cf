use Rattle.solv_prov.specs.Inner.Ranking.{AreRanked}
use Rattle.solv_prov.proofs.ranking.rank_names.Given as goal

abbrev pub invariant-loop-id : goal.invariant-loop-id
invariant-loop-id l = record {
  ranked : AreRanked l.pool l.provides l.map;
}
