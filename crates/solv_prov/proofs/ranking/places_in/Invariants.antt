use Rattle.std.proofs.Common.{◌≡◌, length}
use Rattle.solv_prov.specs.Inner.Ranking.{AreRanksIn}
use Rattle.solv_prov.proofs.ranking.places_in.Given as goal

abbrev pub invariant-loop-at : goal.invariant-loop-at
invariant-loop-at l = record {
  each : length l.ranks.items ≡ length l.provides;
  ranked : AreRanksIn l.provides l.order l.ranks.items;
}
