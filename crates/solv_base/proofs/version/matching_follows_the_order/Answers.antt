use Rattle.solv_base.proofs.MatchingTable.{meets-swap, meets-exact, meets-shared}
use Rattle.solv_base.proofs.Overlaps.{meets-overlaps}
use Rattle.solv_base.proofs.version.matching_follows_the_order.Goals as goal

pub returns : goal.returns
returns c = record {
  both_ways = meets-swap;
  exact = meets-exact;
  overlap = λ f e g w one some_f some_g. (meets-overlaps f e g w one some_f some_g, λ o. meets-shared f e g w o.0 one o.1 o.2);
}
