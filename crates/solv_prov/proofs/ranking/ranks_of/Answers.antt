use Rattle.std.proofs.Common.{rules, length}
use Rattle.solv_prov.proofs.Placing.{same_ranks, same_others, same_unranked}
use Rattle.solv_prov.proofs.ranking.ranks_of.Goals as goal

pub returns-clause-ranked : goal.returns-clause-ranked
returns-clause-ranked c = record {
  sorted = c.sort.ensures;
  each = search rules;
  ranked = same_ranks c.deref-2.result.now c.in_ok-provides.provides.items c.deref-3.result.now c.sort.new.order.items c.in_ok-ranks.ranks.items (search rules) (search rules) c.in_ok-ranks.ensures.ranked;
  others =
      same_others c.deref-4.result.now c.in_ok-provides.provides.items c.len-3.result (length c.sort.new.order.items) c.deref-5.result.now c.in_ok-ranks.ranks.items (search rules) (search rules) (search rules)
      (c.are_complete.ensures (search rules));
  unranked = same_unranked c.len-4.result (length c.sort.new.order.items) c.deref-6.result.now c.in_ok-ranks.ranks.items c.in_ok-unranked.unranked.items (search rules) (search rules) c.in_ok-unranked.ensures;
  exact = λ h. search rules;
}
