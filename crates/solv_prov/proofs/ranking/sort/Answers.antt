use Rattle.std.proofs.Common.{◌≡◌, rules, ap}
use Rattle.std.specs.Ordering.{is_lt}
use Rattle.std.proofs.lemmas.Fn.{always_returns_same}
use Rattle.std.proofs.lemmas.List.Sorted.{ranks_by}
use Rattle.solv_base.specs.Evr.{evr_cmp}
use Rattle.solv_pool.specs.Prelude.{text_at}
use Rattle.solv_prov.specs.declared.ranking.Placed.{Placed}
use Rattle.solv_prov.specs.Inner.Ranking.{stands_before}
use Rattle.solv_prov.proofs.ranking.sort.Goals as goal

pub returns : goal.returns
returns c =
    c.sort_unstable_by.ensures.sorted (stands_before c.args.pool.now) (ranks_by c.evr_order_is_total.ensures.total (λ (x : Placed). text_at c.args.pool.now x.evr))
    (always_returns_same _ (λ a r. is_lt r ≡ stands_before c.args.pool.now a.0.now a.1.0.now) _ (λ a r q k. let is : r ≡ evr_cmp (text_at c.args.pool.now a.0.now.evr) (text_at c.args.pool.now a.1.0.now.evr) = search rules in (ap is_lt is, search rules)))
