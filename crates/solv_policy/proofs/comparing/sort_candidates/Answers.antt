use Rattle.std.proofs.Common.{◌≡◌, rules, ap}
use Rattle.std.specs.Ordering.{is_lt}
use Rattle.std.proofs.lemmas.Fn.{always_returns_same}
use Rattle.std.proofs.lemmas.List.Sorted.{ranks_by}
use Rattle.solv_policy.specs.Inner.Differences.{candidate_cmp}
use Rattle.solv_policy.proofs.Differing.{candidate_total}
use Rattle.solv_policy.proofs.comparing.sort_candidates.Goals as goal

pub returns-clause-sorted : goal.returns-clause-sorted
returns-clause-sorted c =
    c.sort_unstable_by.ensures.sorted (λ a b. is_lt (candidate_cmp c.args.pool.now a b)) (ranks_by (candidate_total c.evr_order_is_total.ensures.total c.args.pool.now) (λ k. k))
    (always_returns_same _ (λ a r. is_lt r ≡ is_lt (candidate_cmp c.args.pool.now a.0.now a.1.0.now)) _ (λ a r q k. let is : r ≡ candidate_cmp c.args.pool.now a.0.now a.1.0.now = search rules in (ap is_lt is, search rules)))
