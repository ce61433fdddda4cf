use Rattle.std.proofs.Common.{nat_lt, ap, ◌∙◌}
use Rattle.std.specs.List.{list_all}
use Rattle.solv_core_tests.proofs.core_tests.run_with_one.Goals as goal

pub run-requires-clause-enabled : goal.run-requires-clause-enabled
run-requires-clause-enabled g c =
    ap (λ n. list_all (λ o. nat_lt o n) c.in_ok-core.core.made.owners) (c.deref-2.ensures.len ∙ c.in_ok-enabled.ensures.len ∙ c.len.ensures.count)
    ∙ c.in_ok-core.ensures.owners
