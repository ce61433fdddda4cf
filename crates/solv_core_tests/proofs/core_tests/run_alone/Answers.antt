use Rattle.std.proofs.Common.{◌≡◌, nat_lt, ap, sym, ◌∙◌, arith, length}
use Rattle.std.specs.List.{list_all}
use Rattle.solv_core_tests.proofs.core_tests.run_alone.Goals as goal

pub run-requires-clause-owners : goal.run-requires-clause-owners
run-requires-clause-owners g c =
    let same : length c.args.memory.now.rules ≡ length c.args.enabled.now = omega (arith, c.len.ensures.count) in
    sym (ap (λ n. list_all (λ o. nat_lt o n) c.in_ok-core.core.made.owners) same) ∙ c.in_ok-core.ensures.owners
