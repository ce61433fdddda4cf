use Rattle.std.proofs.Common.{◌≡◌, ◌&&◌, Bool, drop}
use Rattle.std.specs.Prelude.{ℤ}
use Rattle.std.specs.List.{list_all}
use Rattle.solv_pool.specs.Prelude.{marked, names_package}
use Rattle.solv_over.specs.Inner.Widened.{says_neither}
use Rattle.solv_over.proofs.moving.is_clause_inside.Given as goal

abbrev pub invariant-loop-lit : goal.invariant-loop-lit
invariant-loop-lit l =
    let test : ℤ → Bool = λ m. names_package l.count m && says_neither (marked l.left) m in
    list_all test (drop l.lit-index l.clause) ≡ list_all test l.clause
