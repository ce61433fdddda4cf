use Rattle.std.proofs.Common.{◌≡◌, true, take}
use Rattle.std.specs.Prelude.{neg_ℤ}
use Rattle.std.specs.List.{list_all}
use Rattle.solv_derive.specs.Inner.Marks.{is_marked}
use Rattle.solv_derive.proofs.marks.all_false.Given as goal

abbrev pub invariant-loop-lit : goal.invariant-loop-lit
invariant-loop-lit l = list_all (λ m. is_marked l.marks l.now (neg_ℤ m)) (take l.lit-index l.clause) ≡ true
