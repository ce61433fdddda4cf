use Rattle.std.proofs.Common.{◌≡◌, true, length, drop}
use Rattle.std.specs.Prelude.{find, nat_lt}
use Rattle.std.specs.List.{list_all}
use Rattle.solv_trans.specs.Inner.Joining.{is_marked}
use Rattle.solv_trans.proofs.leaving.first_chosen.Given as goal

abbrev pub invariant-loop-pack : goal.invariant-loop-pack
invariant-loop-pack l = record {
  left : find (is_marked l.chosen) (drop l.pack-index l.list) ≡ find (is_marked l.chosen) l.list;
  within : list_all (λ p. nat_lt p (length l.chosen)) (drop l.pack-index l.list) ≡ true;
}
