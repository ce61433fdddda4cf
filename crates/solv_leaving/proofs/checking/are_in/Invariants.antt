use Rattle.std.proofs.Common.{◌≡◌, drop}
use Rattle.std.specs.Prelude.{not}
use Rattle.std.specs.List.{list_all}
use Rattle.solv_pool.specs.Prelude.{marked}
use Rattle.solv_leaving.proofs.checking.are_in.Given as goal

abbrev pub invariant-loop-pack : goal.invariant-loop-pack
invariant-loop-pack l = list_all (λ q. not (marked l.left q)) (drop l.pack-index l.packs) ≡ list_all (λ q. not (marked l.left q)) l.packs
