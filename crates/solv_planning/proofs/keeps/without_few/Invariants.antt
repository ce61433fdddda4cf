use Rattle.std.proofs.Common.{◌≡◌, ◌++◌, not, drop}
use Rattle.std.specs.Prelude.{filter}
use Rattle.solv_pool.specs.Prelude.{is_among}
use Rattle.solv_planning.proofs.keeps.without_few.Given as goal

abbrev pub invariant-loop-pack : goal.invariant-loop-pack
invariant-loop-pack l = l.made.items ++ filter (λ q. not (is_among l.others q)) (drop l.pack-index l.packs) ≡ filter (λ q. not (is_among l.others q)) l.packs
