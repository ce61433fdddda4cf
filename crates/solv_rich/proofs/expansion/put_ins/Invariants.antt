use Rattle.std.proofs.Common.{◌≡◌, ◌++◌, drop, map}
use Rattle.solv_pool.specs.Prelude.{is_in}
use Rattle.solv_rich.specs.Inner.Expansions.{literal_of}
use Rattle.solv_rich.proofs.expansion.put_ins.Given as goal

abbrev pub invariant-loop-pack : goal.invariant-loop-pack
invariant-loop-pack l = map literal_of l.said.items ++ map is_in (drop l.pack-index l.packs) ≡ map literal_of l.fn.said.items ++ map is_in l.packs
