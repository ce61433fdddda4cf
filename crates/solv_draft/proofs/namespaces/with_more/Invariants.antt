use Rattle.std.proofs.Common.{◌≡◌, ◌++◌, drop}
use Rattle.solv_draft.proofs.namespaces.with_more.Given as goal

abbrev pub invariant-loop-pack : goal.invariant-loop-pack
invariant-loop-pack l = l.all.items ++ drop l.pack-index l.packs ≡ l.first ++ l.packs
