use Rattle.std.proofs.Common.{◌≡◌, ◌++◌, drop}
use Rattle.solv_script.proofs.whole.namespace_lines.append_packages.Given as goal

abbrev pub invariant-loop-pack : goal.invariant-loop-pack
invariant-loop-pack l = record {
  name : l.namespace.0 ≡ l.initial.namespace.0;
  same : l.namespace.1 ++ drop l.pack-index l.packs ≡ l.initial.namespace.1 ++ l.packs;
}
