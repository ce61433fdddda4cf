use Rattle.std.proofs.Common.{◌≡◌, ◌++◌, ◌-◌, take, drop, length}
use Rattle.solv_script.specs.Inner.Namespaces.{with_packages}
use Rattle.solv_draft.proofs.namespaces.put_packages.Given as goal

abbrev pub invariant-loop-place : goal.invariant-loop-place
invariant-loop-place l = record {
  kept : l.namespaces.items ≡ l.initial.namespaces.items;
  same : take l.place l.namespaces.items ++ with_packages l.fn.name l.fn.packs (drop l.place l.namespaces.items) ≡ with_packages l.fn.name l.fn.packs l.namespaces.items;
}

abbrev pub decreases-loop-place : goal.decreases-loop-place
decreases-loop-place l = length l.namespaces.items - l.place
