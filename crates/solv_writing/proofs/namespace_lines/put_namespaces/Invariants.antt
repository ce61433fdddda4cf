use Rattle.std.proofs.Common.{◌≡◌, ◌++◌, map, drop, length, true}
use Rattle.std.specs.List.{list_all}
use Rattle.solv_io.specs.Lines.{ended_lines}
use Rattle.solv_pool.specs.Prelude.{line_fits}
use Rattle.solv_writing.specs.Inner.ByIds.{namespace_text}
use Rattle.solv_writing.proofs.namespace_lines.put_namespaces.Given as goal

abbrev pub invariant-loop-line : goal.invariant-loop-line
invariant-loop-line l = record {
  into : l.into.items ++ ended_lines (map (namespace_text l.pool l.universe) (drop l.line-index l.namespaces)) ≡ l.fn.into.items ++ ended_lines (map (namespace_text l.pool l.universe) l.namespaces);
  there : list_all (line_fits (length l.pool.names) (length l.universe.packages)) (drop l.line-index l.namespaces) ≡ true;
}
