use Rattle.std.proofs.Common.{◌≡◌, map, drop}
use Rattle.solv_pool.specs.Prelude.{catalog_of}
use Rattle.solv_lines.specs.Inner.LineNames.{with_lines, pack_line}
use Rattle.solv_lines.proofs.needing.put_packs.Given as goal

abbrev pub invariant-loop-pack : goal.invariant-loop-pack
invariant-loop-pack l = with_lines l.lines (map (pack_line (catalog_of l.task) l.word) (drop l.pack-index l.packs)) ≡ with_lines l.initial.lines (map (pack_line (catalog_of l.task) l.word) l.packs)
