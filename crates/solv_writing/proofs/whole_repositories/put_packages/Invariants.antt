use Rattle.std.proofs.Common.{◌≡◌, ◌++◌, map, drop}
use Rattle.solv_io.specs.Lines.{ended_lines}
use Rattle.solv_pool.specs.Prelude.{written_package}
use Rattle.solv_writing.specs.ScriptTexts.{inlined}
use Rattle.solv_writing.specs.Inner.ScriptParts.{packages_of}
use Rattle.solv_writing.specs.Inner.TagParts.{tag_lines}
use Rattle.solv_writing.proofs.whole_repositories.put_packages.Given as goal

abbrev pub invariant-loop-number : goal.invariant-loop-number
invariant-loop-number l =
    l.into.items ++ ended_lines (inlined (tag_lines (packages_of l.repo (map (written_package l.pool) (drop l.number l.universe.packages)))))
    ≡ l.fn.into.items ++ ended_lines (inlined (tag_lines (packages_of l.repo (map (written_package l.pool) l.universe.packages))))
