-- Testtags files, line by line: what the lines so far give, the cause of a line that is bad then, and what a whole file gives.
use Rattle.std.specs.Prelude.{ℕ, List, Result}
use Rattle.solv_io.specs.Lines.{numbered_lines}
use Rattle.solv_base.specs.Pool.{Held}
use Rattle.solv_tags.specs.declared.tag_fault.TagFault.{TagFault}
use Rattle.solv_tags.specs.Testtags.{Repository, testtags}

-- a repository's file
abbrev pub testtags_file : Held → ℕ → ℕ → List ℕ → Result Repository TagFault
testtags_file held before repo bytes = testtags held before repo (numbered_lines bytes)
