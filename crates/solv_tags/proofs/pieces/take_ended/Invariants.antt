use Rattle.std.proofs.Common.{ℕ, ◌≡◌, ◌+◌, ◌≤◌, ◌++◌, List, length}
use Rattle.std.specs.List.{enumerate_from}
use Rattle.solv_base.specs.Pool.{Grows}
use Rattle.solv_io.specs.Lines.{lines_of}
use Rattle.solv_tags.specs.Inner.TagReading.{IsReading, HasMore, tagged_of}
use Rattle.solv_tags.specs.Inner.Lines.{lines_read}
use Rattle.solv_tags.proofs.pieces.take_ended.Given as goal

abbrev pub invariant-loop-line : goal.invariant-loop-line
invariant-loop-line l = record {
  reading : IsReading l.reader l.pool l.universe;
  repo : l.reader.repo ≡ l.fn.reader.repo;
  before : l.reader.before ≡ l.fn.reader.before;
  more : HasMore l.fn.universe l.universe;
  grows : Grows l.fn.pool l.pool;
  count : l.number + length l.rest ≤ l.fn.lines + length l.fn.text;
  same : (more : List ℕ) → lines_read l.fn.lines (tagged_of l.fn.reader l.fn.pool l.fn.universe) (enumerate_from (l.fn.lines + 1) (lines_of (l.fn.text ++ more)))
      ≡ lines_read l.number (tagged_of l.reader l.pool l.universe) (enumerate_from (l.number + 1) (lines_of (l.rest ++ more)));
}

abbrev pub decreases-loop-line : goal.decreases-loop-line
decreases-loop-line l = length l.rest
