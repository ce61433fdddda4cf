use Rattle.std.proofs.Common.{◌≡◌}
use Rattle.solv_base.specs.Pool.{Grows}
use Rattle.solv_io.specs.Lines.{numbered_lines}
use Rattle.solv_tags.specs.Inner.TagReading.{IsReading, HasMore, tagged_of}
use Rattle.solv_tags.specs.Inner.Lines.{lines_read}
use Rattle.solv_tags.proofs.testtags.read_lines.Given as goal

abbrev pub invariant-loop-number : goal.invariant-loop-number
invariant-loop-number l = record {
  callable : (goal.iterator-loop-number).can_next l.number-iterator;
  ends : (goal.iterator-loop-number).is_finite l.number-iterator;
  reading : IsReading l.reader l.pool l.universe;
  repo : l.reader.repo ≡ l.fn.reader.repo;
  before : l.reader.before ≡ l.fn.reader.before;
  more : HasMore l.fn.universe l.universe;
  grows : Grows l.fn.pool l.pool;
  same : lines_read l.last (tagged_of l.reader l.pool l.universe) l.number-iterator ≡ lines_read 0 (tagged_of l.fn.reader l.fn.pool l.fn.universe) (numbered_lines l.bytes);
}
