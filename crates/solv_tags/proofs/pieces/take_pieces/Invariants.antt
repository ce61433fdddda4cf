use Rattle.std.proofs.Common.{◌≡◌, ◌-◌, ◌+◌, ◌≤◌, length}
use Rattle.solv_base.specs.Pool.{Grows}
use Rattle.solv_tags.specs.Inner.Pieces.{HasTaken, Leaves}
use Rattle.solv_tags.specs.Inner.TagReading.{IsReading, HasMore, tagged_of}
use Rattle.solv_tags.proofs.pieces.take_pieces.Given as goal

abbrev pub invariant-loop-lines : goal.invariant-loop-lines
invariant-loop-lines g l = record {
  within : l.at.size ≤ l.most;
  contents : g.F.Files.contents l.files ≡ g.F.Files.contents l.fn.files;
  asked : g.F.Files.asked l.files ≡ g.F.Files.asked l.fn.files;
  faults : g.F.Files.faults l.files ≡ g.F.Files.faults l.fn.files;
  count : l.at.lines + length l.at.text.items ≤ l.at.size;
  reading : IsReading l.reader l.pool l.universe;
  repo : l.reader.repo ≡ l.fn.reader.repo;
  before : l.reader.before ≡ l.fn.reader.before;
  more : HasMore l.fn.universe l.universe;
  grows : Grows l.fn.pool l.pool;
  taken : HasTaken (g.F.Files.left l.fn.file) (g.F.Files.left l.file) l.fn.at.size l.at.size l.fn.at.text.items
      (Leaves (tagged_of l.fn.reader l.fn.pool l.fn.universe) l.at.lines (tagged_of l.reader l.pool l.universe) l.at.text.items);
}

abbrev pub decreases-loop-lines : goal.decreases-loop-lines
decreases-loop-lines g l = l.most - l.at.size
