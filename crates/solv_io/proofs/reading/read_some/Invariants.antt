use Rattle.std.proofs.Common.{◌≡◌, length}
use Rattle.std.specs.Io.KnownBytes.{Keeps}
use Rattle.solv_io.proofs.reading.read_some.Given as goal

abbrev pub invariant-loop : goal.invariant-loop
invariant-loop g l = record {
  keeps : Keeps (g.R.Read.remaining l.fn.file) (g.R.Read.remaining l.file);
  size : length l.into ≡ length l.fn.into;
}
