use Rattle.std.proofs.Common.{◌≡◌, ◌+◌, ◌≤◌, length}
use Rattle.solv_io.specs.Lines.{lines_of}
use Rattle.solv_proof.specs.Reading.{read_on}
use Rattle.solv_proof.specs.Inner.Readers.{state_of}
use Rattle.solv_proof.proofs.reading.read_after.Given as goal

abbrev pub invariant-loop-rest : goal.invariant-loop-rest
invariant-loop-rest l = record {
  left : read_on (state_of l.reader) l.number (lines_of l.rest) l.fed ≡ read_on (state_of l.fn.reader) 1 (lines_of l.text) l.fed;
  within : l.number + length l.rest ≤ 1 + length l.text;
}

abbrev pub decreases-loop-rest : goal.decreases-loop-rest
decreases-loop-rest l = length l.rest
