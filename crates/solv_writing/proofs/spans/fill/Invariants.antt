use Rattle.std.proofs.Common.{◌≡◌, length}
use Rattle.solv_writing.specs.Inner.Spans.{AreSpans}
use Rattle.solv_writing.proofs.spans.fill.Given as goal

abbrev pub invariant-loop-place : goal.invariant-loop-place
invariant-loop-place l = record { each : length l.spans ≡ length l.fn.spans; spans : AreSpans l.universe.packages l.place l.spans }
