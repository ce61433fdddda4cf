use Rattle.std.proofs.Common.{◌≡◌}
use Rattle.solv_io.proofs.adapters.RealSinkSink.write.Given as goal

abbrev pub invariant-loop : goal.invariant-loop
invariant-loop g l = l.self.faults ≡ l.initial.self.faults
