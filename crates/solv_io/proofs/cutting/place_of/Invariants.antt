use Rattle.std.proofs.Common.{◌≡◌, ◌+◌, drop}
use Rattle.std.specs.Prelude.{not, ◌==◌}
use Rattle.std.specs.List.{prefix_len}
use Rattle.solv_io.proofs.cutting.place_of.Given as goal

abbrev pub invariant-loop-i : goal.invariant-loop-i
invariant-loop-i l = prefix_len (λ byte. not (byte == l.separator)) l.text ≡ l.i + prefix_len (λ byte. not (byte == l.separator)) (drop l.i l.text)
