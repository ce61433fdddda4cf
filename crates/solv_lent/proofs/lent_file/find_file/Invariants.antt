use Rattle.std.proofs.Common.{◌≡◌, drop}
use Rattle.solv_lent.specs.Lent.{lent_bytes}
use Rattle.solv_lent.proofs.lent_file.find_file.Given as goal

abbrev pub invariant-loop-file : goal.invariant-loop-file
invariant-loop-file l = lent_bytes (drop l.file-index l.held) l.name ≡ lent_bytes l.held l.name
