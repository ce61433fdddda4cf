use Rattle.std.proofs.Common.{◌≡◌, drop}
use Rattle.solv_io.specs.Inner.Fetches.{file_of}
use Rattle.solv_io.proofs.mem_files.find_file.Given as goal

abbrev pub invariant-loop-held_name : goal.invariant-loop-held_name
invariant-loop-held_name l = file_of (drop l.held_name-index l.held) l.name ≡ file_of l.held l.name
