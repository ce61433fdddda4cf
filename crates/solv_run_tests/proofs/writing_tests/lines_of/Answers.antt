use Rattle.std.proofs.Common.{arith}
use Rattle.solv_pool.specs.Prelude.{IsClosed}
use Rattle.solv_rounds.proofs.Turned.{front_all}
use Rattle.solv_run_tests.proofs.writing_tests.lines_of.Goals as goal

pub write_testtags-requires : goal.write_testtags-requires
write_testtags-requires c = (front_all IsClosed c.in_ok-script.script 0 (omega arith) c.in_ok-script.ensures).universe
