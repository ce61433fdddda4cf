use Rattle.solv_deps.proofs.HeldEntered.{held_entered}
use Rattle.solv_deps.proofs.RoundTrip.{printed_again}
use Rattle.solv_deps.proofs.Sound.{read_is_written}
use Rattle.solv_deps.specs.Table.{stands_at}
use Rattle.solv_writing.proofs.ScriptBack.{read_back}
use Rattle.solv_writing.proofs.Sense.{each_read_back}
use Rattle.solv_writing.proofs.laws.each_script_is_read_back.Goals as goal

pub returns : goal.returns
returns c = each_read_back read_back held_entered (λ place t d e. printed_again (stands_at place) t d e) read_is_written
