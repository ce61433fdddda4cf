use Rattle.solv_run.proofs.ReadBack.{text_again}
use Rattle.solv_run.proofs.laws.printed_scripts_are_read.Goals as goal

pub returns : goal.returns
returns c = λ named files script was short. text_again c.each_script_is_read_back.ensures named files script was short
