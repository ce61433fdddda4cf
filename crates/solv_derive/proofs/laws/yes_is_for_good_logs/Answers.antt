use Rattle.solv_derive.proofs.Steps.{yes_is_for_good_logs}
use Rattle.solv_derive.proofs.laws.yes_is_for_good_logs.Goals as goal

pub returns : goal.returns
returns c = yes_is_for_good_logs
