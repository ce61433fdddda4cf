use Rattle.std.proofs.Common.{◌+◌, ◌*◌}
use Rattle.solv_clean.proofs.holding.+holding.Given as goal

abbrev pub decreases-holds_anew : goal.decreases-holds_anew
decreases-holds_anew l = 2 * l.dep

abbrev pub decreases-holds : goal.decreases-holds
decreases-holds l = 2 * l.dep + 1
