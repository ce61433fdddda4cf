use Rattle.solv_deps.specs.Table.{stands_at}
use Rattle.solv_deps.proofs.RoundTrip.{printed_again}
use Rattle.solv_deps.proofs.laws.printed_is_read_again.Goals as goal

pub returns-clause-here : goal.returns-clause-here
returns-clause-here c = λ place. printed_again (stands_at place)

pub returns-clause-anywhere : goal.returns-clause-anywhere
returns-clause-anywhere c = printed_again
