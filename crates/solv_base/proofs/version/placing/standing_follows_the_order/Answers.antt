use Rattle.solv_base.proofs.StandingOrder.{standing_rises, meets_stands}
use Rattle.solv_base.proofs.version.placing.standing_follows_the_order.Goals as goal

pub returns : goal.returns
returns c = record { rises = standing_rises; matching = meets_stands }
