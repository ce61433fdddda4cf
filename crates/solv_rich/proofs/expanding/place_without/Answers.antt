use Rattle.solv_rich.proofs.Around.{without_none}
use Rattle.solv_rich.proofs.expanding.place_without.Goals as goal

pub returns-in-None-clause-without : goal.returns-in-None-clause-without
returns-in-None-clause-without c = rw c.in-None.is (without_none c.args.packs.now)
