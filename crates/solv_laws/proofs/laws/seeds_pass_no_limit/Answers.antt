use Rattle.solv_laws.proofs.SeedTasks.{seeds_fit}
use Rattle.solv_laws.proofs.laws.seeds_pass_no_limit.Goals as goal

pub returns : goal.returns
returns c = seeds_fit c.grown_text_is_read.ensures
