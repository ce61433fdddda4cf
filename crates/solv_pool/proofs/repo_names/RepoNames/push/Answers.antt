use Rattle.std.proofs.Common.{refl}
use Rattle.solv_pool.proofs.repo_names.RepoNames.push.Goals as goal

pub returns-clause-ok : goal.returns-clause-ok
returns-clause-ok c = rw (c.in-Ok.ensures.keys, c.number_of.ensures, c.self.view_is, c.requires) refl
