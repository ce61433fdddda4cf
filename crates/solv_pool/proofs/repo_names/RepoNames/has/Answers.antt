use Rattle.std.proofs.Common.{rules}
use Rattle.solv_pool.proofs.NamesOfRepos.{any_name}
use Rattle.solv_pool.proofs.repo_names.RepoNames.has.Goals as goal

pub returns-clause-taken : goal.returns-clause-taken
returns-clause-taken c = λ repos same. rw (← any_name c.args.name repos, ← same) (search rules)
