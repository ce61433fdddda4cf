use Rattle.std.proofs.Common.{◌++◌, ◌∷◌, [], ap, ◌∙◌}
use Rattle.solv_writing.proofs.RepositoryLines.{repository_put}
use Rattle.solv_writing.proofs.whole_repositories.put_repository.Goals as goal

pub returns : goal.returns
returns c = λ r at.
    repository_put c.args.pool.now c.args.universe.now.packages c.args.place c.args.span c.args.universe.now.repos c.repo.result.now r c.args.into.now.items c.put_line.new.into.items c.put_packages.new.into.items c.in_ok-head.head.items
    c.requires.span c.repo.ensures at c.in_ok-head.ensures (c.in_ok-put_line.ensures ∙ ap (λ l. c.args.into.now.items ++ (l ++ 10 ∷ [])) c.deref.ensures.value) c.in_ok-put_packages.ensures
