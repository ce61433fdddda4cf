use Rattle.solv_deps.proofs.Recents.{read_before}
use Rattle.solv_deps.proofs.recent.read_again.Goals as goal

pub returns-in-Ok-clause-kept : goal.returns-in-Ok-clause-kept
returns-in-Ok-clause-kept c =
    c.keep.ensures c.read_dep-read.new.pool (read_before c.args.pool.now c.read_dep-read.new.pool c.args.recent.now c.read_dep-read.ensures.grows c.requires) c.in-Ok.ensures.read c.in-Ok.ensures.within

pub returns-in_default-read-clause-kept : goal.returns-in_default-read-clause-kept
returns-in_default-read-clause-kept c = read_before c.args.pool.now c.read_dep-read.new.pool c.args.recent.now c.read_dep-read.ensures.grows c.requires

pub returns-then-eq-clause-kept : goal.returns-then-eq-clause-kept
returns-then-eq-clause-kept c = read_before c.args.pool.now c.read_dep.new.pool c.args.recent.now c.read_dep.ensures.grows c.requires
