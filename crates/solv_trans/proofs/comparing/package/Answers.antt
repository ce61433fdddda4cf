use Rattle.std.proofs.Common.{◌-◌, length}
use Rattle.solv_pool.specs.Prelude.{fits}
use Rattle.solv_trans.proofs.Pairs.{name_below, evr_below}
use Rattle.solv_trans.proofs.comparing.package.Goals as goal
use Rattle.solv_list.proofs.Lists.{all_at}

pub returns-clause-named : goal.returns-clause-named
returns-clause-named c =
    name_below (length c.args.task.now.pool.names) (length c.args.task.now.pool.nodes) (length c.args.task.now.universe.repos) c.package.result
    (all_at (fits (length c.args.task.now.pool.names) (length c.args.task.now.pool.nodes) (length c.args.task.now.universe.repos))
    c.args.task.now.universe.packages (c.args.pack - 1) c.package.result c.requires.over.packages c.package.ensures)

pub returns-clause-versioned : goal.returns-clause-versioned
returns-clause-versioned c =
    evr_below (length c.args.task.now.pool.names) (length c.args.task.now.pool.nodes) (length c.args.task.now.universe.repos) c.package.result
    (all_at (fits (length c.args.task.now.pool.names) (length c.args.task.now.pool.nodes) (length c.args.task.now.universe.repos))
    c.args.task.now.universe.packages (c.args.pack - 1) c.package.result c.requires.over.packages c.package.ensures)
