use Rattle.std.proofs.Common.{◌-◌}
use Rattle.solv_pool.specs.Prelude.{catalog_of}
use Rattle.solv_leaving.proofs.Bounds.{needs_held}
use Rattle.solv_over.proofs.Ascending.{index_ascending}
use Rattle.solv_over.proofs.places.unmade_clauses.Goals as goal

pub needed_clauses-requires-clause-held : goal.needed_clauses-requires-clause-held
needed_clauses-requires-clause-held c = needs_held c.args.task.now c.args.prov.now (c.args.pack - 1) c.package.result c.requires_.result.now c.requires.index c.requires.closed c.package.ensures c.requires_.ensures

pub needed_clauses-requires-clause-ascending : goal.needed_clauses-requires-clause-ascending
needed_clauses-requires-clause-ascending c = index_ascending c.args.prov.now (catalog_of c.args.task.now) c.requires.index
