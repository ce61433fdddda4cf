use Rattle.std.proofs.Common.{◌∙◌, ap, length}
use Rattle.solv_pool.specs.Prelude.{catalog_of}
use Rattle.solv_rich.proofs.Lengths.{length-clauses_by}
use Rattle.solv_rich.proofs.operators.parts_of.Goals as goal

pub returns-clause-counts : goal.returns-clause-counts
returns-clause-counts c x = ap length (c.parts_by_form.ensures.clauses x) ∙ length-clauses_by (catalog_of c.args.task.now) x c.args.positive c.args.dep c.parts_by_form.result
