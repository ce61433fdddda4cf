use Rattle.std.proofs.Common.{◌∙◌, sym}
use Rattle.solv_pool.specs.Prelude.{catalog_of, dependency}
use Rattle.solv_rules.proofs.MetByItself.{no_clause, one_clause}
use Rattle.solv_rules.proofs.dependencies.meets_itself.Goals as goal

pub returns-then-finds-clause-none : goal.returns-then-finds-clause-none
returns-then-finds-clause-none c = λ wise.
    no_clause (catalog_of c.args.task.now) c.args.pack (dependency (catalog_of c.args.task.now) c.args.dep) (sym c.package_wise.ensures ∙ wise)
    (rw (c.of-packs.ensures.exact (catalog_of c.args.task.now) c.requires.index) at (c.finds.ensures c.if-finds.true))

pub returns-then-finds-clause-one : goal.returns-then-finds-clause-one
returns-then-finds-clause-one c = λ wise. one_clause (catalog_of c.args.task.now) (dependency (catalog_of c.args.task.now) c.args.dep) (sym c.package_wise.ensures ∙ wise)
