use Rattle.std.proofs.Common.{◌∙◌, sym}
use Rattle.std.specs.Prelude.{nat_lt}
use Rattle.solv_deps.proofs.InnerElse.{top_some, top_none, top_in}
use Rattle.solv_deps.proofs.reading.else_here.Goals as goal

pub returns-in-Some-clause-goes : goal.returns-in-Some-clause-goes
returns-in-Some-clause-goes c = λ at. c.else_inside.ensures.goes at ∙ sym (top_some at c.args.outer.now c.in-Some.rule (at c.args.id) c.in-Some.ensures)

pub returns-in-Some-clause-inside : goal.returns-in-Some-clause-inside
returns-in-Some-clause-inside c = λ n h. c.else_inside.ensures.inside n (top_in n c.args.outer.now c.in-Some.rule (nat_lt c.args.id n) c.in-Some.ensures h)

pub returns-in-None-clause-goes : goal.returns-in-None-clause-goes
returns-in-None-clause-goes c = λ at. sym (top_none at c.args.outer.now (at c.args.id) c.in-None.ensures)
