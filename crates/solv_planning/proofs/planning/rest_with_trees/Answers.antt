use Rattle.std.proofs.Common.{◌∙◌, ap, not, refl}
use Rattle.std.specs.Prelude.{flat_map}
use Rattle.solv_pool.specs.Prelude.{catalog_of}
use Rattle.solv_questions.specs.Questions.{request_of}
use Rattle.solv_plan.specs.Inner.Wanting.{is_rising}
use Rattle.solv_planning.specs.Inner.Rows.{wants_of}
use Rattle.solv_planning.proofs.Ranking.{some_trees}
use Rattle.solv_planning.proofs.Requirements.{required_are}
use Rattle.solv_planning.proofs.Order.{required_rise, recommended_rise}
use Rattle.solv_planning.proofs.planning.rest_with_trees.Goals as goal

pub reads-requires : goal.reads-requires
reads-requires c = record { by_tree = c.has_trees-by_tree.ensures ∙ some_trees (catalog_of c.args.ready.now.task.now) c.args.trees.now c.requires.trees }

pub relations_and_names-requires-clause-read : goal.relations_and_names-requires-clause-read
relations_and_names-requires-clause-read c =
    let catalog = catalog_of c.args.ready.now.task.now in
    let marks = c.args.ready.now.marks.now in
    let r = request_of c.args.ready.now.task.now marks in
    c.in_ok-asked.ensures marks
    (c.held.ensures ∙ c.in_ok-list.ensures catalog c.requires.trees ∙ ap (flat_map (wants_of catalog)) c.requires.rules ∙ required_are r)
    (c.held-2.ensures ∙ c.in_ok-listed.ensures marks)

pub new-requires : goal.new-requires
new-requires c =
    let r = request_of c.args.ready.now.task.now c.args.ready.now.marks.now in
    ap is_rising (c.in_ok-list.ensures (catalog_of c.args.ready.now.task.now) c.requires.trees ∙ ap (flat_map (wants_of (catalog_of c.args.ready.now.task.now))) c.requires.rules ∙ required_are r) ∙ required_rise r

pub new-requires-2 : goal.new-requires-2
new-requires-2 c =
    let r = request_of c.args.ready.now.task.now c.args.ready.now.marks.now in
    ap is_rising (c.in_ok-listed.ensures c.args.ready.now.marks.now) ∙ recommended_rise r (not c.args.ready.now.task.now.flags.ignore_recommended)

pub returns : goal.returns
returns c =
    let r = request_of c.args.ready.now.task.now c.args.ready.now.marks.now in
    let required = c.in_ok-required.ensures ∙ c.in_ok-list.ensures (catalog_of c.args.ready.now.task.now) c.requires.trees ∙ ap (flat_map (wants_of (catalog_of c.args.ready.now.task.now))) c.requires.rules ∙ required_are r in
    rw (c.in_ok-read.ensures.relations, required, c.in_ok-recommended.ensures ∙ c.in_ok-listed.ensures c.args.ready.now.marks.now, c.in_ok-read.ensures.names) refl
