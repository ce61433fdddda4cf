use Rattle.std.proofs.Common.{◌≡◌, ◌∷◌, ◌∙◌, ◌||◌, ◌&&◌, [], ap, sym, true, ℕ}
use Rattle.solv_pool.specs.Prelude.{Catalog, catalog_of}
use Rattle.solv_graph.specs.Graphs.{row}
use Rattle.solv_graph.specs.Inner.Graphs.{edge_to}
use Rattle.solv_list.proofs.Booleans.{or_false}
use Rattle.solv_clean.specs.Inner.Tables.{is_marked}
use Rattle.solv_clean.specs.Inner.Finding.{Finds, itself, serving, serving_package, next_to}
use Rattle.solv_clean.proofs.Found.{finds_both, finds_wider}
use Rattle.solv_clean.proofs.Passed.{passed_on}
use Rattle.solv_clean.proofs.Served.{marked_below}
use Rattle.solv_clean.proofs.finding.mark_needed.Goals as goal

pub returns-clause-found : goal.returns-clause-found
returns-clause-found c =
    let catalog : Catalog = catalog_of c.args.members.now.task.now in
    let here : c.next.result.now ≡ row c.args.supplements.now c.args.vertex = c.next.ensures.row in
    let other : Finds c.args.may.now itself (row c.args.supplements.now c.args.vertex) c.mark_asked.new.marks c.mark_asked.new.found.items c.mark_vertices.new.marks c.mark_vertices.new.found.items = rw here at c.in_ok-mark_vertices.ensures in
    let within : (q : ℕ) → is_marked c.args.members.now.in_set.now q ≡ true → is_marked c.args.may.now q ≡ true = λ q h. c.requires.may.members q (marked_below c.args.members.now.in_set.now q h) ∙ h in
    finds_both c.args.may.now (λ v q. is_marked c.args.members.now.in_set.now q && serving_package catalog v q) itself (next_to catalog c.args.members.now.in_set.now c.args.supplements.now) (c.args.vertex ∷ []) (row c.args.supplements.now c.args.vertex) (c.args.vertex ∷ [])
    c.args.marks.now c.args.found.now.items c.mark_asked.new.marks c.mark_asked.new.found.items c.mark_vertices.new.marks c.mark_vertices.new.found.items
    (λ q. ap (λ t. t || edge_to c.args.supplements.now c.args.vertex q) (or_false (is_marked c.args.members.now.in_set.now q && serving_package catalog c.args.vertex q)) ∙ sym (or_false (next_to catalog c.args.members.now.in_set.now c.args.supplements.now c.args.vertex q)))
    (finds_wider c.args.members.now.in_set.now c.args.may.now (serving_package catalog) (c.args.vertex ∷ []) c.args.marks.now c.args.found.now.items c.mark_asked.new.marks c.mark_asked.new.found.items within c.in_ok-mark_asked.ensures.found) other

pub returns-clause-passed : goal.returns-clause-passed
returns-clause-passed c =
    passed_on (serving (catalog_of c.args.members.now.task.now)) c.args.members.now.in_set.now c.mark_asked.new.passed c.mark_asked.new.marks c.mark_vertices.new.marks c.in_ok-mark_vertices.ensures.keeps c.in_ok-mark_asked.ensures.passed
