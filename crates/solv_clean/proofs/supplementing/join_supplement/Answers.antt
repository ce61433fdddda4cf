use Rattle.std.proofs.Common.{◌≡◌, ℕ, ◌+◌, ◌∙◌, ◌||◌, ◌&&◌, true, length, eqb, sym}
use Rattle.solv_pool.specs.Prelude.{Catalog, catalog_of, dependency, holds}
use Rattle.solv_graph.specs.Inner.Graphs.{edge_to}
use Rattle.solv_clean.specs.Inner.Tables.{is_marked}
use Rattle.solv_clean.proofs.Joined.{joined_supplement, leads_supplement}
use Rattle.solv_clean.proofs.supplementing.join_supplement.Goals as goal

pub returns-clause-joined : goal.returns-clause-joined
returns-clause-joined c =
    let catalog : Catalog = catalog_of c.args.members.now.task.now in
    let held : holds catalog (dependency catalog c.args.dep) (is_marked c.args.members.now.in_set.now) ≡ true = sym c.holds.ensures.holds ∙ c.if-not-holds.false in
    let joined : (a b : ℕ) → edge_to c.join.new.self a b ≡ (edge_to c.join_serving.new.graph a b || (eqb (length c.args.members.now.in_set.now + c.args.dep) a && eqb c.args.pack b)) = rw (c.vertex_of-from.ensures, c.pack.view_is) at c.in_ok-join.ensures.joined in
    joined_supplement catalog c.args.members.now.in_set.now c.args.pack c.args.dep c.requires.to c.requires.of held c.join_serving.new.graph c.join.new.self c.join.ensures.size joined c.join_serving.new.passed c.in_ok-join_serving.ensures.joined

pub returns-clause-by : goal.returns-clause-by
returns-clause-by c =
    let catalog : Catalog = catalog_of c.args.members.now.task.now in
    let held : holds catalog (dependency catalog c.args.dep) (is_marked c.args.members.now.in_set.now) ≡ true = sym c.holds.ensures.holds ∙ c.if-not-holds.false in
    let joined : (a b : ℕ) → edge_to c.join.new.self a b ≡ (edge_to c.join_serving.new.graph a b || (eqb (length c.args.members.now.in_set.now + c.args.dep) a && eqb c.args.pack b)) = rw (c.vertex_of-from.ensures, c.pack.view_is) at c.in_ok-join.ensures.joined in
    leads_supplement catalog c.args.members.now.in_set.now c.args.pack c.args.dep c.requires.to c.requires.of held c.join_serving.new.graph c.join.new.self c.join.ensures.size joined c.in_ok-join_serving.ensures.served
