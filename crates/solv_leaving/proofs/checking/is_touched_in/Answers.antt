use Rattle.std.proofs.Common.{◌≡◌, ℕ, ◌∙◌, ◌∷◌, ◌++◌, [], true, not, filter, sym, ap, inl, inr}
use Rattle.std.specs.List.{list_all}
use Rattle.solv_pool.specs.Prelude.{Dep, Catalog, catalog_of, dependency, members, package_meets, marked, tree, tree_of_node}
use Rattle.std.proofs.lemmas.Bool.{false≢true}
use Rattle.solv_clean.specs.Inner.Tables.{is_marked}
use Rattle.solv_leaving.specs.Inner.Leaving.{pieces}
use Rattle.solv_leaving.proofs.Closed.{touched_in, touched_two, touched_three, whole_piece, split_or}
use Rattle.solv_leaving.proofs.checking.is_touched_in.Goals.{then-has_mark, else-has_mark}
use Rattle.solv_leaving.proofs.checking.is_touched_in.Goals as goal

pub returns-then-is_wise : goal.returns-then-is_wise
returns-then-is_wise c ok =
    let catalog : Catalog = catalog_of c.args.leaves.now.task.now in
    let left = c.args.leaves.now.left.now in
    let exact = c.of.ensures.exact catalog c.args.leaves.now.index in
    let all : list_all (λ q. not (marked left q)) (filter (package_meets catalog (dependency catalog c.args.dep)) (members catalog)) ≡ true = sym (ap (list_all (λ q. not (marked left q))) exact) ∙ sym c.are_in.ensures ∙ ok in
    touched_in catalog left c.args.leaves.now.each (dependency catalog c.args.dep) (whole_piece (dependency catalog c.args.dep) (sym c.is_wise.ensures ∙ c.if-is_wise.true)) all

pub returns-in-With : goal.returns-in-With
returns-in-With c ok =
    let catalog : Catalog = catalog_of c.args.leaves.now.task.now in
    let left = c.args.leaves.now.left.now in
    let at : ℕ → Dep ℕ = tree c.args.leaves.now.task.now.pool.nodes in
    let exact = c.of-in-With.ensures.exact catalog c.args.leaves.now.index in
    let all : list_all (λ q. not (marked left q)) (filter (package_meets catalog (dependency catalog c.args.dep)) (members catalog)) ≡ true = sym (ap (list_all (λ q. not (marked left q))) exact) ∙ sym c.are_in-in-With.ensures ∙ ok in
    let single : pieces (dependency catalog c.args.dep) ≡ dependency catalog c.args.dep ∷ [] = elim c.in-With.is [
      | inl e ↦ let is = c.dep.ensures.tree ∙ ap (tree_of_node at) e.2 in ap pieces is ∙ ap (λ t. t ∷ []) (sym is)
      | inr e ↦ let is = c.dep.ensures.tree ∙ ap (tree_of_node at) e.2 in ap pieces is ∙ ap (λ t. t ∷ []) (sym is)
    ] in
    touched_in catalog left c.args.leaves.now.each (dependency catalog c.args.dep) single all

pub returns-then-has_mark-2 : goal.returns-then-has_mark-2
returns-then-has_mark-2 c ok =
    let catalog : Catalog = catalog_of c.args.leaves.now.task.now in
    let left = c.args.leaves.now.left.now in
    let table = c.args.table.now in
    let at : ℕ → Dep ℕ = tree c.args.leaves.now.task.now.pool.nodes in
    let d = dependency catalog c.args.dep in
    let split : pieces d ≡ pieces (at c.in-IfElse.a) ++ (pieces (at c.in-IfElse.b) ++ pieces (at c.in-IfElse.c)) = elim c.in-IfElse.is [
      | inl e ↦ ap pieces (c.dep.ensures.tree ∙ ap (tree_of_node at) e)
      | inr e ↦ ap pieces (c.dep.ensures.tree ∙ ap (tree_of_node at) e)
    ] in
    let two : (is_marked table c.in-IfElse.a ≡ true) × (is_marked table c.in-IfElse.b ≡ true) = elim c.if-has_mark.branch [
      | then-has_mark w ↦ (sym c.has_mark.ensures ∙ w.if-has_mark.true, sym w.has_mark-then-has_mark.ensures ∙ sym w.value-is ∙ c.if-has_mark-2.true)
      | else-has_mark w ↦ absurd (false≢true (sym (w.value-is ∙ w.if-has_mark.false) ∙ c.if-has_mark-2.true))
    ] in
    touched_three catalog left d (at c.in-IfElse.a) (at c.in-IfElse.b) (at c.in-IfElse.c) split
    (λ q. c.requires.table c.in-IfElse.a q two.0) (λ q. c.requires.table c.in-IfElse.b q two.1) (λ q. c.requires.table c.in-IfElse.c q (sym c.has_mark-then-has_mark-2.ensures ∙ ok))

pub returns-then-has_mark-3 : goal.returns-then-has_mark-3
returns-then-has_mark-3 c ok =
    let catalog : Catalog = catalog_of c.args.leaves.now.task.now in
    let left = c.args.leaves.now.left.now in
    let table = c.args.table.now in
    let at : ℕ → Dep ℕ = tree c.args.leaves.now.task.now.pool.nodes in
    let d = dependency catalog c.args.dep in
    let a = at c.in-And.a in
    let b = at c.in-And.b in
    let split : pieces d ≡ pieces a ++ pieces b = elim c.in-And.is [
      | inl e ↦ ap pieces (c.dep.ensures.tree ∙ ap (tree_of_node at) e)
      | inr r ↦ elim r [
        | inl e ↦ split_or a b d (c.dep.ensures.tree ∙ ap (tree_of_node at) e) (sym c.is_wise.ensures ∙ c.if-is_wise.false)
        | inr s ↦ elim s [
          | inl e ↦ ap pieces (c.dep.ensures.tree ∙ ap (tree_of_node at) e)
          | inr e ↦ ap pieces (c.dep.ensures.tree ∙ ap (tree_of_node at) e)
        ]
      ]
    ] in
    touched_two catalog left d a b split (λ q. c.requires.table c.in-And.a q (sym c.has_mark-in-And.ensures ∙ c.if-has_mark-3.true)) (λ q. c.requires.table c.in-And.b q (sym c.has_mark-then-has_mark-3.ensures ∙ ok))
