use Rattle.std.proofs.Common.{◌≡◌, ◌∙◌, ◌∷◌, [], true, not, filter, sym, ap}
use Rattle.std.specs.List.{list_all}
use Rattle.solv_pool.specs.Prelude.{Catalog, catalog_of, dependency, members, package_meets, marked}
use Rattle.solv_pool.specs.Parts.{parts}
use Rattle.solv_leaving.proofs.Closed.{served_in, whole_part}
use Rattle.solv_leaving.proofs.checking.is_served_in.Goals as goal

pub returns-then-is_wise : goal.returns-then-is_wise
returns-then-is_wise c ok =
    let catalog : Catalog = catalog_of c.args.leaves.now.task.now in
    let left = c.args.leaves.now.left.now in
    let exact = c.of.ensures.exact catalog c.args.leaves.now.index in
    let all : list_all (λ q. not (marked left q)) (filter (package_meets catalog (dependency catalog c.args.dep)) (members catalog)) ≡ true = sym (ap (list_all (λ q. not (marked left q))) exact) ∙ sym c.are_in.ensures ∙ ok in
    let single : parts (dependency catalog c.args.dep) ≡ dependency catalog c.args.dep ∷ [] = whole_part (dependency catalog c.args.dep) (sym c.is_wise.ensures ∙ c.if-is_wise.true) in
    served_in catalog left c.args.leaves.now.each (dependency catalog c.args.dep) single all

pub returns-in-Itself : goal.returns-in-Itself
returns-in-Itself c ok =
    let catalog : Catalog = catalog_of c.args.leaves.now.task.now in
    let left = c.args.leaves.now.left.now in
    let exact = c.of-in-Itself.ensures.exact catalog c.args.leaves.now.index in
    let all : list_all (λ q. not (marked left q)) (filter (package_meets catalog (dependency catalog c.args.dep)) (members catalog)) ≡ true = sym (ap (list_all (λ q. not (marked left q))) exact) ∙ sym c.are_in-in-Itself.ensures ∙ ok in
    let single : parts (dependency catalog c.args.dep) ≡ dependency catalog c.args.dep ∷ [] = rw c.in-Itself.is at c.parts_of.ensures in
    served_in catalog left c.args.leaves.now.each (dependency catalog c.args.dep) single all
