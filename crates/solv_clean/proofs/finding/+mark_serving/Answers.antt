use Rattle.std.proofs.Common.{◌≡◌, ◌<◌, ◌∷◌, ◌++◌, [], filter, ◌∙◌, sym}
use Rattle.solv_pool.specs.Prelude.{Catalog, catalog_of, dependency, members, package_meets}
use Rattle.solv_pool.specs.Parts.{parts}
use Rattle.solv_clean.specs.Inner.Finding.{Finds, itself, serving}
use Rattle.solv_clean.proofs.Found.{finds_same, finds_more}
use Rattle.solv_clean.proofs.Passed.{passed_on, passed_noted, finds_passed}
use Rattle.solv_clean.proofs.Served.{serving_itself, serving_operand, serving_both}
use Rattle.solv_clean.proofs.finding.+mark_serving.Goals as goal

pub returns-then-was_passed-clause-found : goal.returns-then-was_passed-clause-found
returns-then-was_passed-clause-found t c =
    finds_passed (serving (catalog_of c.args.members.now.task.now)) c.args.members.now.in_set.now c.args.passed.now c.args.marks.now c.args.found.now.items c.args.dep (sym c.was_passed.ensures ∙ c.if-was_passed.true) c.requires.passed

pub returns-in_ok-mark_all-in-Itself : goal.returns-in_ok-mark_all-in-Itself
returns-in_ok-mark_all-in-Itself t c =
    let catalog : Catalog = catalog_of c.args.members.now.task.now in
    let exact = c.of.ensures.exact catalog c.args.members.now.index in
    let single : parts (dependency catalog c.args.dep) ≡ dependency catalog c.args.dep ∷ [] = rw c.in-Itself.is at c.parts_of.ensures in
    let step : Finds c.args.members.now.in_set.now itself (filter (package_meets catalog (dependency catalog c.args.dep)) (members catalog)) c.args.marks.now c.args.found.now.items c.mark_all.new.marks c.mark_all.new.found.items = rw exact at c.in_ok-mark_all-in-Itself.ensures in
    let all : Finds c.args.members.now.in_set.now (serving catalog) (c.args.dep ∷ []) c.args.marks.now c.args.found.now.items c.mark_all.new.marks c.mark_all.new.found.items =
    finds_same c.args.members.now.in_set.now itself (serving catalog) (filter (package_meets catalog (dependency catalog c.args.dep)) (members catalog)) (c.args.dep ∷ []) c.args.marks.now c.args.found.now.items c.mark_all.new.marks c.mark_all.new.found.items
    (serving_itself catalog c.args.members.now.in_set.now c.args.members.now.each c.args.dep single) step in
    record {
      found = all;
      passed = passed_noted (serving catalog) c.args.members.now.in_set.now c.args.passed.now c.note_passed.new.passed c.mark_all.new.marks c.args.dep c.note_passed.ensures.size c.note_passed.ensures.noted all.whole
          (passed_on (serving catalog) c.args.members.now.in_set.now c.args.passed.now c.args.marks.now c.mark_all.new.marks all.keeps c.requires.passed);
    }

pub returns-in_ok-mark_serving-in-Of : goal.returns-in_ok-mark_serving-in-Of
returns-in_ok-mark_serving-in-Of t c =
    let catalog : Catalog = catalog_of c.args.members.now.task.now in
    let same : (c.in-Of.operand < c.args.dep) × (parts (dependency catalog c.args.dep) ≡ parts (dependency catalog c.in-Of.operand)) = rw c.in-Of.is at c.parts_of.ensures in
    let all : Finds c.args.members.now.in_set.now (serving catalog) (c.args.dep ∷ []) c.args.marks.now c.args.found.now.items c.mark_serving.new.marks c.mark_serving.new.found.items =
    finds_same c.args.members.now.in_set.now (serving catalog) (serving catalog) (c.in-Of.operand ∷ []) (c.args.dep ∷ []) c.args.marks.now c.args.found.now.items c.mark_serving.new.marks c.mark_serving.new.found.items
    (λ q h. serving_operand catalog c.args.dep c.in-Of.operand same.1 q) c.in_ok-mark_serving-in-Of.ensures.found in
    record {
      found = all;
      passed = passed_noted (serving catalog) c.args.members.now.in_set.now c.mark_serving.new.passed c.note_passed-in-Of.new.passed c.mark_serving.new.marks c.args.dep c.note_passed-in-Of.ensures.size c.note_passed-in-Of.ensures.noted all.whole c.in_ok-mark_serving-in-Of.ensures.passed;
    }

pub returns-in_ok-mark_serving-in-OfBoth-2 : goal.returns-in_ok-mark_serving-in-OfBoth-2
returns-in_ok-mark_serving-in-OfBoth-2 t c =
    let catalog : Catalog = catalog_of c.args.members.now.task.now in
    let same : (c.in-OfBoth.first < c.args.dep) × ((c.in-OfBoth.second < c.args.dep) × (parts (dependency catalog c.args.dep) ≡ parts (dependency catalog c.in-OfBoth.first) ++ parts (dependency catalog c.in-OfBoth.second))) = rw c.in-OfBoth.is at c.parts_of.ensures in
    let all : Finds c.args.members.now.in_set.now (serving catalog) (c.args.dep ∷ []) c.args.marks.now c.args.found.now.items c.mark_serving-in-OfBoth-2.new.marks c.mark_serving-in-OfBoth-2.new.found.items =
    finds_same c.args.members.now.in_set.now (serving catalog) (serving catalog) (c.in-OfBoth.first ∷ c.in-OfBoth.second ∷ []) (c.args.dep ∷ []) c.args.marks.now c.args.found.now.items c.mark_serving-in-OfBoth-2.new.marks c.mark_serving-in-OfBoth-2.new.found.items
    (λ q h. serving_both catalog c.args.dep c.in-OfBoth.first c.in-OfBoth.second same.1.1 q)
    (finds_more c.args.members.now.in_set.now (serving catalog) (c.in-OfBoth.first ∷ []) (c.in-OfBoth.second ∷ []) c.args.marks.now c.args.found.now.items c.mark_serving-in-OfBoth.new.marks c.mark_serving-in-OfBoth.new.found.items c.mark_serving-in-OfBoth-2.new.marks c.mark_serving-in-OfBoth-2.new.found.items
    c.in_ok-mark_serving-in-OfBoth.ensures.found c.in_ok-mark_serving-in-OfBoth-2.ensures.found) in
    record {
      found = all;
      passed = passed_noted (serving catalog) c.args.members.now.in_set.now c.mark_serving-in-OfBoth-2.new.passed c.note_passed-in-OfBoth.new.passed c.mark_serving-in-OfBoth-2.new.marks c.args.dep c.note_passed-in-OfBoth.ensures.size c.note_passed-in-OfBoth.ensures.noted all.whole c.in_ok-mark_serving-in-OfBoth-2.ensures.passed;
    }
