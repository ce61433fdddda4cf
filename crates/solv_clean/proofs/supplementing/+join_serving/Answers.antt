use Rattle.std.proofs.Common.{◌≡◌, ◌<◌, ◌∷◌, ◌++◌, [], ◌∙◌, ap, sym, ℕ}
use Rattle.std.specs.List.{list_any}
use Rattle.solv_pool.specs.Prelude.{Catalog, catalog_of, dependency, package_meets}
use Rattle.solv_pool.specs.Parts.{parts}
use Rattle.solv_clean.specs.Inner.Finding.{serving}
use Rattle.solv_clean.specs.Inner.Joining.{LeadFromServing}
use Rattle.solv_clean.proofs.Joined.{joined_noted, joined_itself, served_itself, joined_over, served_over, joined_both, served_both}
use Rattle.solv_clean.proofs.supplementing.+join_serving.Goals as goal

pub returns-in_ok-join_itself-in-Itself-clause-served : goal.returns-in_ok-join_itself-in-Itself-clause-served
returns-in_ok-join_itself-in-Itself-clause-served t c =
    let catalog : Catalog = catalog_of c.args.members.now.task.now in
    let alone : parts (dependency catalog c.args.dep) ≡ dependency catalog c.args.dep ∷ [] = rw c.in-Itself.is at c.parts_of.ensures in
    served_itself catalog c.args.members.now.in_set.now c.args.members.now.each c.args.dep c.requires.held alone c.args.graph.now c.join_itself.new.graph c.in_ok-join_itself-in-Itself.ensures

pub returns-in_ok-join_itself-in-Itself-clause-joined : goal.returns-in_ok-join_itself-in-Itself-clause-joined
returns-in_ok-join_itself-in-Itself-clause-joined t c =
    let catalog : Catalog = catalog_of c.args.members.now.task.now in
    let alone : parts (dependency catalog c.args.dep) ≡ dependency catalog c.args.dep ∷ [] = rw c.in-Itself.is at c.parts_of.ensures in
    joined_noted catalog c.args.members.now.in_set.now c.args.passed.now c.note_passed.new.passed c.join_itself.new.graph c.args.dep c.note_passed.ensures.size c.note_passed.ensures.noted
    (served_itself catalog c.args.members.now.in_set.now c.args.members.now.each c.args.dep c.requires.held alone c.args.graph.now c.join_itself.new.graph c.in_ok-join_itself-in-Itself.ensures)
    (joined_itself catalog c.args.members.now.in_set.now c.args.members.now.each c.args.dep c.requires.held alone c.args.graph.now c.join_itself.new.graph c.in_ok-join_itself-in-Itself.ensures c.args.passed.now c.requires.joined)

pub returns-in_ok-join_over-in-Of-clause-joined : goal.returns-in_ok-join_over-in-Of-clause-joined
returns-in_ok-join_over-in-Of-clause-joined t c =
    let catalog : Catalog = catalog_of c.args.members.now.task.now in
    let same : (c.in-Of.operand < c.args.dep) × (parts (dependency catalog c.args.dep) ≡ parts (dependency catalog c.in-Of.operand)) = rw c.in-Of.is at c.parts_of.ensures in
    let alike : (p : ℕ) → serving catalog c.args.dep p ≡ serving catalog c.in-Of.operand p = λ p. ap (λ ps. list_any (λ part. package_meets catalog part p) ps) same.1 in
    let all : LeadFromServing catalog c.args.members.now.in_set.now c.join_over.new.graph c.args.dep = λ p k s.
    served_over catalog c.args.members.now.in_set.now c.in-Of.operand c.args.dep c.requires.held (λ q r. alike q ∙ r) c.join_serving.new.graph c.join_over.new.graph c.in_ok-join_over-in-Of.ensures.size c.in_ok-join_over-in-Of.ensures.joined c.in_ok-join_serving-in-Of.ensures.served p k (sym (alike p) ∙ s) in
    joined_noted catalog c.args.members.now.in_set.now c.join_serving.new.passed c.note_passed-in-Of.new.passed c.join_over.new.graph c.args.dep c.note_passed-in-Of.ensures.size c.note_passed-in-Of.ensures.noted all
    (joined_over catalog c.args.members.now.in_set.now c.in-Of.operand c.args.dep c.requires.held (λ q r. alike q ∙ r) c.join_serving.new.graph c.join_over.new.graph c.in_ok-join_over-in-Of.ensures.size c.in_ok-join_over-in-Of.ensures.joined c.join_serving.new.passed c.in_ok-join_serving-in-Of.ensures.joined)

pub returns-in_ok-join_over-in-Of-clause-served : goal.returns-in_ok-join_over-in-Of-clause-served
returns-in_ok-join_over-in-Of-clause-served t c =
    let catalog : Catalog = catalog_of c.args.members.now.task.now in
    let same : (c.in-Of.operand < c.args.dep) × (parts (dependency catalog c.args.dep) ≡ parts (dependency catalog c.in-Of.operand)) = rw c.in-Of.is at c.parts_of.ensures in
    let alike : (p : ℕ) → serving catalog c.args.dep p ≡ serving catalog c.in-Of.operand p = λ p. ap (λ ps. list_any (λ part. package_meets catalog part p) ps) same.1 in
    let all : LeadFromServing catalog c.args.members.now.in_set.now c.join_over.new.graph c.args.dep = λ p k s.
    served_over catalog c.args.members.now.in_set.now c.in-Of.operand c.args.dep c.requires.held (λ q r. alike q ∙ r) c.join_serving.new.graph c.join_over.new.graph c.in_ok-join_over-in-Of.ensures.size c.in_ok-join_over-in-Of.ensures.joined c.in_ok-join_serving-in-Of.ensures.served p k (sym (alike p) ∙ s) in
    all

pub returns-in_ok-join_over-in-OfBoth-2-clause-joined : goal.returns-in_ok-join_over-in-OfBoth-2-clause-joined
returns-in_ok-join_over-in-OfBoth-2-clause-joined t c =
    let catalog : Catalog = catalog_of c.args.members.now.task.now in
    let same : (c.in-OfBoth.first < c.args.dep) × ((c.in-OfBoth.second < c.args.dep) × (parts (dependency catalog c.args.dep) ≡ parts (dependency catalog c.in-OfBoth.first) ++ parts (dependency catalog c.in-OfBoth.second))) = rw c.in-OfBoth.is at c.parts_of.ensures in
    let all : LeadFromServing catalog c.args.members.now.in_set.now c.join_over-in-OfBoth-2.new.graph c.args.dep =
    served_both catalog c.args.members.now.in_set.now c.in-OfBoth.first c.in-OfBoth.second c.args.dep c.requires.held same.1.1 c.join_serving-in-OfBoth.new.graph c.join_serving-in-OfBoth-2.new.graph c.join_over-in-OfBoth.new.graph c.join_over-in-OfBoth-2.new.graph
    c.in_ok-join_serving-in-OfBoth-2.ensures.grows c.in_ok-join_over-in-OfBoth.ensures.size c.in_ok-join_over-in-OfBoth.ensures.joined c.in_ok-join_over-in-OfBoth-2.ensures.size c.in_ok-join_over-in-OfBoth-2.ensures.joined
    c.in_ok-join_serving-in-OfBoth.ensures.served c.in_ok-join_serving-in-OfBoth-2.ensures.served in
    joined_noted catalog c.args.members.now.in_set.now c.join_serving-in-OfBoth-2.new.passed c.note_passed-in-OfBoth.new.passed c.join_over-in-OfBoth-2.new.graph c.args.dep c.note_passed-in-OfBoth.ensures.size c.note_passed-in-OfBoth.ensures.noted all
    (joined_both catalog c.args.members.now.in_set.now c.in-OfBoth.first c.in-OfBoth.second c.args.dep c.requires.held same.1.1 c.join_serving-in-OfBoth.new.graph c.join_serving-in-OfBoth-2.new.graph c.join_over-in-OfBoth.new.graph c.join_over-in-OfBoth-2.new.graph
    c.in_ok-join_serving-in-OfBoth-2.ensures.grows c.in_ok-join_over-in-OfBoth.ensures.size c.in_ok-join_over-in-OfBoth.ensures.joined c.in_ok-join_over-in-OfBoth-2.ensures.size c.in_ok-join_over-in-OfBoth-2.ensures.joined
    c.join_serving-in-OfBoth-2.new.passed c.in_ok-join_serving-in-OfBoth-2.ensures.joined)

pub returns-in_ok-join_over-in-OfBoth-2-clause-served : goal.returns-in_ok-join_over-in-OfBoth-2-clause-served
returns-in_ok-join_over-in-OfBoth-2-clause-served t c =
    let catalog : Catalog = catalog_of c.args.members.now.task.now in
    let same : (c.in-OfBoth.first < c.args.dep) × ((c.in-OfBoth.second < c.args.dep) × (parts (dependency catalog c.args.dep) ≡ parts (dependency catalog c.in-OfBoth.first) ++ parts (dependency catalog c.in-OfBoth.second))) = rw c.in-OfBoth.is at c.parts_of.ensures in
    let all : LeadFromServing catalog c.args.members.now.in_set.now c.join_over-in-OfBoth-2.new.graph c.args.dep =
    served_both catalog c.args.members.now.in_set.now c.in-OfBoth.first c.in-OfBoth.second c.args.dep c.requires.held same.1.1 c.join_serving-in-OfBoth.new.graph c.join_serving-in-OfBoth-2.new.graph c.join_over-in-OfBoth.new.graph c.join_over-in-OfBoth-2.new.graph
    c.in_ok-join_serving-in-OfBoth-2.ensures.grows c.in_ok-join_over-in-OfBoth.ensures.size c.in_ok-join_over-in-OfBoth.ensures.joined c.in_ok-join_over-in-OfBoth-2.ensures.size c.in_ok-join_over-in-OfBoth-2.ensures.joined
    c.in_ok-join_serving-in-OfBoth.ensures.served c.in_ok-join_serving-in-OfBoth-2.ensures.served in
    all
