use Rattle.std.proofs.Common.{◌≡◌, ℕ, Bool, true, List, ◌++◌, Some, None, refl, sym, subst, length}
use Rattle.std.specs.Prelude.{ℤ, IfSome, Option}
use Rattle.solv_derive.specs.Forced.{is_falsified}
use Rattle.solv_trail.specs.Propagated.{in_use}
use Rattle.solv_trail.specs.Inner.Propagated.{IsUsed, IsGrown}
use Rattle.solv_watch.specs.Inner.Watching.{IsPart, always}
use Rattle.solv_watch.proofs.Keeping.{part_book, part_learnt, learnt_used, grown_then, held_satisfied, over_behind}
use Rattle.solv_watch.proofs.propagation.begin.Goals as goal
use Rattle.solv_watch.proofs.propagation.begin.Goals.{After-visit_all_narrow, After-visit_all_learnt}
use Rattle.solv_list.proofs.Lists.{get_front_again}

one : (c : After-visit_all_narrow) → IsGrown (c.args.book.now.rules ++ c.args.learnt.now.rules) (in_use c.args.owners.now c.args.enabled.now) c.args.known.now c.visit_all_narrow.new.known
one c = c.visit_all_narrow.ensures.grown (c.args.book.now.rules ++ c.args.learnt.now.rules) (in_use c.args.owners.now c.args.enabled.now) (part_book c.args.book.now.rules c.args.learnt.now.rules (in_use c.args.owners.now c.args.enabled.now))

part : (c : After-visit_all_learnt) → IsPart (c.args.book.now.rules ++ c.args.learnt.now.rules) (in_use c.args.owners.now c.args.enabled.now) c.len-2.result c.args.learnt.now.rules always
part c =
    let Q : ℕ → Type 0 = λ n. IsPart (c.args.book.now.rules ++ c.args.learnt.now.rules) (in_use c.args.owners.now c.args.enabled.now) n c.args.learnt.now.rules always in
    subst Q (sym c.len-2.ensures.count) (part_learnt c.args.book.now.rules c.args.learnt.now.rules (in_use c.args.owners.now c.args.enabled.now) (λ r. learnt_used c.args.owners.now c.args.enabled.now (length c.args.book.now.rules) r c.requires.each))

two : (c : After-visit_all_learnt) → IsGrown (c.args.book.now.rules ++ c.args.learnt.now.rules) (in_use c.args.owners.now c.args.enabled.now) c.visit_all_narrow.new.known c.visit_all_learnt.new.known
two c = c.visit_all_learnt.ensures.grown (c.args.book.now.rules ++ c.args.learnt.now.rules) (in_use c.args.owners.now c.args.enabled.now) (part c)

pub returns-in-Some-clause-grown : goal.returns-in-Some-clause-grown
returns-in-Some-clause-grown c = one (goal.at.returns-in-Some-clause-grown c).After-visit_all_narrow

pub returns-in-Some-clause-clash : goal.returns-in-Some-clause-clash
returns-in-Some-clause-clash c =
    let m = c.in-Some.ensures.clash in
    (m.0, record { found = get_front_again c.args.book.now.rules c.args.learnt.now.rules c.in-Some.rule m.0 m.1.found; on = m.1.on }, m.2)

pub visit_all_learnt-requires-clause-over : goal.visit_all_learnt-requires-clause-over
visit_all_learnt-requires-clause-over c = rw ((one (goal.at.visit_all_learnt-requires-clause-over c).After-visit_all_narrow).count) (over_behind c.args.known.now.count c.args.book.now.rules c.args.learnt.now.rules c.requires.over)

pub returns-clause-grown : goal.returns-clause-grown
returns-clause-grown c =
    grown_then (c.args.book.now.rules ++ c.args.learnt.now.rules) (in_use c.args.owners.now c.args.enabled.now) c.args.known.now c.visit_all_narrow.new.known c.visit_all_learnt.new.known
    (one (goal.at.returns-clause-grown c).After-visit_all_narrow) (two (goal.at.returns-clause-grown c).After-visit_all_learnt)

pub returns-clause-satisfied : goal.returns-clause-satisfied
returns-clause-satisfied c = λ none r d u few.
    held_satisfied (c.args.book.now.rules ++ c.args.learnt.now.rules) (in_use c.args.owners.now c.args.enabled.now) c.visit_all_narrow.new.known c.visit_all_learnt.new.known (two (goal.at.returns-clause-satisfied c).After-visit_all_learnt) d
    (c.in_default.ensures.satisfied refl r d u few)

if_some : (o : Option ℕ) (P Q : ℕ → Type 0) → ((r : ℕ) → P r → Q r) → IfSome o P → IfSome o Q
if_some (Some r) P Q f h = f r h
if_some None P Q f h = tt

pub returns-clause-clash : goal.returns-clause-clash
returns-clause-clash c =
    let all : List (List ℤ) = c.args.book.now.rules ++ c.args.learnt.now.rules in
    let used : ℕ → Bool = in_use c.args.owners.now c.args.enabled.now in
    let here = part (goal.at.returns-clause-clash c).After-visit_all_learnt in
    if_some c.visit_all_learnt.result
    (λ rule. (every : List (List ℤ)) (on : ℕ → Bool) → IsPart every on c.len-2.result c.args.learnt.now.rules always → (d : List ℤ) × IsUsed every on rule d × (is_falsified c.visit_all_learnt.new.known.lits d ≡ true))
    (λ rule. (d : List ℤ) × IsUsed all used rule d × (is_falsified c.visit_all_learnt.new.known.lits d ≡ true))
    (λ rule h. h all used here) c.visit_all_learnt.ensures.clash
