use Rattle.std.proofs.Common.{◌≡◌, ℕ, List, ◌++◌, refl, sym, subst, arith, length, ◌≤◌, ◌-◌}
use Rattle.std.specs.Prelude.{ℤ}
use Rattle.solv_trail.specs.Propagated.{in_use}
use Rattle.solv_trail.specs.Inner.Propagated.{IsGrown, clash}
use Rattle.solv_watch.specs.Inner.Watching.{always, IsKeptUpto, AreChained}
use Rattle.solv_watch.proofs.Keeping.{grown_then, held_choices, held_guards}
use Rattle.solv_watch.proofs.propagation.propagate.Goals as goal
use Rattle.solv_watch.proofs.propagation.propagate.Goals.{After-begin, After-follow}

first : (c : After-begin) → IsGrown (c.args.book.now.rules ++ c.args.learnt.now.rules) (in_use c.args.owners.now c.args.enabled.now) c.args.known.now c.begin.new.known
first c = c.begin.ensures.grown

pub returns-in-Some-clause-grown : goal.returns-in-Some-clause-grown
returns-in-Some-clause-grown c = first (goal.at.returns-in-Some-clause-grown c).After-begin

pub returns-in-Some-clause-done : goal.returns-in-Some-clause-done
returns-in-Some-clause-done c =
    let m = c.in-Some.ensures.clash in
    clash c.in-Some.rule m.0 m.1 m.2

pub returns-in-Some-clause-kept : goal.returns-in-Some-clause-kept
returns-in-Some-clause-kept c =
    let g = first (goal.at.returns-in-Some-clause-kept c).After-begin in
    record {
      book_choices = held_choices (c.args.book.now.rules ++ c.args.learnt.now.rules) (in_use c.args.owners.now c.args.enabled.now) c.args.known.now c.begin.new.known g c.args.book.now.rules (in_use c.args.owners.now c.args.enabled.now) c.args.watches.now.book.watched.items c.requires.kept.book_choices;
      learnt_choices = held_choices (c.args.book.now.rules ++ c.args.learnt.now.rules) (in_use c.args.owners.now c.args.enabled.now) c.args.known.now c.begin.new.known g c.args.learnt.now.rules always c.args.watches.now.learnt.watched.items c.requires.kept.learnt_choices;
    }

pub follow-requires-clause-over : goal.follow-requires-clause-over
follow-requires-clause-over c = rw ((first (goal.at.follow-requires-clause-over c).After-begin).count) (c.requires.over)

pub follow-requires-clause-from : goal.follow-requires-clause-from
follow-requires-clause-from c = let g : length c.args.known.now.lits ≤ length c.begin.new.known.lits = (first (goal.at.follow-requires-clause-from c).After-begin).longer in omega (arith, c.len.ensures.many, c.saturating_sub-from.ensures)

pub follow-requires-clause-book : goal.follow-requires-clause-book
follow-requires-clause-book c = rw ((first (goal.at.follow-requires-clause-book c).After-begin).count) (c.requires.watched.book_chained)

pub follow-requires-clause-learnt : goal.follow-requires-clause-learnt
follow-requires-clause-learnt c = rw ((first (goal.at.follow-requires-clause-learnt c).After-begin).count) (c.requires.watched.learnt_chained)

pub follow-requires-clause-book_choices : goal.follow-requires-clause-book_choices
follow-requires-clause-book_choices c = held_choices (c.args.book.now.rules ++ c.args.learnt.now.rules) (in_use c.args.owners.now c.args.enabled.now) c.args.known.now c.begin.new.known (first (goal.at.follow-requires-clause-book_choices c).After-begin) c.args.book.now.rules (in_use c.args.owners.now c.args.enabled.now) c.args.watches.now.book.watched.items c.requires.kept.book_choices

pub follow-requires-clause-learnt_choices : goal.follow-requires-clause-learnt_choices
follow-requires-clause-learnt_choices c = held_choices (c.args.book.now.rules ++ c.args.learnt.now.rules) (in_use c.args.owners.now c.args.enabled.now) c.args.known.now c.begin.new.known (first (goal.at.follow-requires-clause-learnt_choices c).After-begin) c.args.learnt.now.rules always c.args.watches.now.learnt.watched.items c.requires.kept.learnt_choices

from_is : (c : After-begin) → c.saturating_sub-from.result ≡ length c.args.known.now.lits - 1
from_is c = omega (arith, c.len.ensures.many, c.saturating_sub-from.ensures)

pub follow-requires-clause-book_kept : goal.follow-requires-clause-book_kept
follow-requires-clause-book_kept c =
    let d = (goal.at.follow-requires-clause-book_kept c).After-begin in
    let P : ℕ → Type 0 = λ n. IsKeptUpto c.args.book.now.rules (in_use c.args.owners.now c.args.enabled.now) c.args.watches.now.book.watched.items c.begin.new.known.lits n in
    subst P (sym (from_is d)) (record {
      guards = held_guards (c.args.book.now.rules ++ c.args.learnt.now.rules) (in_use c.args.owners.now c.args.enabled.now) c.args.known.now c.begin.new.known (first d) c.args.book.now.rules (in_use c.args.owners.now c.args.enabled.now) c.args.watches.now.book.watched.items (length c.args.known.now.lits - 1) (omega arith) c.requires.ready.guards;
      narrow = c.in_default.ensures.satisfied refl;
    })

pub follow-requires-clause-learnt_kept : goal.follow-requires-clause-learnt_kept
follow-requires-clause-learnt_kept c =
    let d = (goal.at.follow-requires-clause-learnt_kept c).After-begin in
    let P : ℕ → Type 0 = λ n. IsKeptUpto c.args.learnt.now.rules always c.args.watches.now.learnt.watched.items c.begin.new.known.lits n in
    subst P (sym (from_is d)) (record {
      guards = held_guards (c.args.book.now.rules ++ c.args.learnt.now.rules) (in_use c.args.owners.now c.args.enabled.now) c.args.known.now c.begin.new.known (first d) c.args.learnt.now.rules always c.args.watches.now.learnt.watched.items (length c.args.known.now.lits - 1) (omega arith) c.requires.ready.learnt_guards;
      narrow = c.in_default.ensures.learnt_satisfied refl;
    })

pub returns-clause-grown : goal.returns-clause-grown
returns-clause-grown c = grown_then (c.args.book.now.rules ++ c.args.learnt.now.rules) (in_use c.args.owners.now c.args.enabled.now) c.args.known.now c.begin.new.known c.follow.new.known (first (goal.at.returns-clause-grown c).After-begin) c.follow.ensures.grown

pub returns-clause-watched : goal.returns-clause-watched
returns-clause-watched c =
    let n = (first (goal.at.returns-clause-watched c).After-begin).count in
    let P : ℕ → List (List ℤ) → Type 0 = λ v rs. AreChained v rs c.follow.new.watches.book.heads.items c.follow.new.watches.book.links.items c.follow.new.watches.book.watched.items in
    let Q : ℕ → List (List ℤ) → Type 0 = λ v rs. AreChained v rs c.follow.new.watches.learnt.heads.items c.follow.new.watches.learnt.links.items c.follow.new.watches.learnt.watched.items in
    record {
      book_chained = (subst (λ v. P v c.args.book.now.rules) n c.follow.ensures.book);
      learnt_chained = (subst (λ v. Q v c.args.learnt.now.rules) n c.follow.ensures.learnt);
      narrow = rw (c.follow.ensures.narrow) (c.requires.watched.narrow);
    }
