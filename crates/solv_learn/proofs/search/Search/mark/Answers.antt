use Rattle.std.proofs.Common.{◌≡◌, ◌∙◌, ◌++◌, ◌∷◌, [], sym, subst, arith}
use Rattle.std.specs.Prelude.{ℤ, List}
use Rattle.solv_learn.specs.Inner.Collecting.{IsCollected, HavePlaces}
use Rattle.solv_learn.specs.Inner.Marks.{has, has_place}
use Rattle.solv_learn.proofs.Collected.{IsAdded, places_more, collected_late, collected_between, collected_early}
use Rattle.solv_learn.proofs.search.Search.mark.Goals as goal
use Rattle.solv_learn.proofs.search.Search.mark.Goals.{After-insert}

added : (c : After-insert) → IsAdded c.args.known.now.lits c.negated-fact.result (has c.args.self.now.marked) (has c.insert.new.self) c.place-place.result
added c = record {
  apart = record { apart = c.keep_apart.ensures.apart };
  was = sym c.has.ensures ∙ c.if-has.false;
  is = c.insert.ensures.has;
  there = sym c.is_fact.ensures ∙ c.if-not-is_fact.false;
  before = c.place-place.ensures.before;
  within = c.place-place.ensures.within;
}

pub returns-then-place-choices-clause-collected : goal.returns-then-place-choices-clause-collected
returns-then-place-choices-clause-collected c = λ h.
    let d = (goal.at.returns-then-place-choices-clause-collected c).After-insert in
    collected_late c.args.known.now.lits c.negated-fact.result (has c.args.self.now.marked) (has c.insert.new.self) c.place-place.result (added d)
    c.args.choices.first c.args.choices.last c.args.self.now.clause.items c.args.self.now.lowest c.requires.order h c.min-self.result c.min-self.ensures (omega arith)

pub returns-in_ok-push-clause-collected : goal.returns-in_ok-push-clause-collected
returns-in_ok-push-clause-collected c = λ h.
    let d = (goal.at.returns-in_ok-push-clause-collected c).After-insert in
    let e : c.push.new.self.items ≡ c.args.self.now.clause.items ++ c.args.lit ∷ [] = c.in_ok-push.ensures.items in
    let P : List ℤ → Type 0 = λ v. IsCollected c.args.known.now.lits c.args.choices.first c.args.choices.last (has c.insert.new.self) v c.args.self.now.lowest in
    subst P (sym e)
    (collected_between c.args.known.now.lits c.negated-fact.result (has c.args.self.now.marked) (has c.insert.new.self) c.place-place.result (added d)
    c.args.choices.first c.args.choices.last c.args.self.now.clause.items c.args.self.now.lowest c.requires.order h c.args.lit (sym c.negated-fact.ensures.number) (omega arith) (omega arith))

pub returns-else-place-choices-2-clause-collected : goal.returns-else-place-choices-2-clause-collected
returns-else-place-choices-2-clause-collected c = λ h.
    let d = (goal.at.returns-else-place-choices-2-clause-collected c).After-insert in
    collected_early c.args.known.now.lits c.negated-fact.result (has c.args.self.now.marked) (has c.insert.new.self) c.place-place.result (added d)
    c.args.choices.first c.args.choices.last c.args.self.now.clause.items c.args.self.now.lowest c.requires.order h (omega arith)

more : (c : After-insert) → HavePlaces c.args.known.now.lits (has c.args.self.now.marked) (has_place c.args.self.now.marked) → HavePlaces c.args.known.now.lits (has c.insert.new.self) (has_place c.insert.new.self)
more c = places_more c.args.known.now.lits c.negated-fact.result (has c.args.self.now.marked) (has c.insert.new.self) c.place-place.result (added c) (has_place c.args.self.now.marked) (has_place c.insert.new.self) c.insert.ensures.place

pub returns-then-place-choices-clause-places : goal.returns-then-place-choices-clause-places
returns-then-place-choices-clause-places c = more (goal.at.returns-then-place-choices-clause-places c).After-insert

pub returns-in_ok-push-clause-places : goal.returns-in_ok-push-clause-places
returns-in_ok-push-clause-places c = more (goal.at.returns-in_ok-push-clause-places c).After-insert

pub returns-else-place-choices-2-clause-places : goal.returns-else-place-choices-2-clause-places
returns-else-place-choices-2-clause-places c = more (goal.at.returns-else-place-choices-2-clause-places c).After-insert
