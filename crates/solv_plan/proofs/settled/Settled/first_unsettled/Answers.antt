use Rattle.std.proofs.Common.{inl, inr, arith, ap, ◌∙◌}
use Rattle.std.proofs.lemmas.Bool.{cases_lt}
use Rattle.solv_plan.specs.Inner.Entries.{is_settled}
use Rattle.solv_plan.proofs.settled.Settled.first_unsettled.Goals as goal

pub invariant_of-self : goal.invariant_of-self
invariant_of-self c = record {
  rests = c.self.invariant.rests;
  done = c.self.invariant.done;
  every = c.self.invariant.every;
  floor = λ k h. elim (cases_lt k c.self.inside.floor) [
    | inl low ↦ c.self.invariant.floor k low
    | inr high ↦ ap (λ l. is_settled l k) c.self.view_is ∙ c.first_open-place.ensures.settled k (omega (arith, high)) h
  ];
}

pub returns-clause-settled : goal.returns-clause-settled
returns-clause-settled c = λ i low h. elim (cases_lt i c.self.inside.floor) [
  | inl low ↦ c.self.invariant.floor i low
  | inr high ↦ ap (λ l. is_settled l i) c.self.view_is ∙ c.first_open-place.ensures.settled i (omega (arith, high)) h
]
