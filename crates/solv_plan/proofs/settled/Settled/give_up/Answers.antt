use Rattle.std.proofs.Common.{◌≡◌, ℕ, List, [], take, sym, ap, ◌∙◌}
use Rattle.solv_plan.specs.Inner.Entries.{is_named, is_settled, each_after, is_right}
use Rattle.solv_plan.specs.declared.settled.Entry.{Entry}
use Rattle.solv_plan.proofs.Resting.{named_front, right_front}
use Rattle.solv_plan.proofs.settled.Settled.give_up.Goals as goal

pub invariant_of-self : goal.invariant_of-self
invariant_of-self c =
    let xs : List Entry = c.self.inside.entries.items in
    let end : ℕ = c.last_end-end.result in
    let items : c.truncate.new.self.items ≡ take end xs = c.truncate.ensures.items in
    let same : (k : ℕ) → is_settled c.truncate.new.self.items k ≡ is_settled xs k
    = λ k. ap (λ l. is_settled l k) (items ∙ ap (take end) (sym c.deref.ensures.value)) ∙ c.last_end-end.ensures.settled k ∙ ap (λ l. is_settled l k) c.deref.ensures.value in
    record {
      rests = λ k h. c.self.invariant.rests k (named_front end xs k (ap (λ l. is_named l k) (sym items) ∙ h));
      done = λ k h. same k ∙ c.self.invariant.done k h;
      every = c.self.invariant.every;
      floor = λ k h. same k ∙ c.self.invariant.floor k h;
    }

pub returns-clause-right : goal.returns-clause-right
returns-clause-right c = λ by right.
    ap (each_after (is_right by) []) c.truncate.ensures.items ∙ right_front c.last_end-end.result c.self.inside.entries.items by (ap (each_after (is_right by) []) c.self.view_is ∙ right)

pub returns-clause-named : goal.returns-clause-named
returns-clause-named c = λ p h.
    ap (λ l. is_named l p) (sym c.self.view_is) ∙ named_front c.last_end-end.result c.self.inside.entries.items p (ap (λ l. is_named l p) (sym c.truncate.ensures.items) ∙ h)
