use Rattle.std.proofs.Common.{◌+◌, ◌∙◌, ap, refl}
use Rattle.solv_pool.specs.declared.hard_rules.Rules.{Rules}
use Rattle.solv_over.specs.Inner.Sums.{sum_at, sums_from}
use Rattle.solv_over.proofs.Tables.{are_places}
use Rattle.solv_over.proofs.places.Places.of.Goals as goal

pub returns-clause-told : goal.returns-clause-told
returns-clause-told c = λ tells.
    are_places c.args.task.now c.args.left.now c.args.book.now c.requires.out c.requires.book c.requires.rules _ (c.held.ensures ∙ ap (λ (r : Rules). r.list) c.rules.ensures) c.owners.ensures c.count-count.ensures
    (c.in_ok-rules_before.ensures ∙ ap (sums_from 0) (c.deref.ensures.value ∙ c.in_ok-rules_each.ensures))
    (c.in_ok-clauses_before.ensures tells)
    (c.sum_at.ensures ∙ ap (λ table. sum_at table (c.count-count.result + 1)) c.deref-2.ensures.value)

pub returns-clause-rules : goal.returns-clause-rules
returns-clause-rules c =
    are_places c.args.task.now c.args.left.now c.args.book.now c.requires.out c.requires.book c.requires.rules _ (c.held.ensures ∙ ap (λ (r : Rules). r.list) c.rules.ensures) c.owners.ensures c.count-count.ensures
    (c.in_ok-rules_before.ensures ∙ ap (sums_from 0) (c.deref.ensures.value ∙ c.in_ok-rules_each.ensures))
    refl
    (c.sum_at.ensures ∙ ap (λ table. sum_at table (c.count-count.result + 1)) c.deref-2.ensures.value)
