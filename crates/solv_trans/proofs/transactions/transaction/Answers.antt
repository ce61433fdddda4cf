use Rattle.std.proofs.Common.{◌≡◌, ◌<◌, ◌+◌, ◌∙◌, ◌&&◌, ◌++◌, not, map, ℕ, length, ap, arith}
use Rattle.std.specs.Prelude.{filter}
use Rattle.solv_pool.specs.Prelude.{catalog_of, packages, is_among}
use Rattle.solv_trans.specs.declared.kinds.Change.TheVariants.{Install}
use Rattle.solv_trans.specs.Changes.{lines_of_leaving}
use Rattle.solv_trans.specs.Moving.{comes}
use Rattle.solv_trans.specs.Effects.{is_brought, after}
use Rattle.solv_trans.specs.Inner.Joining.{is_marked}
use Rattle.solv_trans.proofs.Same.{made_is}
use Rattle.solv_trans.proofs.Restored.{after_is}
use Rattle.solv_trans.proofs.Rising.{members_are}
use Rattle.solv_pool.proofs.Among.{holds_system}
use Rattle.solv_trans.proofs.transactions.transaction.Goals as goal

pub returns-clause-exact : goal.returns-clause-exact
returns-clause-exact c =
    let catalog = catalog_of c.args.task.now in
    let lines = c.in_ok-lines.lines.items in
    let chosen : (p : ℕ) → 0 < p → p < length c.args.task.now.universe.packages + 1 → is_marked c.in_ok-chosen.chosen.items p ≡ is_among c.args.set.now p =
    λ p some within. c.in_ok-chosen.ensures.each p (omega (arith, within, c.count-count.ensures)) in
    let brought : (p : ℕ) → 0 < p → p < length c.args.task.now.universe.packages + 1 → is_marked c.deref-4.result.now p ≡ is_brought lines p =
    λ p some within. ap (λ t. is_marked t p) c.deref-4.ensures.value ∙ c.in_ok-brought.ensures.each p (omega (arith, within, c.count-count.ensures)) ∙ ap (λ t. is_brought t p) c.deref-2.ensures.value in
    c.in_ok-add_installs.ensures
    ∙ ap (λ t. lines ++ map Install (filter (λ q. comes catalog (is_marked t) q && not (is_marked c.deref-4.result.now q)) (packages catalog))) c.deref-3.ensures.value
    ∙ made_is catalog (is_marked c.in_ok-chosen.chosen.items) (is_among c.args.set.now) chosen lines (is_marked c.deref-4.result.now)
    (c.in_ok-lines.ensures ∙ ap (λ t. lines_of_leaving catalog (is_marked t)) c.deref.ensures.value) brought

pub returns-clause-after : goal.returns-clause-after
returns-clause-after c = λ are.
    let catalog = catalog_of c.args.task.now in
    ap (after catalog) (returns-clause-exact c) ∙ after_is catalog (is_among c.args.set.now) (holds_system c.args.set.now are.begins) ∙ members_are catalog c.args.set.now are
