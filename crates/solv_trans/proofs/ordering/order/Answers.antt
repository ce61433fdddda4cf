use Rattle.std.proofs.Common.{◌≡◌, ◌<◌, ◌+◌, ℕ, Bool, length, subst, arith}
use Rattle.solv_pool.specs.Prelude.{catalog_of, is_among}
use Rattle.solv_trans.specs.Moving.{goes, is_part}
use Rattle.solv_trans.specs.Edges.{edge, pre_edge}
use Rattle.solv_trans.specs.Orders.{IsOrdered}
use Rattle.solv_trans.specs.Inner.Joining.{is_marked}
use Rattle.solv_trans.proofs.Whole.{table_is}
use Rattle.solv_trans.proofs.ordering.order.Goals as goal

pub returns : goal.returns
returns c =
    let count : c.count.result ≡ length c.args.task.now.universe.packages = c.count.ensures in
    let size : length c.in_ok-in_set.in_set.items ≡ length c.args.task.now.universe.packages + 1 = omega (arith, c.in_ok-in_set.ensures.size, count) in
    let each : (p : ℕ) → p < length c.args.task.now.universe.packages + 1 → is_marked c.in_ok-in_set.in_set.items p ≡ is_among c.args.set.now p = λ p lt. c.in_ok-in_set.ensures.each p (omega (arith, lt, count)) in
    let is : is_marked c.in_ok-in_set.in_set.items ≡ is_among c.args.set.now = table_is c.in_ok-in_set.in_set.items c.args.set.now (length c.args.task.now.universe.packages) size each c.requires.within in
    let made = rw c.deref.ensures.value at c.in_ok-made.ensures in
    subst (λ (set : ℕ → Bool). IsOrdered (length c.args.task.now.universe.packages + 1) (is_part (catalog_of c.args.task.now) set) (goes (catalog_of c.args.task.now) set) (edge (catalog_of c.args.task.now) set) (pre_edge (catalog_of c.args.task.now) set) c.in_ok-made.made) is made
