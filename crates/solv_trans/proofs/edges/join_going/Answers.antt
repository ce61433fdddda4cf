use Rattle.std.proofs.Common.{◌≡◌, ◌<◌, ◌-◌, ◌∙◌, ◌∷◌, [], length, take, get_or, ap, arith}
use Rattle.std.proofs.lemmas.List.{take_all}
use Rattle.solv_pool.specs.Prelude.{catalog_of}
use Rattle.solv_trans.specs.Inner.Joining.{from_going, owned_by}
use Rattle.solv_trans.proofs.Joined.{joins_none, joins_more, joins_same}
use Rattle.solv_trans.proofs.Asking.{package_is}
use Rattle.solv_trans.proofs.Owned.{need_below, going_owned}
use Rattle.solv_trans.proofs.edges.join_going.Goals as goal
use Rattle.solv_list.proofs.Lists.{take_next}

pub join_need_going-requires-clause-held : goal.join_need_going-requires-clause-held
join_need_going-requires-clause-held c =
    let items = c.requires_-need-items.ensures in
    let lt : c.loop-need.need-index < length c.package.result.requires_ = omega (arith, ap length items) in
    let is : c.need-item.result ≡ get_or c.package.result.requires_ c.loop-need.need-index c.need-item.result = rw items at c.need-item.is in
    need_below c.args.task.now c.args.prov.now (c.args.pack - 1) c.package.result c.requires.ready c.package.ensures c.loop-need.need-index c.need-item.result lt is

pub loop-need-init : goal.loop-need-init
loop-need-init c = λ set are. joins_none (from_going (catalog_of c.args.task.now) set c.args.pack) c.args.links.now.items

pub loop-need-preserved : goal.loop-need-preserved
loop-need-preserved c = λ set are.
    let inside : c.loop-need.need-index < length c.requires_-need-items.result.now = omega arith in
    rw (take_next c.requires_-need-items.result.now c.loop-need.need-index c.need-item.result inside c.need-item.is)
    (joins_more (from_going (catalog_of c.args.task.now) set c.args.pack) (take c.loop-need.need-index c.requires_-need-items.result.now) (c.need-item.result ∷ []) c.args.links.now.items c.loop-need.links.items c.join_need_going.new.links.items (c.loop-need.invariant set are)
    (c.in_ok-join_need_going.ensures set are))

pub returns : goal.returns
returns c = λ set are goes.
    let items = c.requires_-need-items.ensures in
    let whole = take_all c.loop-need.need-index c.requires_-need-items.result.now (omega arith) ∙ items in
    let at = package_is (catalog_of c.args.task.now) set c.args.pack c.package.result c.requires.a_package c.package.ensures in
    joins_same (from_going (catalog_of c.args.task.now) set c.args.pack) (owned_by (catalog_of c.args.task.now) set) c.package.result.requires_ (c.args.pack ∷ []) c.args.links.now.items c.loop-need.links.items
    (λ these a b. going_owned (catalog_of c.args.task.now) set c.args.pack c.package.result at these a b goes) (rw whole at (c.loop-need.invariant set are))
