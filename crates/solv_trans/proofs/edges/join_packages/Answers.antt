use Rattle.std.proofs.Common.{◌≡◌, ◌+◌, ◌++◌, ◌∷◌, [], ◌∙◌, ap, length, arith, add-one}
use Rattle.std.specs.List.{range_with_len}
use Rattle.solv_pool.specs.Prelude.{catalog_of}
use Rattle.solv_trans.specs.Inner.Joining.{is_marked, owned_by}
use Rattle.solv_trans.proofs.Joined.{joins_none, joins_more}
use Rattle.solv_trans.proofs.edges.join_packages.Goals as goal
use Rattle.solv_list.proofs.Lists.{range_more}

pub loop-before-init : goal.loop-before-init
loop-before-init c = joins_none (owned_by (catalog_of c.args.task.now) (is_marked c.args.in_set.now)) c.args.links.now.items

pub loop-before-preserved : goal.loop-before-preserved
loop-before-preserved c =
    let next : 1 + c.loop-before.before ≡ c.loop-before.before + 1 = omega arith in
    let range : range_with_len 1 (c.loop-before.before + 1) ≡ range_with_len 1 c.loop-before.before ++ (c.loop-before.before + 1) ∷ [] =
    ap (range_with_len 1) (add-one c.loop-before.before) ∙ range_more 1 c.loop-before.before ∙ ap (λ k. range_with_len 1 c.loop-before.before ++ k ∷ []) next in
    rw range
    (joins_more (owned_by (catalog_of c.args.task.now) (is_marked c.args.in_set.now)) (range_with_len 1 c.loop-before.before) ((c.loop-before.before + 1) ∷ []) c.args.links.now.items c.loop-before.links.items c.join_package.new.links.items c.loop-before.invariant c.in_ok-join_package.ensures)

pub returns : goal.returns
returns c =
    let whole : c.loop-before.before ≡ length c.args.task.now.universe.packages = omega (arith, c.count-before-end.ensures) in
    rw whole at c.loop-before.invariant
