use Rattle.std.proofs.Common.{rules, ◌≡◌, ◌++◌, ◌∷◌, []}
use Rattle.solv_pool.specs.Inner.Stored.{head_of, with_lists}
use Rattle.solv_pool.proofs.Stored.{package_more}
use Rattle.solv_pool.proofs.package_list.PackageList.push.Goals as goal

pub returns-clause-ok : goal.returns-clause-ok
returns-clause-ok c =
    let heads : c.push_head.new.heads.items ≡ c.self.inside.heads.items ++ head_of c.args.added.now ∷ [] = c.in_ok-push_head.ensures.ok in
    let lists : c.push_lists.new.lists ≡ with_lists c.self.inside.lists c.args.added.now = search rules in
    rw (heads, lists, ← c.self.view_is) (package_more c.self.inside.lists c.self.inside.heads.items c.args.added.now c.self.invariant).packages
