use Rattle.std.proofs.Common.{◌∙◌, ◌&&◌, not, ap}
use Rattle.std.specs.Prelude.{nat_lt}
use Rattle.solv_pool.specs.Prelude.{is_among}
use Rattle.solv_trail.specs.Asked.{is_enabled}
use Rattle.solv_pool.proofs.Tests.{list_all_ext}
use Rattle.solv_remedy.specs.Inner.Conflicts.{listed_of}
use Rattle.solv_remedy.proofs.conflicts.are_unlisted.Goals as goal

pub returns : goal.returns
returns c =
    c.are_enabled.ensures
    ∙ list_all_ext (is_enabled c.deref.result.now) (λ k. nat_lt k c.args.count && not (is_among (listed_of c.args.conflicts.now) k)) (λ k. ap (λ l. is_enabled l k) c.deref.ensures.value ∙ c.in_ok-enabled.ensures.on k) c.args.rules.now
