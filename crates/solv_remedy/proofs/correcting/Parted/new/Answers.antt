use Rattle.std.proofs.Common.{◌∙◌, ap, length, rules}
use Rattle.solv_trail.specs.Asked.{is_enabled}
use Rattle.solv_remedy.proofs.Growing.{begun}
use Rattle.solv_remedy.proofs.correcting.Parted.new.Goals as goal

pub returns-clause-parted : goal.returns-clause-parted
returns-clause-parted c = λ r core up needed.
    let s = c.args.setting.now in
    let way = c.args.way.now in
    begun r s.phases.now core s.book.now s.fixed.now up way.conflict.now.rules way.off c.args.rules.now _ c.requires needed c.in_ok-all.ensures.items c.in_ok-held.ensures.size (search rules) c.in_ok-open.ensures.size c.in_ok-open.ensures.on (search rules)
