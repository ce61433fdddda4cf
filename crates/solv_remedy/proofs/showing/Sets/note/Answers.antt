use Rattle.std.proofs.Common.{◌∙◌, ap}
use Rattle.std.proofs.Math.Path.{fun_ext}
use Rattle.solv_pool.specs.Prelude.{is_over}
use Rattle.solv_core.specs.GoodTrails.{facts_of}
use Rattle.solv_core.specs.Inner.Meeting.{set_by}
use Rattle.solv_decide.specs.Deciding.{meets_all}
use Rattle.solv_remedy.proofs.Shown.{ok_all}
use Rattle.solv_remedy.proofs.showing.Sets.note.Goals as goal

pub returns : goal.returns
returns c = λ core given good.
    let s = c.args.setting.now in
    ok_all s core c.put.result c.put.new.self (λ r up.
    let g = given r up in
    let over = ap (λ n. is_over n (facts_of c.args.trail.now.events)) c.packages-count.ensures ∙ g.0 in
    let one = ap (meets_all r s.fixed.now) (fun_ext (c.in_ok-table.ensures over)) ∙ g.1 in
    c.put.ensures (λ t. meets_all r s.fixed.now (set_by t.items)) (good r up) one)
