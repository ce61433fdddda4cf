use Rattle.std.proofs.Common.{◌≡◌, ◌<◌, true, false, length, rules, arith}
use Rattle.solv_clean.specs.Inner.Tables.{is_marked}
use Rattle.solv_clean.proofs.Found.{finds_push}
use Rattle.solv_clean.proofs.finding.mark.Goals as goal

pub returns-in_ok-push : goal.returns-in_ok-push
returns-in_ok-push c =
    let there : c.args.vertex < length c.args.marks.now = omega (arith, c.requires) in
    let may : is_marked c.args.may.now c.args.vertex ≡ true = search rules in
    let fresh : is_marked c.args.marks.now c.args.vertex ≡ false = search rules in
    rw c.in_ok-push.ensures.items (finds_push c.args.may.now c.args.marks.now c.args.found.now.items c.args.vertex there may fresh)
