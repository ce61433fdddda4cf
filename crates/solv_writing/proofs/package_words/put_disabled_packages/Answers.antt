use Rattle.std.proofs.Common.{◌<◌, length, arith}
use Rattle.solv_writing.proofs.DisabledPackages.{disabled_turn}
use Rattle.solv_writing.proofs.package_words.put_disabled_packages.Goals as goal

pub loop-number-preserved : goal.loop-number-preserved
loop-number-preserved c =
    let each = c.marks_each.ensures.disabled_each in
    let within : c.loop-number.number < length c.args.universe.now.disabled = omega (arith, each) in
    disabled_turn c.args.pool.now c.args.universe.now c.loop-number.number c.loop-number.into.items c.put_if_disabled.new.into.items _ within c.in_ok-put_if_disabled.ensures c.loop-number.invariant
