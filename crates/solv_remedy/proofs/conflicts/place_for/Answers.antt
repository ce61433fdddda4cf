use Rattle.std.proofs.Common.{◌≡◌, ◌+◌, ◌-◌, ◌∙◌, sym, ap, arith, get_or}
use Rattle.std.specs.Prelude.{◌/◌}
use Rattle.solv_remedy.specs.Inner.Conflicts.{first_of}
use Rattle.solv_remedy.proofs.Beside.{place_within}
use Rattle.solv_remedy.proofs.ByHalves.{higher_at, lower_at}
use Rattle.solv_remedy.proofs.conflicts.place_for.Goals as goal

pub loop-low-init : goal.loop-low-init
loop-low-init c = record {
  from = omega arith;
  to = place_within c.args.first c.args.conflicts.now;
  within = omega arith;
}

pub loop-low-preserved-then-first-first_of : goal.loop-low-preserved-then-first-first_of
loop-low-preserved-then-first-first_of c =
    let inv = c.loop-low.invariant in
    let some = c.loop-low-test.true in
    let from = inv.from in
    let within = inv.within in
    let middle = c.loop-low.low + (c.loop-low.high - c.loop-low.low) / 2 in
    let one = c.index-conflicts-middle.result in
    let its : first_of (get_or c.args.conflicts.now middle one).rules ≡ c.first_of.result = ap first_of (sym c.held.ensures) ∙ sym c.first_of.ensures in
    let lower = c.if-first-first_of.true in
    record {
      from = from;
      to = higher_at c.args.first c.args.conflicts.now middle one (omega (arith, some, within)) (omega (arith, its, lower));
      within = omega (arith, some, within);
    }

pub loop-low-preserved : goal.loop-low-preserved
loop-low-preserved c =
    let inv = c.loop-low.invariant in
    let some = c.loop-low-test.true in
    let within = inv.within in
    let middle = c.loop-low.low + (c.loop-low.high - c.loop-low.low) / 2 in
    let one = c.index-conflicts-middle.result in
    let its : first_of (get_or c.args.conflicts.now middle one).rules ≡ c.first_of.result = ap first_of (sym c.held.ensures) ∙ sym c.first_of.ensures in
    let least = c.if-first-first_of.false in
    let before = lower_at 0 c.args.first c.args.conflicts.now middle one c.requires (omega (arith, some, within)) (omega (arith, its, least)) in
    record {
      from = omega (arith, before);
      to = inv.to;
      within = within;
    }
