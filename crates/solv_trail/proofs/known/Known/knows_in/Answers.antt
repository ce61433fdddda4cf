use Rattle.std.proofs.Common.{◌≡◌, ◌<◌, ◌≤◌, arith, sym, ap, length}
use Rattle.std.specs.Prelude.{pos}
use Rattle.std.proofs.lemmas.Bool.{ltb-false}
use Rattle.solv_trail.proofs.Holding.{beyond}
use Rattle.solv_trail.proofs.known.Known.knows_in.Goals as goal

pub returns-in-None : goal.returns-in-None
returns-in-None c =
    let f = c.self.inside in
    let h : length c.deref.result.now ≤ c.args.number = ltb-false c.args.number (length c.deref.result.now) (sym c.in-None.ensures.lookup.0) in
    let s : length c.deref.result.now ≡ length f.values.items = ap length c.deref.ensures.value in
    let far : f.count < c.args.number = omega (arith, c.self.invariant.held.values_size) in
    rw (← c.self.view_is) (sym (beyond f.count f.lits.items (pos c.args.number) c.self.invariant.held.over far))
