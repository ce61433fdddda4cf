use Rattle.std.proofs.Common.{◌≡◌, ◌++◌, drop}
use Rattle.std.specs.Prelude.{filter}
use Rattle.solv_trail.specs.Asked.{is_enabled}
use Rattle.solv_remedy.proofs.correcting.Parted.open_among.Given as goal

abbrev pub invariant-loop-rule : goal.invariant-loop-rule
invariant-loop-rule l = l.some.items ++ filter (is_enabled l.self.open.items) (drop l.rule-index l.rules) ≡ filter (is_enabled l.self.open.items) l.rules
