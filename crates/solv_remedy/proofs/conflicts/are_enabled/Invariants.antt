use Rattle.std.proofs.Common.{◌≡◌, drop}
use Rattle.std.specs.List.{list_all}
use Rattle.solv_trail.specs.Asked.{is_enabled}
use Rattle.solv_remedy.proofs.conflicts.are_enabled.Given as goal

abbrev pub invariant-loop-rule : goal.invariant-loop-rule
invariant-loop-rule l = list_all (is_enabled l.enabled) (drop l.rule-index l.rules) ≡ list_all (is_enabled l.enabled) l.rules
