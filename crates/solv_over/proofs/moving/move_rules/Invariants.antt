use Rattle.std.proofs.Common.{◌≡◌, ◌++◌, map, take, drop}
use Rattle.solv_over.specs.Inner.Places.{rule_place}
use Rattle.solv_over.proofs.moving.move_rules.Given as goal

abbrev pub invariant-loop-rule : goal.invariant-loop-rule
invariant-loop-rule l = take l.rule-index l.rules ++ map (rule_place l.places) (drop l.rule-index l.rules) ≡ map (rule_place l.places) l.fn.rules
