use Rattle.std.proofs.Common.{◌≡◌, true, drop, length, nat_lt}
use Rattle.std.specs.List.{list_all}
use Rattle.solv_rules.proofs.weighing.meeting.Given as goal

abbrev pub invariant-loop-dep : goal.invariant-loop-dep
invariant-loop-dep l = record { held : list_all (λ d. nat_lt d (length l.prov.providers)) (drop l.dep-index l.deps) ≡ true }
