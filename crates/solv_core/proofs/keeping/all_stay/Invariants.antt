use Rattle.std.proofs.Common.{◌≡◌, drop}
use Rattle.std.specs.List.{list_all}
use Rattle.solv_core.specs.Inner.Holding.{hint_stays}
use Rattle.solv_core.proofs.keeping.all_stay.Given as goal

abbrev pub invariant-loop-hint : goal.invariant-loop-hint
invariant-loop-hint l = list_all (hint_stays l.used.owners.now l.used.enabled.now l.flags) (drop l.hint-index l.hints) ≡ list_all (hint_stays l.used.owners.now l.used.enabled.now l.flags) l.hints
