use Rattle.std.proofs.Common.{◌≡◌, drop}
use Rattle.std.specs.Prelude.{◌==◌}
use Rattle.std.specs.List.{list_any}
use Rattle.solv_tags.proofs.entries.place_in.Given as goal

abbrev pub invariant-loop-need : goal.invariant-loop-need
invariant-loop-need l = record {
  at : l.place ≡ l.need-index;
  rest : list_any (λ need. l.dep == need.dep) (drop l.need-index l.needs) ≡ list_any (λ need. l.dep == need.dep) l.needs;
}
