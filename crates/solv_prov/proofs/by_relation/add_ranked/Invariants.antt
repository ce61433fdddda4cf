use Rattle.std.proofs.Common.{◌≡◌, ◌++◌, None, drop}
use Rattle.solv_prov.specs.Inner.Gathering.{meeting_after, named_among}
use Rattle.solv_prov.specs.Inner.Seeking.{offered, wanted_of}
use Rattle.solv_prov.proofs.by_relation.add_ranked.Given as goal

abbrev pub invariant-loop-place : goal.invariant-loop-place
invariant-loop-place l = record {
  providers_closed : l.made.providers.closed ≡ l.initial.made.providers.closed;
  named_closed : l.made.named.closed ≡ l.initial.made.named.closed;
  providers_left : l.made.providers.open_list ++ meeting_after l.pool (wanted_of l.sought) l.last (drop l.place (offered l.sought)) ≡ l.initial.made.providers.open_list ++ meeting_after l.pool (wanted_of l.sought) None (offered l.sought);
  named_left : l.made.named.open_list ++ named_among l.pool (wanted_of l.sought) (drop l.place (offered l.sought)) ≡ l.initial.made.named.open_list ++ named_among l.pool (wanted_of l.sought) (offered l.sought);
}
