use Rattle.std.proofs.Common.{ℕ, ◌≡◌, ◌≤◌, ◌++◌, None, Some, drop, length, slice_get, true}
use Rattle.solv_pool.specs.Prelude.{is_among}
use Rattle.solv_prov.specs.declared.capability.Provide.{Provide}
use Rattle.solv_prov.specs.Inner.Gathering.{meeting_after, named_among}
use Rattle.solv_prov.specs.Inner.Seeking.{offered, wanted_of, is_met}
use Rattle.solv_prov.proofs.by_relation.add_candidates.Given as goal

abbrev pub invariant-loop-place : goal.invariant-loop-place
invariant-loop-place l = record {
  within : l.next ≤ length (offered l.sought);
  ahead : (p : ℕ) (x : Provide) → l.next ≤ p → slice_get (offered l.sought) p ≡ Some x → is_met l.pool l.sought x ≡ true → is_among (drop l.place-index l.places) p ≡ true;
  providers_closed : l.made.providers.closed ≡ l.initial.made.providers.closed;
  named_closed : l.made.named.closed ≡ l.initial.made.named.closed;
  providers_left : l.made.providers.open_list ++ meeting_after l.pool (wanted_of l.sought) l.last (drop l.next (offered l.sought)) ≡ l.initial.made.providers.open_list ++ meeting_after l.pool (wanted_of l.sought) None (offered l.sought);
  named_left : l.made.named.open_list ++ named_among l.pool (wanted_of l.sought) (drop l.next (offered l.sought)) ≡ l.initial.made.named.open_list ++ named_among l.pool (wanted_of l.sought) (offered l.sought);
}
