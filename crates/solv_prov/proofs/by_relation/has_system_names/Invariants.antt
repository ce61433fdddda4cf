use Rattle.std.proofs.Common.{ℕ, ◌≡◌, ◌<◌, nat_eq, codes, false}
use Rattle.std.specs.List.{starts_with}
use Rattle.solv_pool.specs.Prelude.{text_at}
use Rattle.solv_prov.proofs.by_relation.has_system_names.Given as goal

abbrev pub invariant-loop-id : goal.invariant-loop-id
invariant-loop-id l = (name : ℕ) → name < l.id → starts_with nat_eq (text_at l.pool name) (codes "rpmlib(") ≡ false
