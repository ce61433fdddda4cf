use Rattle.std.proofs.Common.{ℕ, ◌≡◌, ◌≤◌, ◌<◌, slice_get, Some}
use Rattle.std.specs.Prelude.{slice_index}
use Rattle.solv_prov.specs.declared.capability.Provide.{Provide}
use Rattle.solv_prov.specs.declared.capability.Version.TheVariants.{Any}
use Rattle.solv_prov.proofs.ranking.are_complete.Given as goal

abbrev pub invariant-loop-place : goal.invariant-loop-place
invariant-loop-place l = record {
  seen : (p : ℕ) → p < l.place → (x : Provide) → slice_get l.provides p ≡ Some x → l.end ≤ slice_index l.ranks p → x.version ≡ Any;
}
