use Rattle.std.proofs.Common.{◌≡◌, drop}
use Rattle.std.specs.List.{list_all}
use Rattle.solv_prov.specs.declared.capability.Provide.{Provide}
use Rattle.solv_prov.specs.Inner.Ranking.{is_exact}
use Rattle.solv_prov.proofs.ranking.are_exact.Given as goal

abbrev pub invariant-loop-provide : goal.invariant-loop-provide
invariant-loop-provide l = record {
  left : list_all (λ (x : Provide). is_exact x.version) (drop l.provide-index l.provides) ≡ list_all (λ (x : Provide). is_exact x.version) l.provides;
}
