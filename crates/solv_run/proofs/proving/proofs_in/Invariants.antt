use Rattle.std.proofs.Common.{◌≡◌, ◌++◌, ◌+◌, drop, map}
use Rattle.std.specs.Prelude.{flat_map}
use Rattle.std.specs.List.{enumerate_from}
use Rattle.solv_run.specs.Proofs.{problems_in, proofs_in}
use Rattle.solv_verdicts.specs.Inner.Rounds.{proofs_of}
use Rattle.solv_run.proofs.proving.proofs_in.Given as goal

abbrev pub invariant-loop-place : goal.invariant-loop-place
invariant-loop-place l =
    l.proofs.items ++ flat_map (λ x. proofs_of x.0 x.1) (enumerate_from (l.place + 1) (map problems_in (drop l.place l.answers))) ≡ proofs_in l.answers
