use Rattle.std.proofs.Common.{◌≡◌, ◌++◌, ◌+◌, drop, map}
use Rattle.std.specs.List.{enumerate_from}
use Rattle.solv_verdicts.specs.Laws.{proof_of}
use Rattle.solv_verdicts.specs.Inner.Rounds.{proofs_of}
use Rattle.solv_run.proofs.proving.append_problems.Given as goal

abbrev pub invariant-loop-place : goal.invariant-loop-place
invariant-loop-place l =
    l.proofs.items ++ map (λ x. proof_of l.round x.0 x.1) (enumerate_from (l.place + 1) (drop l.place l.problems)) ≡ l.initial.proofs.items ++ proofs_of l.round l.problems
