-- The proofs of one round.
use Rattle.std.specs.Prelude.{ℕ, List, map}
use Rattle.std.specs.List.{enumerate_from}
use Rattle.solv_proof.specs.declared.kinds.Proof.{Proof}
use Rattle.solv_remedy.specs.declared.problems.Problem.{Problem}
use Rattle.solv_verdicts.specs.Laws.{proof_of}

-- the proofs of the problems of a round, which are numbered from 1
abbrev pub proofs_of : ℕ → List Problem → List Proof
proofs_of round problems = map (λ x. proof_of round x.0 x.1) (enumerate_from 1 problems)
