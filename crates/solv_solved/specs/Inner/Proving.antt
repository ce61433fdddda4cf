-- What is kept with an answer of its problems' proofs. Contracts between functions alone speak of it.
use Rattle.std.specs.Prelude.{◌&&◌, Bool, true, false, List, [], ◌∷◌}
use Rattle.std.specs.List.{list_all}
use Rattle.solv_pool.specs.declared.tasks.Task.{Task}
use Rattle.solv_proof.specs.Texts.{are_listed}
use Rattle.solv_proof.specs.declared.kinds.Proof.{Proof}
use Rattle.solv_remedy.specs.declared.problems.Problem.{Problem}
use Rattle.solv_verdicts.specs.Inner.Rounds.{proofs_of}
use Rattle.solv_verdicts.specs.Verdicts.{verdict_of}
use Rattle.solv_verdicts.specs.declared.verdicts.Verdict.{Verdict}
use Rattle.solv_verdicts.specs.declared.verdicts.Verdict.TheVariants.{Yes}

abbrev pub is_yes : Verdict → Bool
is_yes Yes = true
is_yes _ = false

-- a proof may be written by itself, and yes is said of it over the hard rules of a task
abbrev pub is_proved : Task → Proof → Bool
is_proved task p = are_listed (p ∷ []) && is_yes (verdict_of (task ∷ []) p)

-- the proof of each problem may be written by itself, and yes is said of it
abbrev pub are_proved : Task → List Problem → Bool
are_proved task problems = list_all (is_proved task) (proofs_of 1 problems)
