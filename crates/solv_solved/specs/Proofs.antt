-- The proofs of an answer's problems.
use Rattle.std.specs.Prelude.{ℕ, ◌≡◌, ◌+◌, List, [], ◌∷◌, Option, Ok, slice_get}
use Rattle.std.specs.Option.{option_map}
use Rattle.solv_answers.specs.declared.answers.Answer.{Answer}
use Rattle.solv_answers.specs.declared.answers.Answer.TheVariants.{Transaction, Problems, Spent}
use Rattle.solv_pool.specs.declared.tasks.Task.{Task}
use Rattle.solv_proof.specs.Reading.{proof_read}
use Rattle.solv_proof.specs.Texts.{proof_text}
use Rattle.solv_proof.specs.declared.kinds.Proof.{Proof}
use Rattle.solv_remedy.specs.declared.problems.Problem.{Problem}
use Rattle.solv_verdicts.specs.Laws.{proof_of}
use Rattle.solv_verdicts.specs.Verdicts.{verdict_of}
use Rattle.solv_verdicts.specs.declared.verdicts.Verdict.TheVariants.{Yes}

-- the problems of an answer; a transaction has none
abbrev pub problems_in : Answer → List Problem
problems_in (Transaction trail set made ordered) = []
problems_in (Problems problems) = problems
problems_in Spent = []

-- the text of the proof of the problem of this number, from 0 on; in it the problem is one of the first round, in which problems are numbered from 1
abbrev pub proof_text_in : Answer → ℕ → Option (List ℕ)
proof_text_in answer problem = option_map (λ (p : Problem). proof_text (proof_of 1 (problem + 1) p ∷ [])) (slice_get (problems_in answer) problem)

-- A text is read as one proof, and yes is said of it over the hard rules of a task: no set that holds the system meets those that it lists.
pub record IsGoodProof (task : Task) (text : List ℕ) : Type 0 where
  pub proof : Proof
  pub readable : proof_read text ≡ Ok (proof ∷ [])
  pub yes : verdict_of (task ∷ []) proof ≡ Yes
