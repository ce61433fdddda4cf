-- The proofs of rounds, one by one, and their text. Inner contracts alone speak of it.
use Rattle.std.specs.Prelude.{ℕ, ◌≡◌, List, [], ◌∷◌, Some, slice_get}
use Rattle.solv_pool.specs.declared.tasks.Task.{Task}
use Rattle.solv_proof.specs.Texts.{proof_text}
use Rattle.solv_proof.specs.declared.kinds.Proof.{Proof}
use Rattle.solv_verdicts.specs.Verdicts.{verdict_of}
use Rattle.solv_verdicts.specs.declared.verdicts.Verdict.TheVariants.{Yes}

-- yes is said of each proof
abbrev pub AreJudged : List Task → List Proof → Type 0
AreJudged tasks proofs = (i : ℕ) (p : Proof) → slice_get proofs i ≡ Some p → verdict_of tasks p ≡ Yes

-- the text of proofs, which is empty where there is none
abbrev pub text_of_proofs : List Proof → List ℕ
text_of_proofs [] = []
text_of_proofs (p ∷ ps) = proof_text (p ∷ ps)
