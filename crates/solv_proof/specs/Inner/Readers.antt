-- What a reader holds, as the state of the definition.
use Rattle.std.specs.Prelude.{ℕ, ◌≡◌, ⊤, true, List, Result, Err}
use Rattle.std.specs.List.{list_all}
use Rattle.solv_proof.specs.Laws.{proof_fits}
use Rattle.solv_proof.specs.Texts.{proof_text, are_listed}
use Rattle.solv_proof.specs.Reading.{State}
use Rattle.solv_proof.specs.declared.kinds.Proof.{Proof}
use Rattle.solv_proof.specs.declared.faults.ProofCause.{ProofCause}
use Rattle.solv_proof.specs.declared.faults.ProofFault.{ProofFault}
use Rattle.solv_proof.specs.declared.faults.ProofFault.TheVariants.{Bad, Memory}
use Rattle.solv_proof.specs.declared.reader.Reader.{Reader}

abbrev pub state_of : Reader → State
state_of r = record { done = r.done; due = r.due; round = r.round; number = r.number; rules = r.rules; steps = r.steps }

-- the fault is the bad line; running out of memory says nothing
abbrev pub IsBadLine : Result (List Proof) (ℕ × ProofCause) → ProofFault → Type 0
IsBadLine read (Bad line cause) = read ≡ Err (line, cause)
IsBadLine read Memory = ⊤

-- the text is that of these proofs, which may be written
pub record IsTextOf (proofs : List Proof) (text : List ℕ) : Type 0 where
  pub is : text ≡ proof_text proofs
  pub listed : are_listed proofs ≡ true
  pub fits : list_all proof_fits proofs ≡ true

-- a bad line says that the text is that of no proofs
abbrev pub IsNoText : List ℕ → ProofFault → Type 0
IsNoText text (Bad line cause) = (proofs : List Proof) → IsTextOf proofs text → ⊥
IsNoText text Memory = ⊤
