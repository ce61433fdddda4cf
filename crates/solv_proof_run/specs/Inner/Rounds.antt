-- Proofs judged against the rounds of a script. Contracts between layers alone speak of it.
use Rattle.std.specs.Prelude.{ℕ, ◌≡◌, ◌≤◌, List, None, length, slice_get}
use Rattle.std.specs.List.{All}
use Rattle.solv_pool.specs.Prelude.{catalog_of, hard_rules, IsClosed}
use Rattle.solv_pool.specs.TaskForms.{HasForms}
use Rattle.solv_pool.specs.declared.tasks.Task.{Task}
use Rattle.solv_proof.specs.declared.kinds.Proof.{Proof}
use Rattle.solv_answers.specs.Answers.{first_limit}
use Rattle.solv_answers.specs.Inner.Fronts.{MayGoOn}
use Rattle.solv_rounds.specs.Inner.Fronts.{IsPreparedAt}
use Rattle.solv_script.specs.Rounds.{tasks}
use Rattle.solv_script.specs.declared.scripts.Script.{Script}
use Rattle.solv_verdicts.specs.Verdicts.{NoSetMeets, NoSetMeetsRound, of_round, verdict_of, verdict_on}
use Rattle.solv_verdicts.specs.declared.verdicts.Verdict.{Verdict}
use Rattle.solv_verdicts.specs.declared.verdicts.Verdict.TheVariants.{Yes}
use Rattle.solv_proof_run.specs.declared.judging.InHand.{InHand}

-- the clauses of no round pass a limit
pub record IsReady (script : Script) : Type 0 where
  pub closed : All IsClosed (tasks script)
  pub forms : All HasForms (tasks script)
  pub fits : first_limit (tasks script) ≡ None

-- the book in hand is that of the round at its place, and another round's may take its place
pub record IsHeldFor (script : Script) (hand : InHand) : Type 0 where
  pub within : hand.place ≤ length script.later
  pub prepared : IsPreparedAt (tasks script) hand.place hand.prepared
  pub goes_on : MayGoOn (catalog_of script.task) hand.prepared

-- the place of the round of this number
pub record IsPlaceOf (script : Script) (round place : ℕ) : Type 0 where
  pub within : place ≤ length script.later
  pub is : of_round (tasks script) round ≡ slice_get (tasks script) place

-- what is said of a proof over the hard rules of a task; where it is yes, no set meets those that it lists
pub record IsVerdictOn (task : Task) (p : Proof) (verdict : Verdict) : Type 0 where
  pub is : verdict ≡ verdict_on (catalog_of task) (hard_rules task) p
  pub refuted : verdict ≡ Yes → NoSetMeets task p

-- what is said of a proof against the tasks of rounds; where it is yes, no set meets those of its round that it lists
pub record IsVerdictOf (given : List Task) (p : Proof) (verdict : Verdict) : Type 0 where
  pub is : verdict ≡ verdict_of given p
  pub refuted : verdict ≡ Yes → NoSetMeetsRound given p
