-- The limit of a round that was turned to the front.
use Rattle.std.proofs.Common.{ℕ, suc, ◌≡◌, ◌+◌, ◌<◌, None, length, arith, sym, subst}
use Rattle.std.specs.Prelude.{IfErr, IsSomeAnd, OnOk, Ok, Err, Result, slice_get}
use Rattle.solv_pool.specs.Prelude.{catalog_of, hard_rules}
use Rattle.solv_pool.specs.declared.tasks.Task.{Task}
use Rattle.solv_rounds.proofs.Turned.{at_place}
use Rattle.solv_rounds.specs.Inner.Fronts.{IsDueAt, IsLimitAt}
use Rattle.solv_rules.specs.Books.{IsDue, first_fault}
use Rattle.solv_rules.specs.declared.fault.BookFault.{BookFault}
use Rattle.solv_script.specs.Inner.Turns.{exchanged}
use Rattle.solv_script.specs.Rounds.{tasks}
use Rattle.solv_script.specs.declared.scripts.Script.{Script}

module _ (script : Script) (place : ℕ) (within : place < length script.later) where
  there : (P : Task → Type 0) → P (exchanged place script).task → IsSomeAnd (slice_get (tasks script) (place + 1)) P
  there P holds =
      let up : suc place ≡ place + 1 = omega arith in
      subst (λ (n : ℕ). IsSomeAnd (slice_get (tasks script) n) P) up (at_place P script (suc place) (omega (arith, within)) holds)

  pub fits_there : {T E : Type 0} (r : Result T E) (front : Script) → front ≡ exchanged place script → OnOk r (first_fault (catalog_of front.task) 0 (hard_rules front.task) ≡ None) → OnOk r (IsLimitAt (tasks script) (place + 1) None)
  fits_there (Ok x) front is fits =
      there (λ task. None ≡ first_fault (catalog_of task) 0 (hard_rules task)) (sym (subst (λ (s : Script). first_fault (catalog_of s.task) 0 (hard_rules s.task) ≡ None) is fits))
  fits_there (Err e) front is fits = fits

  pub due_there : {T : Type 0} (r : Result T BookFault) (front : Script) → front ≡ exchanged place script → IfErr r (IsDue (first_fault (catalog_of front.task) 0 (hard_rules front.task))) → IfErr r (IsDueAt (tasks script) (place + 1))
  due_there (Ok x) front is due = due
  due_there (Err fault) front is due =
      there (λ task. IsDue (first_fault (catalog_of task) 0 (hard_rules task)) fault) (subst (λ (s : Script). IsDue (first_fault (catalog_of s.task) 0 (hard_rules s.task)) fault) is due)
