-- The first limit of rounds, one after the other.
use Rattle.std.proofs.Common.{ℕ, zero, suc, ◌≡◌, ◌∙◌, ◌+◌, ◌≤◌, List, [], ◌∷◌, length, map, drop, Option, Some, None, refl, sym, ap, arith, inl, inr, subst}
use Rattle.std.specs.Prelude.{slice_get, IsSomeAnd}
use Rattle.std.specs.List.{All}
use Rattle.solv_pool.specs.Prelude.{catalog_of, hard_rules}
use Rattle.solv_pool.specs.declared.tasks.Task.{Task}
use Rattle.solv_answers.specs.Answers.{IsPrepared, first_limit}
use Rattle.solv_answers.specs.declared.preparing.Prepared.{Prepared}
use Rattle.solv_list.proofs.Lists.{drop_get}
use Rattle.solv_rules.specs.Books.{IsDue, first_fault}
use Rattle.solv_rules.specs.declared.fault.BookFault.{BookFault}
use Rattle.solv_rules.specs.declared.fault.BookFault.TheVariants.{Memory}
use Rattle.solv_script.specs.Rounds.{tasks, with_jobs_of}
use Rattle.solv_script.specs.declared.scripts.Script.{Script}
use Rattle.solv_rounds.specs.Inner.Fronts.{IsDueAt, IsLimitAt, IsPreparedAt}

-- nothing is left after the end
pub rest_none : {A B : Type 0} (f : A → B) (xs : List A) (k : ℕ) → length xs ≤ k → drop k (map f xs) ≡ []
rest_none f [] zero h = refl
rest_none f [] (suc k) h = refl
rest_none f (x ∷ xs) zero h = absurd (omega (arith, h))
rest_none f (x ∷ xs) (suc k) h = rest_none f xs k (omega (arith, h))

-- a task with a fault in front of others, and one with none
pub first_passed : (task : Task) (later : List Task) (fault : BookFault) → first_fault (catalog_of task) 0 (hard_rules task) ≡ Some fault → first_limit (task ∷ later) ≡ Some fault
first_passed task later fault e = ap (λ (o : Option BookFault). elim o [ Some f ↦ Some f | None ↦ first_limit later ]) e

pub first_fits : (task : Task) (later : List Task) → first_fault (catalog_of task) 0 (hard_rules task) ≡ None → first_limit (task ∷ later) ≡ first_limit later
first_fits task later e = ap (λ (o : Option BookFault). elim o [ Some f ↦ Some f | None ↦ first_limit later ]) e

-- the tasks of the rounds after the first one
abbrev pub later_tasks : Script → List Task
later_tasks script = map (with_jobs_of script.task) script.later

module _ (script : Script) (place : ℕ) where
  -- one of them, at a place
  of_later : (limit : Option BookFault) → IsLimitAt (tasks script) (place + 1) limit → (task : Task) × (drop place (later_tasks script) ≡ task ∷ drop (place + 1) (later_tasks script)) × (limit ≡ first_fault (catalog_of task) 0 (hard_rules task))
  of_later limit at = by (slice_get (later_tasks script) place) refl up
    where
      next : place + 1 ≡ suc place
      next = omega arith

      up : IsSomeAnd (slice_get (later_tasks script) place) (λ task. limit ≡ first_fault (catalog_of task) 0 (hard_rules task))
      up = subst (λ (n : ℕ). IsSomeAnd (slice_get (tasks script) n) (λ task. limit ≡ first_fault (catalog_of task) 0 (hard_rules task))) next at

      by : (o : Option Task) → slice_get (later_tasks script) place ≡ o → IsSomeAnd o (λ task. limit ≡ first_fault (catalog_of task) 0 (hard_rules task))
          → (task : Task) × (drop place (later_tasks script) ≡ task ∷ drop (place + 1) (later_tasks script)) × (limit ≡ first_fault (catalog_of task) 0 (hard_rules task))
      by None e is = absurd is
      by (Some task) e is = (task, drop_get (later_tasks script) place task e, is)

  -- a round that passes none leaves the rest to decide
  pub next_limit : IsLimitAt (tasks script) (place + 1) None → first_limit (drop place (later_tasks script)) ≡ first_limit (later_tasks script) → first_limit (drop (place + 1) (later_tasks script)) ≡ first_limit (later_tasks script)
  next_limit at so_far =
      let of = of_later None at in
      sym (ap first_limit of.1 ∙ first_fits of.0 (drop (place + 1) (later_tasks script)) (sym of.2)) ∙ so_far

  -- one that passes a limit has the first one
  pub this_limit : (fault : BookFault) → IsLimitAt (tasks script) (place + 1) (Some fault) → first_limit (drop place (later_tasks script)) ≡ first_limit (later_tasks script) → Some fault ≡ first_limit (later_tasks script)
  this_limit fault at so_far =
      let of = of_later (Some fault) at in
      sym (ap first_limit of.1 ∙ first_passed of.0 (drop (place + 1) (later_tasks script)) fault (sym of.2)) ∙ so_far

  -- and so has one for which a fault is due
  pub due_of : (fault : BookFault) → IsDueAt (tasks script) (place + 1) fault → first_limit (drop place (later_tasks script)) ≡ first_limit (later_tasks script) → IsDue (first_limit (later_tasks script)) fault
  due_of fault at so_far = by (slice_get (later_tasks script) place) refl up
    where
      next : place + 1 ≡ suc place
      next = omega arith

      up : IsSomeAnd (slice_get (later_tasks script) place) (λ task. IsDue (first_fault (catalog_of task) 0 (hard_rules task)) fault)
      up = subst (λ (n : ℕ). IsSomeAnd (slice_get (tasks script) n) (λ task. IsDue (first_fault (catalog_of task) 0 (hard_rules task)) fault)) next at

      by : (o : Option Task) → slice_get (later_tasks script) place ≡ o → IsSomeAnd o (λ task. IsDue (first_fault (catalog_of task) 0 (hard_rules task)) fault) → IsDue (first_limit (later_tasks script)) fault
      by None e is = absurd is
      by (Some task) e (inl memory) = inl memory
      by (Some task) e (inr is) = inr (sym so_far ∙ ap first_limit (drop_get (later_tasks script) place task e) ∙ first_passed task (drop (place + 1) (later_tasks script)) fault is)

-- after the last round
pub no_limit : (script : Script) (place : ℕ) → length script.later ≤ place → first_limit (drop place (later_tasks script)) ≡ first_limit (later_tasks script) → None ≡ first_limit (later_tasks script)
no_limit script place end so_far = sym (ap first_limit (rest_none (with_jobs_of script.task) script.later place end)) ∙ so_far

-- what is made shows that no limit is passed
pub fits_at : (ts : List Task) (place : ℕ) (prepared : Prepared) → IsPreparedAt ts place prepared → IsLimitAt ts place None
fits_at ts place prepared at = by (slice_get ts place) at
  where
    by : (o : Option Task) → IsSomeAnd o (λ task. IsPrepared task prepared) → IsSomeAnd o (λ task. None ≡ first_fault (catalog_of task) 0 (hard_rules task))
    by None is = is
    by (Some task) is = sym is.fits

-- a fault that is not running out of memory is the first limit
pub due_is : (due : Option BookFault) (fault : BookFault) → IsDue due fault → (fault ≡ Memory → ⊥) → Some fault ≡ due
due_is due fault (inl memory) other = absurd (other memory)
due_is due fault (inr is) other = sym is

pub limit_at : (ts : List Task) (place : ℕ) (fault : BookFault) → IsDueAt ts place fault → (fault ≡ Memory → ⊥) → IsLimitAt ts place (Some fault)
limit_at ts place fault at other = by (slice_get ts place) at
  where
    by : (o : Option Task) → IsSomeAnd o (λ task. IsDue (first_fault (catalog_of task) 0 (hard_rules task)) fault) → IsSomeAnd o (λ task. Some fault ≡ first_fault (catalog_of task) 0 (hard_rules task))
    by None is = is
    by (Some task) is = due_is (first_fault (catalog_of task) 0 (hard_rules task)) fault is other

-- where no task's clauses pass a limit, there is no other fault than running out of memory
none_first : (task : Task) (later : List Task) (o : Option BookFault) → first_fault (catalog_of task) 0 (hard_rules task) ≡ o → first_limit (task ∷ later) ≡ None → (o ≡ None) × (first_limit later ≡ None)
none_first task later None e h = (refl, sym (first_fits task later e) ∙ h)
none_first task later (Some fault) e h = absurd (let clash = sym (first_passed task later fault e) ∙ h in cc)

pub all_fitting : (ts : List Task) → first_limit ts ≡ None → All (λ task. first_fault (catalog_of task) 0 (hard_rules task) ≡ None) ts
all_fitting [] fits = λ n d h. absurd (omega (arith, h))
all_fitting (task ∷ later) fits = by (none_first task later (first_fault (catalog_of task) 0 (hard_rules task)) refl fits).0 (all_fitting later (none_first task later (first_fault (catalog_of task) 0 (hard_rules task)) refl fits).1)
  where
    by : first_fault (catalog_of task) 0 (hard_rules task) ≡ None → All (λ t. first_fault (catalog_of t) 0 (hard_rules t) ≡ None) later → All (λ t. first_fault (catalog_of t) 0 (hard_rules t) ≡ None) (task ∷ later)
    by first rest zero d h = first
    by first rest (suc n) d h = rest n d (omega (arith, h))

pub memory_alone : (ts : List Task) (place : ℕ) (fault : BookFault) → first_limit ts ≡ None → IsDueAt ts place fault → fault ≡ Memory
memory_alone [] place fault fits at = absurd at
memory_alone (task ∷ later) zero fault fits at = by at
  where
    fit : first_fault (catalog_of task) 0 (hard_rules task) ≡ None
    fit = (none_first task later (first_fault (catalog_of task) 0 (hard_rules task)) refl fits).0

    by : IsDue (first_fault (catalog_of task) 0 (hard_rules task)) fault → fault ≡ Memory
    by (inl memory) = memory
    by (inr is) = absurd (let clash = sym fit ∙ is in cc)
memory_alone (task ∷ later) (suc place) fault fits at = memory_alone later place fault (none_first task later (first_fault (catalog_of task) 0 (hard_rules task)) refl fits).1 at

-- the limits of the first round and of those after it are those of all
pub all_fit : (script : Script) → first_fault (catalog_of script.task) 0 (hard_rules script.task) ≡ None → None ≡ first_limit (later_tasks script) → first_limit (tasks script) ≡ None
all_fit script first later = first_fits script.task (later_tasks script) first ∙ sym later

pub later_passed : (script : Script) (fault : BookFault) → first_fault (catalog_of script.task) 0 (hard_rules script.task) ≡ None → Some fault ≡ first_limit (later_tasks script) → first_limit (tasks script) ≡ Some fault
later_passed script fault first later = first_fits script.task (later_tasks script) first ∙ sym later
