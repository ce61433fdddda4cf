-- A script whose first round changed places with another.
use Rattle.std.proofs.Common.{ℕ, zero, suc, ◌≡◌, ◌∙◌, ◌-◌, ◌<◌, ◌≤◌, List, [], ◌∷◌, length, map, Option, Some, refl, sym, ap, arith, subst}
use Rattle.std.specs.Prelude.{slice_get, slice_set, unwrap_or, IsSomeAnd}
use Rattle.std.specs.List.{All}
use Rattle.solv_pool.specs.Prelude.{catalog_of}
use Rattle.solv_pool.specs.declared.tasks.Task.{Task}
use Rattle.solv_script.proofs.FinishedRounds.{put_back}
use Rattle.solv_script.specs.Rounds.{first_round, tasks, with_jobs_of}
use Rattle.solv_script.specs.Inner.Turns.{exchanged, with_front}
use Rattle.solv_script.specs.declared.scripts.Round.{Round}
use Rattle.solv_script.specs.declared.scripts.Script.{Script}
use Rattle.solv_rounds.specs.Inner.Fronts.{in_front}
use Rattle.solv_list.proofs.Lists.{some_there}

got_set : {A : Type 0} (xs : List A) (k : ℕ) (f : A) → k < length xs → slice_get (slice_set xs k f) k ≡ Some f
got_set [] k f h = absurd (omega (arith, h))
got_set (x ∷ xs) zero f h = refl
got_set (x ∷ xs) (suc k) f h = got_set xs k f (omega (arith, h))

got_mapped : {A B : Type 0} (f : A → B) (xs : List A) (k : ℕ) (x : A) → slice_get xs k ≡ Some x → slice_get (map f xs) k ≡ Some (f x)
got_mapped f [] k x e = absurd (cc)
got_mapped f (y ∷ ys) zero x e = ap (λ o. Some (f (unwrap_or o y))) e
got_mapped f (y ∷ ys) (suc k) x e = got_mapped f ys k x e

-- what holds of all holds of the one at a place
pub of_all : {A : Type 0} (P : A → Type 0) (xs : List A) (k : ℕ) (x : A) → slice_get xs k ≡ Some x → All P xs → P x
of_all P [] k x e all = absurd (cc)
of_all P (y ∷ ys) zero x e all = let same : y ≡ x = ap (λ o. unwrap_or o y) e in subst P same (all 0 y (omega arith))
of_all P (y ∷ ys) (suc k) x e all = of_all P ys k x e (λ n d h. all (suc n) d (omega (arith, h)))

-- turned and turned back
module _ (script : Script) (place : ℕ) (within : place < length script.later) where
  pub other : Round
  other = (some_there script.later place within).0

  pub is_other : slice_get script.later place ≡ Some other
  unfolding other
  is_other = (some_there script.later place within).1

  pub turned_is : exchanged place script ≡ with_front script other (slice_set script.later place (first_round script))
  turned_is = by other is_other
    where
      by : (r : Round) → slice_get script.later place ≡ Some r → exchanged place script ≡ with_front script r (slice_set script.later place (first_round script))
      by r e = rw (exchanged, e) refl

  pub turned_back : exchanged place (exchanged place script) ≡ script
  turned_back =
      ap (exchanged place) turned_is
      ∙ by (with_front script other (slice_set script.later place (first_round script))) (got_set script.later place (first_round script) within)
      ∙ ap (with_front script (first_round script)) (put_back script.later place other (first_round script) is_other)
    where
      by : (s : Script) → slice_get s.later place ≡ Some (first_round script) → exchanged place s ≡ with_front s (first_round script) (slice_set s.later place (first_round s))
      by s e = rw (exchanged, e) refl

  pub turned_task : (exchanged place script).task ≡ with_jobs_of script.task other
  turned_task = ap (λ (s : Script). s.task) turned_is

  pub turned_later : length (exchanged place script).later ≡ length script.later
  turned_later = ap (λ (s : Script). length s.later) turned_is ∙ as_long script.later place (first_round script)
    where
      as_long : (xs : List Round) (k : ℕ) (f : Round) → length (slice_set xs k f) ≡ length xs
      as_long [] k f = refl
      as_long (x ∷ xs) zero f = refl
      as_long (x ∷ xs) (suc k) f = ap suc (as_long xs k f)

-- the same by places, which count from the first round
pub front_of : (script : Script) (place : ℕ) → 0 < place → exchanged (place - 1) script ≡ in_front place script
front_of script zero some = absurd (omega (arith, some))
front_of script (suc place) some = let same : suc place - 1 ≡ place = omega arith in ap (λ n. exchanged n script) same

pub front_back : (script : Script) (place : ℕ) → place ≤ length script.later → in_front place (in_front place script) ≡ script
front_back script zero within = refl
front_back script (suc place) within = turned_back script place (omega (arith, within))

pub front_later : (script : Script) (place : ℕ) → place ≤ length script.later → length (in_front place script).later ≡ length script.later
front_later script zero within = refl
front_later script (suc place) within = turned_later script place (omega (arith, within))

pub front_catalog : (script : Script) (place : ℕ) → place ≤ length script.later → catalog_of (in_front place script).task ≡ catalog_of script.task
front_catalog script zero within = refl
front_catalog script (suc place) within = ap catalog_of (turned_task script place (omega (arith, within)))

-- the task in front is the one at the place
pub front_task : (script : Script) (place : ℕ) → place ≤ length script.later → slice_get (tasks script) place ≡ Some (in_front place script).task
front_task script zero within = refl
front_task script (suc place) within =
    let low : place < length script.later = omega (arith, within) in
    got_mapped (with_jobs_of script.task) script.later place (other script place low) (is_other script place low) ∙ ap (λ t. Some t) (sym (turned_task script place low))

pub front_all : (P : Task → Type 0) (script : Script) (place : ℕ) → place ≤ length script.later → All P (tasks script) → P (in_front place script).task
front_all P script place within all = of_all P (tasks script) place (in_front place script).task (front_task script place within) all

-- what is said of the task in front is said of the one at the place, and the other way round
pub at_place : (P : Task → Type 0) (script : Script) (place : ℕ) → place ≤ length script.later → P (in_front place script).task → IsSomeAnd (slice_get (tasks script) place) P
at_place P script place within holds = subst (λ (o : Option Task). IsSomeAnd o P) (sym (front_task script place within)) holds

pub of_front : (P : Task → Type 0) (script : Script) (place : ℕ) → place ≤ length script.later → IsSomeAnd (slice_get (tasks script) place) P → P (in_front place script).task
of_front P script place within holds = subst (λ (o : Option Task). IsSomeAnd o P) (front_task script place within) holds
