-- What a reader has read as a script with all its rounds.
use Rattle.std.proofs.Common.{◌≡◌, ℕ, zero, suc, ◌<◌, ◌≤◌, ◌-◌, true, List, [], ◌∷◌, ◌++◌, map, length, take, drop, Some, refl, sym, ap, subst, ◌∙◌, arith}
use Rattle.std.specs.Prelude.{slice_get, slice_set, unwrap_or}
use Rattle.std.specs.List.{All, list_all}
use Rattle.std.proofs.lemmas.Bool.{and_from}
use Rattle.std.proofs.lemmas.List.{map-append}
use Rattle.solv_base.specs.Pool.{IsPool}
use Rattle.solv_pool.specs.Prelude.{IsClosed, WrittenJob, written_job, written_task}
use Rattle.solv_pool.specs.TaskForms.{HasForms}
use Rattle.solv_pool.specs.declared.jobs.Job.{Job}
use Rattle.solv_pool.specs.declared.tasks.Task.{Task}
use Rattle.solv_script.specs.Inner.Readings.{IsReader, state_of}
use Rattle.solv_script.specs.Inner.WrittenForms.{HasWrittenForms, is_written_choice}
use Rattle.solv_script.specs.Inner.WrittenRounds.{written_round}
use Rattle.solv_script.specs.Rounds.{first_round, tasks, with_jobs_of}
use Rattle.solv_script.specs.Inner.Turns.{exchanged, with_front}
use Rattle.solv_script.specs.ScriptsOf.{IsScriptOf}
use Rattle.solv_script.specs.States.{with_rounds}
use Rattle.solv_script.specs.declared.scripts.Round.{Round}
use Rattle.solv_script.specs.declared.scripts.Script.{Script}
use Rattle.solv_script.specs.declared.whole.reader.Reader.{Reader}
use Rattle.solv_script.proofs.EarlierRounds.{round_fits, of_mapped, round_formed, to_mapped}
use Rattle.solv_script.proofs.RowForms.{task_forms}
use Rattle.solv_list.proofs.Booleans.{first_of_both, second_of_both}
use Rattle.solv_list.proofs.Lists.{list_all_join, some_there}

-- one list with another element at a place, and the one that stood there in front of the rest
pub brought : {A : Type 0} (xs : List A) (k : ℕ) (x f : A) → slice_get xs k ≡ Some x → take k (slice_set xs k f) ++ x ∷ drop k (slice_set xs k f) ≡ take (suc k) xs ++ f ∷ drop (suc k) xs
brought [] k x f e = absurd (cc)
brought (y ∷ ys) zero x f e = let same : y ≡ x = ap (λ o. unwrap_or o y) e in ap (λ z. z ∷ f ∷ ys) (sym same)
brought (y ∷ ys) (suc k) x f e = ap (λ l. y ∷ l) (brought ys k x f e)

as_long : {A : Type 0} (xs : List A) (k : ℕ) (f : A) → length (slice_set xs k f) ≡ length xs
as_long [] k f = refl
as_long (x ∷ xs) zero f = refl
as_long (x ∷ xs) (suc k) f = ap suc (as_long xs k f)

-- put back, the list is as before
pub put_back : {A : Type 0} (xs : List A) (k : ℕ) (x f : A) → slice_get xs k ≡ Some x → slice_set (slice_set xs k f) k x ≡ xs
put_back [] k x f e = absurd (cc)
put_back (y ∷ ys) zero x f e = let same : y ≡ x = ap (λ o. unwrap_or o y) e in ap (λ z. z ∷ ys) (sym same)
put_back (y ∷ ys) (suc k) x f e = ap (λ l. y ∷ l) (put_back ys k x f e)

-- an element that passes where all do
at_of_all : {A : Type 0} (P : A → Type 0) (x : A) (xs : List A) → All P (x ∷ xs) → P x
at_of_all P x xs all = all 0 x (omega arith)

behind_of_all : {A : Type 0} (P : A → Type 0) (x : A) (xs : List A) → All P (x ∷ xs) → All P xs
behind_of_all P x xs all k d h = all (suc k) d (omega (arith, h))

all_of_both : {A : Type 0} (P : A → Type 0) (x : A) (xs : List A) → P x → All P xs → All P (x ∷ xs)
all_of_both P x xs p ps zero d h = p
all_of_both P x xs p ps (suc k) d h = ps k d (omega (arith, h))

-- the first round
pub first_of : (P : Task → Type 0) (script : Script) → All P (tasks script) → P script.task
first_of P script all = at_of_all P script.task (map (with_jobs_of script.task) script.later) all

-- of a closed script
pub first_closed : (script : Script) → All IsClosed (tasks script) → IsClosed script.task
first_closed script all = first_of IsClosed script all

rounds_fit : (task : Task) (later : List Round) → All IsClosed (map (with_jobs_of task) later) → list_all (round_fits (length task.pool.nodes) (length task.universe.packages)) later ≡ true
rounds_fit task [] all = refl
rounds_fit task (r ∷ later) all =
    and_from (round_fits (length task.pool.nodes) (length task.universe.packages) r) (list_all (round_fits (length task.pool.nodes) (length task.universe.packages)) later)
    (at_of_all IsClosed (with_jobs_of task r) (map (with_jobs_of task) later) all).jobs
    (rounds_fit task later (behind_of_all IsClosed (with_jobs_of task r) (map (with_jobs_of task) later) all))

pub later_fit : (script : Script) → All IsClosed (tasks script) → list_all (round_fits (length script.task.pool.nodes) (length script.task.universe.packages)) script.later ≡ true
later_fit script all = rounds_fit script.task script.later (behind_of_all IsClosed script.task (map (with_jobs_of script.task) script.later) all)

-- each round over the packages of a closed task
module _ (task : Task) (closed : IsClosed task) where
  closed_with : (r : Round) → round_fits (length task.pool.nodes) (length task.universe.packages) r ≡ true → IsClosed (with_jobs_of task r)
  closed_with r h = record { universe = closed.universe; namespaces = closed.namespaces; jobs = h }

  all_closed : (l : List Round) → list_all (round_fits (length task.pool.nodes) (length task.universe.packages)) l ≡ true → All IsClosed (map (with_jobs_of task) l)
  all_closed [] h = λ k d less. absurd (omega (arith, less))
  all_closed (r ∷ l) h =
      all_of_both IsClosed (with_jobs_of task r) (map (with_jobs_of task) l)
      (closed_with r (first_of_both (round_fits (length task.pool.nodes) (length task.universe.packages) r) (list_all (round_fits (length task.pool.nodes) (length task.universe.packages)) l) h))
      (all_closed l (second_of_both (round_fits (length task.pool.nodes) (length task.universe.packages) r) (list_all (round_fits (length task.pool.nodes) (length task.universe.packages)) l) h))

module _ (task : Task) (forms : HasWrittenForms (written_task task)) where
  formed_with : (r : Round) → round_formed task.pool r ≡ true → HasForms (with_jobs_of task r)
  formed_with r h = task_forms (with_jobs_of task r) (record { packages = forms.packages; jobs = to_mapped {X = Job} {Y = WrittenJob} (λ w. is_written_choice w.choice) (written_job task.pool) r.jobs h })

  all_formed : (l : List Round) → list_all (round_formed task.pool) l ≡ true → All HasForms (map (with_jobs_of task) l)
  all_formed [] h = λ k d less. absurd (omega (arith, less))
  all_formed (r ∷ l) h =
      all_of_both HasForms (with_jobs_of task r) (map (with_jobs_of task) l)
      (formed_with r (first_of_both (round_formed task.pool r) (list_all (round_formed task.pool) l) h))
      (all_formed l (second_of_both (round_formed task.pool r) (list_all (round_formed task.pool) l) h))

-- a reader at its end
module _ (r : Reader) (reader : IsReader r) where
  -- its round in hand
  abbrev pub last_round : Round
  last_round = record { flags = r.task.flags; jobs = r.task.jobs; kinds = r.kinds; wanted = r.wanted }

  -- the script that has the round in hand in front
  abbrev pub turned_round : Script
  turned_round = record { task = r.task; kinds = r.kinds; wanted = r.wanted; checks = r.checks; later = r.earlier }

  fit : list_all (round_fits (length r.task.pool.nodes) (length r.task.universe.packages)) (r.earlier ++ last_round ∷ []) ≡ true
  fit = list_all_join (round_fits (length r.task.pool.nodes) (length r.task.universe.packages)) r.earlier (last_round ∷ []) reader.earlier.fit
      (and_from (round_fits (length r.task.pool.nodes) (length r.task.universe.packages) last_round) true reader.closed.jobs refl)

  formed : list_all (round_formed r.task.pool) (r.earlier ++ last_round ∷ []) ≡ true
  formed = list_all_join (round_formed r.task.pool) r.earlier (last_round ∷ []) reader.earlier.forms
      (and_from (round_formed r.task.pool last_round) true (of_mapped {X = Job} {Y = WrittenJob} (λ w. is_written_choice w.choice) (written_job r.task.pool) r.task.jobs reader.forms.jobs) refl)

  module _ (front : Round) (later : List Round) (all : front ∷ later ≡ r.earlier ++ last_round ∷ []) where
    abbrev pub done : Script
    done = with_front turned_round front later

    pub all_rounds_closed : All IsClosed (tasks done)
    all_rounds_closed = subst (λ (l : List Round). All IsClosed (map (with_jobs_of r.task) l)) (sym all) (all_closed r.task reader.closed (r.earlier ++ last_round ∷ []) fit)

    pub all_rounds_formed : All HasForms (tasks done)
    all_rounds_formed = subst (λ (l : List Round). All HasForms (map (with_jobs_of r.task) l)) (sym all) (all_formed r.task reader.forms (r.earlier ++ last_round ∷ []) formed)

    written_rounds : map (written_round r.task.pool) (front ∷ later) ≡ map (written_round r.task.pool) r.earlier ++ written_round r.task.pool last_round ∷ []
    written_rounds = ap (map (written_round r.task.pool)) all ∙ map-append (written_round r.task.pool) r.earlier (last_round ∷ [])

    pub is_script_of : IsPool r.task.pool → IsScriptOf (state_of r) done
    unfolding state_of
    is_script_of once = record {
      written = ap (with_rounds (state_of r)) written_rounds;
      pool = refl;
      each_once = once;
      closed = all_rounds_closed;
    }

-- one turn more, from a place to the one before it
module _ (old script new : Script) (place : ℕ) (some : 0 < place) (is : new ≡ exchanged (place - 1) script) (within : place ≤ length script.later) (packages : script ≡ with_front old (first_round script) script.later)
    (all : take place script.later ++ first_round script ∷ drop place script.later ≡ old.later ++ first_round old ∷ []) where
  abbrev P : Script → ℕ → Type 0
  P s k = record {
    within : k ≤ length s.later;
    packages : s ≡ with_front old (first_round s) s.later;
    rounds : take k s.later ++ first_round s ∷ drop k s.later ≡ old.later ++ first_round old ∷ [];
  }

  at_place : (k : ℕ) → place ≡ suc k → new ≡ exchanged k script → P new k
  at_place k e is =
      let near : k < length script.later = omega (arith, e, within) in
      let at = some_there script.later k near in
      let turned_is : exchanged k script ≡ with_front script at.0 (slice_set script.later k (first_round script)) = rw (exchanged, at.1) refl in
      let whole : take (suc k) script.later ++ first_round script ∷ drop (suc k) script.later ≡ old.later ++ first_round old ∷ [] = rw e at all in
      subst (λ (s : Script). P s k) (sym (is ∙ turned_is)) (record {
        within = let same = as_long script.later k (first_round script) in omega (arith, same, near);
        packages = ap (λ (s : Script). with_front s at.0 (slice_set script.later k (first_round script))) packages;
        rounds = brought script.later k at.0 (first_round script) at.1 ∙ whole;
      })

  pub turn_back : P new (place - 1)
  turn_back = at_place (place - 1) (omega (arith, some)) is
