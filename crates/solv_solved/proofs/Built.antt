-- What is held after calls that build.
use Rattle.std.proofs.Common.{◌≡◌, ◌∙◌, ℕ, true, false, List, None, Some, Result, Ok, Err, inl, inr, refl, sym, subst}
use Rattle.std.specs.Prelude.{IfErr}
use Rattle.std.specs.Result.{IsOk, OnErr, OnOk}
use Rattle.solv_base.proofs.Growth.{Grows-itself}
use Rattle.solv_pool.specs.Prelude.{catalog_of, hard_rules}
use Rattle.solv_pool.specs.declared.tasks.Task.{Task}
use Rattle.solv_rules.specs.Books.{IsDue, first_fault}
use Rattle.solv_rules.specs.declared.fault.BookFault.{BookFault}
use Rattle.solv_rules.specs.declared.fault.BookFault.TheVariants.{Memory}
use Rattle.solv_script.specs.States.{State}
use Rattle.solv_draft.specs.Drafts.{IsAsBefore, drawn}
use Rattle.solv_draft.specs.Inner.Faults.{IsFault}
use Rattle.solv_draft.specs.declared.draft_fault.DraftFault.{DraftFault}
use Rattle.solv_draft.specs.declared.draft_fault.DraftFault.TheVariants as reason
use Rattle.solv_said.specs.Dues.{limit_line}
use Rattle.solv_solved.specs.Building.{IsGiven, IsTaskSolved, answered, done, misused, no_task, passes, refused, task_of}
use Rattle.solv_solved.specs.Inner.Finding.{IsFound, IsFoundAnswer, IsFoundIn, IsFoundLimit, IsSolveOf, answer_of, limit_of}
use Rattle.solv_solved.specs.Inner.Limits.{IsLimitSaid}
use Rattle.solv_solved.specs.Solvings.{program}
use Rattle.solv_solved.specs.declared.anew.Again.{Again}
use Rattle.solv_solved.specs.declared.anew.Again.TheVariants as ended
use Rattle.solv_solved.specs.declared.building.Found.{Found}
use Rattle.solv_solved.specs.declared.building.Found.TheVariants as which
use Rattle.solv_solved.specs.declared.solving.WithRules.{WithRules}
use Rattle.solv_prov.specs.Index.{Index}
use Rattle.solv_solved.specs.Inner.Tellings.{IsTold}
use Rattle.solv_solved.specs.declared.building.Given.{Given}
use Rattle.solv_solved.specs.declared.building.Given.TheVariants as given
use Rattle.solv_solved.specs.declared.opened.Opened.{Opened}
use Rattle.solv_solved.specs.declared.outcomes.Held.{Held}
use Rattle.solv_solved.specs.declared.outcomes.Held.TheVariants.{Answered, Refused, Open}

-- nothing has happened to a task
pub as_before : (task : Task) → IsAsBefore task task
as_before task = record { task = refl; grows = Grows-itself task.pool }

-- how a call ended that is reported is how the task was given what the call gives
pub given_told : {A : Type 0} (name : List ℕ) (call : State → Result State DraftFault) (task : Task) (new : Opened) (ended : Result A DraftFault) (said : List ℕ) (how : Given) → IsTold name ended said how → new.said ≡ said
    → OnOk ended (call (drawn task) ≡ Ok (drawn new.draft.task)) → IfErr ended (λ f. IsFault f (call (drawn task))) → OnErr ended (IsAsBefore task new.draft.task) → IsGiven name call task new how
given_told name call task new (Ok x) said given.Done told is gives fault same = done gives (is ∙ told)
given_told name call task new (Err (reason.Refused line cause)) said given.Refuses told is gives fault same = refused line cause fault same (is ∙ told)
given_told name call task new (Err reason.Misused) said given.Misused told is gives fault same = misused fault same (is ∙ told)
given_told name call task new ended said how told is gives fault same = absurd told

-- a task that is the same is as it was
pub as_before_same : {A : Type 0} (task new : Task) (ended : Result A DraftFault) → OnErr ended (new ≡ task) → OnErr ended (IsAsBefore task new)
as_before_same task new (Ok x) same = tt
as_before_same task new (Err f) same = subst (λ (t : Task). IsAsBefore task t) (sym same) (as_before task)

-- where nothing is reported, nothing was given
pub untold : {A E : Type 0} (P : Type 0) (ended : Result A E) → (IsOk ended → false ≡ true) → OnErr ended P → P
untold P (Ok x) none h = let no = none refl in absurd (cc)
untold P (Err f) none h = h

-- a limit that is due, and is reported, is what is found
pub limit_found : (task : Task) (limit : BookFault) (said : List ℕ) → IsDue (first_fault (catalog_of task) 0 (hard_rules task)) limit → IsLimitSaid task limit said → IsFoundLimit task said
limit_found task Memory said due told = absurd told
limit_found task limit said (inl e) told = absurd (cc)
limit_found task limit said (inr due) told = record { limit = limit; passed = due; told = told }

-- an answer that is found of a task is one to a script's task that is the same
pub answer_found : (budget : ℕ) (task other : Task) (found : Found) (index : Index) (given : WithRules) → found ≡ which.Answer index given → other ≡ task → IsFound budget task found → IsFoundAnswer budget other index given
answer_found budget task other found index given is same h =
    subst (λ (t : Task). IsFoundAnswer budget t index given) (sym same) (subst (λ (f : Found). IsFound budget task f) is h)

-- where there is no task, nothing is found
pub none_found : (budget : ℕ) (old : Held) (found : Found) → task_of old ≡ None → IsFoundIn budget old (Some found) → ⊥
none_found budget (Answered solved) found none is = absurd (cc)
none_found budget (Open opened) found none is = absurd (cc)
none_found budget (Refused due) found none is = is

-- what is found of what is held is found of its task
pub found_of_task : (budget : ℕ) (old : Held) (task : Task) (found : Found) → task_of old ≡ Some task → IsFoundIn budget old (Some found) → IsFound budget task found
found_of_task budget (Answered solved) task found same is = let one : solved.script.task ≡ task = cc in subst (λ (t : Task). IsFound budget t found) one is
found_of_task budget (Open opened) task found same is = let one : opened.draft.task ≡ task = cc in subst (λ (t : Task). IsFound budget t found) one is
found_of_task budget (Refused due) task found same is = absurd is

pub nothing_found : (budget : ℕ) (old : Held) → IsFoundIn budget old None → IsTaskSolved budget old old ended.Misused
nothing_found budget (Answered solved) is = absurd is
nothing_found budget (Open opened) is = absurd is
nothing_found budget (Refused due) is = no_task due

-- what is held of the task is what is held after the call; a task that has an answer passes no limit
pub task_solved : (budget : ℕ) (old new : Held) (task : Task) (how : Again) → task_of old ≡ Some task → IsSolveOf budget task new how → IsTaskSolved budget old new how
task_solved budget old _ task _ same (answer_of new is) = answered old task new same is
task_solved budget (Refused due) _ task _ same (limit_of new limit passed is told) = absurd (cc)
task_solved budget (Answered solved) _ task _ same (limit_of new limit passed is told) =
    let one : solved.script.task ≡ task = cc in
    let passed_by : first_fault (catalog_of solved.script.task) 0 (hard_rules solved.script.task) ≡ Some limit
    = subst (λ (t : Task). first_fault (catalog_of t) 0 (hard_rules t) ≡ Some limit) (sym one) passed in
    let fits = solved.fits in absurd (cc)
task_solved budget (Open opened) _ task _ same (limit_of new limit passed is told) =
    let back : task ≡ opened.draft.task = cc in
    passes opened new limit (subst (λ (t : Task). first_fault (catalog_of t) 0 (hard_rules t) ≡ Some limit) back passed) (is ∙ back) (subst (λ (t : Task). new.said ≡ limit_line program t limit) back told)
