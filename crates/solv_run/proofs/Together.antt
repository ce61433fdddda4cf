-- What follows of answers to rounds.
use Rattle.std.proofs.Common.{ℕ, zero, suc, ◌+◌, ◌≤◌, ◌-◌, ◌≡◌, Bool, true, false, ◌||◌, List, [], ◌∷◌, Some, length, refl, sym, ap, ◌∙◌, arith}
use Rattle.std.specs.Prelude.{◌==◌, slice_get, unwrap_or}
use Rattle.std.proofs.lemmas.Bool.{eqb-true}
use Rattle.std.proofs.lemmas.Bool.Decides.{nat_tests}
use Rattle.solv_answers.specs.Answers.{choices_clash, is_spent, is_transaction}
use Rattle.solv_answers.specs.declared.answers.Answer.{Answer}
use Rattle.solv_answers.specs.declared.answers.Answer.TheVariants.{Transaction, Problems, Spent}
use Rattle.solv_core.specs.declared.ledger.Ledger.{Ledger}
use Rattle.solv_pool.specs.declared.tasks.Task.{Task}
use Rattle.solv_run.specs.Rounds.{AreAnswers, IsGoodAnswer, all_answered, one_spent, then_next, learnt, some_spent}

behind : (a b : Bool) → a ≡ false → (a || b) ≡ true → b ≡ true
behind true b e h = absurd (cc)
behind false b e h = h

behind_none : (a b : Bool) → (a || b) ≡ false → b ≡ false
behind_none true b h = absurd (cc)
behind_none false b h = h

-- an answer that is not spent left what it used
pub within : (n budget : ℕ) → n ≤ budget + 1 → (n == budget + 1) ≡ false → n ≤ budget
within n budget few other = grind (arith, nat_tests)

-- so many entries at most
pub few : (task : Task) (budget : ℕ) (answer : Answer) (ledger : Ledger) → IsGoodAnswer task budget answer ledger → length ledger.entries ≤ budget + 1
few task budget answer ledger good =
    let within : length ledger.entries ≤ ledger.budget + 1 = good.is.learnt.good.few in
    let same : ledger.budget ≡ budget = good.is.learnt.of_budget in
    omega (arith, within, same)

pub spent_together : (budget : ℕ) (tasks : List Task) (answers : List Answer) (ledgers : List Ledger) → AreAnswers budget tasks answers ledgers → some_spent answers ≡ true → learnt ledgers ≡ budget + 1
spent_together budget tasks answers ledgers (all_answered b) h = absurd (cc)
spent_together budget tasks answers ledgers (one_spent b task later ledger good) h =
    let all : length ledger.entries ≡ budget + 1 = eqb-true (length ledger.entries) (budget + 1) (sym good.is.learnt.spent) in
    omega (arith, all)
spent_together budget tasks answers ledgers (then_next b task later answer ledger others kept good unspent are) h =
    let rest = spent_together (budget - length ledger.entries) later others kept are (behind (is_spent answer) (some_spent others) unspent h) in
    let low = within (length ledger.entries) budget (few task budget answer ledger good) (sym good.is.learnt.spent ∙ unspent) in
    omega (arith, rest, low)

pub each_answered : (budget : ℕ) (tasks : List Task) (answers : List Answer) (ledgers : List Ledger) → AreAnswers budget tasks answers ledgers → some_spent answers ≡ false → length answers ≡ length tasks
each_answered budget tasks answers ledgers (all_answered b) h = refl
each_answered budget tasks answers ledgers (one_spent b task later ledger good) h = absurd (cc)
each_answered budget tasks answers ledgers (then_next b task later answer ledger others kept good unspent are) h =
    ap suc (each_answered (budget - length ledger.entries) later others kept are (behind_none (is_spent answer) (some_spent others) h))

-- the answer at a place, of the task there
first_gave : (task t : Task) (given answer : Answer) → (choices_clash task ≡ false → is_transaction given ≡ true) → task ≡ t → given ≡ answer → choices_clash t ≡ false → is_transaction answer ≡ true
first_gave task t given answer direct same is free = ap is_transaction (sym is) ∙ direct (ap choices_clash same ∙ free)

pub gave_transactions : (budget : ℕ) (tasks : List Task) (answers : List Answer) (ledgers : List Ledger) → AreAnswers budget tasks answers ledgers
    → (i : ℕ) (task : Task) (answer : Answer) → slice_get tasks i ≡ Some task → slice_get answers i ≡ Some answer → choices_clash task ≡ false → is_transaction answer ≡ true
gave_transactions budget tasks answers ledgers (all_answered b) i t a at there free = absurd (cc)
gave_transactions budget tasks answers ledgers (one_spent b task later ledger good) zero t a at there free =
    first_gave task t Spent a good.direct (ap (λ o. unwrap_or o task) at) (ap (λ o. unwrap_or o Spent) there) free
gave_transactions budget tasks answers ledgers (one_spent b task later ledger good) (suc i) t a at there free = absurd (cc)
gave_transactions budget tasks answers ledgers (then_next b task later answer ledger others kept good unspent are) zero t a at there free =
    first_gave task t answer a good.direct (ap (λ o. unwrap_or o task) at) (ap (λ o. unwrap_or o answer) there) free
gave_transactions budget tasks answers ledgers (then_next b task later answer ledger others kept good unspent are) (suc i) t a at there free =
    gave_transactions (budget - length ledger.entries) later others kept are i t a at there free

-- one answer to one task
pub one_answer : (budget : ℕ) (task : Task) (answer : Answer) (ledger : Ledger) → IsGoodAnswer task budget answer ledger → AreAnswers budget (task ∷ []) (answer ∷ []) (ledger ∷ [])
one_answer budget task (Transaction trail set made ordered) ledger good = then_next budget task [] (Transaction trail set made ordered) ledger [] [] good refl (all_answered (budget - length ledger.entries))
one_answer budget task (Problems problems) ledger good = then_next budget task [] (Problems problems) ledger [] [] good refl (all_answered (budget - length ledger.entries))
one_answer budget task Spent ledger good = one_spent budget task [] ledger good

-- one task at most has its answer
pub its_answer : (budget : ℕ) (tasks : List Task) (answers : List Answer) (ledgers : List Ledger) → AreAnswers budget tasks answers ledgers → length tasks ≤ 1 → length answers ≡ length tasks
its_answer budget tasks answers ledgers (all_answered b) few = refl
its_answer budget tasks answers ledgers (one_spent b task [] ledger good) few = refl
its_answer budget tasks answers ledgers (one_spent b task (next ∷ later) ledger good) few = absurd (omega (arith, few))
its_answer budget tasks answers ledgers (then_next b task [] answer ledger others kept good unspent are) few =
    ap suc (its_answer (b - length ledger.entries) [] others kept are (omega arith))
its_answer budget tasks answers ledgers (then_next b task (next ∷ later) answer ledger others kept good unspent are) few = absurd (omega (arith, few))
