-- An answer by the rules that are made is one by all hard rules, with its numbers at their places.
use Rattle.std.proofs.Common.{◌≡◌, ◌+◌, ◌≤◌, ◌<◌, ℕ, Bool, true, List, [], map, refl, sym, ap, ◌∙◌, subst, length, arith}
use Rattle.std.specs.Prelude.{◌==◌, IfSome}
use Rattle.std.specs.List.{list_all}
use Rattle.solv_pool.specs.Prelude.{catalog_of, hard_rules, marks_of, marked}
use Rattle.solv_pool.specs.Laws.{ClausesNamePackages, ClausesSayTheRule}
use Rattle.solv_pool.specs.declared.tasks.Task.{Task}
use Rattle.solv_rules.specs.Books.{is_bookable}
use Rattle.solv_core.specs.declared.ledger.Entry.{Entry}
use Rattle.solv_core.specs.declared.ledger.Ledger.{Ledger}
use Rattle.solv_leaving.specs.Inner.Leaving.{LeavesOut}
use Rattle.solv_remedy.specs.Remedies.{droppable_rules, most_runs}
use Rattle.solv_over.specs.Inner.Places.{ArePlaces, PlacesOf, clause_place, entry_at, is_of_inside, ledger_at, put_before, rule_place, run_at}
use Rattle.solv_over.specs.Inner.Thinned.{Thinned}
use Rattle.solv_over.proofs.Flagging.{few_same}
use Rattle.solv_over.proofs.Moved.{first_before, ledger_moved, problems_moved, runs_before, runs_many, entries_many}
use Rattle.solv_over.proofs.Placing.{place, clause_at}
use Rattle.solv_over.proofs.Tables.{clause_is, place_is}
use Rattle.solv_over.proofs.Thinning.{made_among}
use Rattle.solv_answers.specs.Answers.{AreRuns, IsAnswer, IsAnswered, IsLedgerOf, is_spent}
use Rattle.solv_answers.specs.Inner.Made.{made_rules, answer_at, AreMadeRuns, IsAnsweredMade, IsMadeAnswer, IsMadeLedger}
use Rattle.solv_answers.specs.declared.answers.Answer.{Answer}
use Rattle.solv_answers.specs.declared.answers.Answer.TheVariants as answer

-- whether the budget is spent does not change
spent_same : (places : PlacesOf) (given : Answer) → is_spent (answer_at places given) ≡ is_spent given
spent_same places (answer.Transaction trail set made ordered) = refl
spent_same places (answer.Problems problems) = refl
spent_same places answer.Spent = refl

-- where nothing was learnt no clause has a place
pub ledger_of_none : (at other : ℕ → ℕ) (flags : List Bool → List Bool) (ledger : Ledger) → ledger.entries ≡ [] → ledger_at at flags ledger ≡ ledger_at other flags ledger
ledger_of_none at other flags ledger none =
    let of : List Entry → Ledger = λ entries. record { budget = ledger.budget; runs = map (run_at flags) ledger.runs; entries = entries } in
    ap of (ap (map (entry_at at)) none ∙ sym (ap (map (entry_at other)) none))

module _ (task : Task) (left : List Bool) (out : LeavesOut (catalog_of task) task.flags task.jobs (marks_of task) left) (names : ClausesNamePackages) (say : ClausesSayTheRule)
    (bookable : list_all (is_bookable (catalog_of task)) (hard_rules task) ≡ true) (places : PlacesOf) (are : ArePlaces task left places) where
  abbrev thin : Thinned left (made_rules task left) (hard_rules task)
  thin = made_among (catalog_of task) task.flags task.jobs (marks_of task) left

  rule_is : (k : ℕ) → rule_place places k ≡ place thin k
  rule_is k = are.rule k ∙ sym (place_is (catalog_of task) task.flags task.jobs (marks_of task) left k)

  clauses_are : (k : ℕ) → clause_place places k ≡ clause_at (catalog_of task) thin k
  clauses_are k = are.clause k ∙ sym (clause_is (catalog_of task) task.flags task.jobs (marks_of task) left k)

  runs_moved : (ledger : Ledger) → AreMadeRuns task left ledger.runs → AreRuns task (ledger_at (clause_place places) (put_before places.more) ledger).runs
  runs_moved ledger runs = record {
    first = first_before (catalog_of task) task.flags task.jobs (marks_of task) left out places.more are.more ledger.runs runs.first;
    fixed_on = runs_before (catalog_of task) task.flags task.jobs (marks_of task) left out places.more are.more ledger.runs runs.fixed_on;
    few =
        let many = runs_many (catalog_of task) task.flags task.jobs (marks_of task) left out (clause_place places) places.more ledger in
        let droppable : most_runs (droppable_rules (made_rules task left)) ≡ most_runs (droppable_rules (hard_rules task)) = ap most_runs (sym (few_same thin)) in
        let few = runs.few in
        omega (arith, many, droppable, few);
    later = λ more. runs.later (let many = runs_many (catalog_of task) task.flags task.jobs (marks_of task) left out (clause_place places) places.more ledger in omega (arith, many, more));
  }

  pub moved_answered : (budget : ℕ) (given : Answer) (ledger : Ledger) → list_all (is_of_inside (length task.universe.packages) (marked left)) ledger.entries ≡ true
      → IsAnsweredMade task left budget given ledger → IsAnswered task budget (answer_at places given) (ledger_at (clause_place places) (put_before places.more) ledger)
  moved_answered budget given ledger inside made = record {
    is = by given made.is;
    learnt = record {
      good = ledger_moved (catalog_of task) task.flags task.jobs (marks_of task) left out places.more are.more (clause_place places) clauses_are names bookable ledger inside made.learnt.runs.fixed_on made.learnt.good;
      of_budget = made.learnt.of_budget;
      runs = runs_moved ledger made.learnt.runs;
      spent =
          spent_same places given ∙ made.learnt.spent
          ∙ ap (λ n. n == budget + 1) (sym (entries_many (catalog_of task) task.flags task.jobs (marks_of task) left out (clause_place places) places.more ledger));
    };
  }
    where
      by : (a : Answer) → IsMadeAnswer task left a → IsAnswer task (answer_at places a)
      by (answer.Transaction trail set made ordered) is = is
      by (answer.Problems problems) is = record {
        good = problems_moved (catalog_of task) task.flags task.jobs (marks_of task) left out (clause_place places) (rule_place places) clauses_are rule_is names bookable say problems is.0;
        none = is.1;
      }
      by answer.Spent is = tt
