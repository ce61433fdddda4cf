use Rattle.std.proofs.Common.{◌≡◌, ◌∙◌, ℕ, Bool, List, true, inl, inr, ap, length, subst, sym}
use Rattle.std.specs.List.{list_all}
use Rattle.std.proofs.lemmas.Bool.{cases_Bool}
use Rattle.solv_pool.specs.Prelude.{catalog_of, marks_of, marked}
use Rattle.solv_leaving.specs.Inner.Leaving.{LeavesOut}
use Rattle.solv_core.specs.declared.ledger.Ledger.{Ledger}
use Rattle.solv_over.specs.Inner.Places.{ArePlaces, PlacesOf, clause_place, is_of_inside, ledger_at, put_before, with_clauses}
use Rattle.solv_over.specs.Inner.Sums.{unmade_before}
use Rattle.solv_answers.specs.Answers.{IsAnswered}
use Rattle.solv_answers.specs.Inner.Made.{answer_at}
use Rattle.solv_answers.specs.declared.answers.Answer.{Answer}
use Rattle.solv_answers.proofs.MovedAnswers.{moved_answered, ledger_of_none}
use Rattle.solv_answers.proofs.lean.moved.Goals as goal

pub of-requires-clause-out : goal.of-requires-clause-out
of-requires-clause-out c =
    let task = c.args.task.now in
    subst (λ (l : List Bool). LeavesOut (catalog_of task) task.flags task.jobs (marks_of task) l) (sym c.held-left.ensures) c.requires.prepared.left.out

pub returns : goal.returns
returns c =
    let task = c.args.task.now in
    let left : List Bool = c.args.prepared.now.marks.left_out in
    let given = c.args.answered in
    let places : PlacesOf = c.in_ok-places.places in
    let inside : list_all (is_of_inside (length task.universe.packages) (marked left)) given.ledger.entries ≡ true =
    ap (λ (n : ℕ). list_all (is_of_inside n (marked left)) given.ledger.entries) (sym c.count.ensures)
    ∙ ap (λ (l : List Bool). list_all (is_of_inside c.count.result (marked l)) given.ledger.entries) (sym c.held-left.ensures)
    ∙ sym c.is_inside.ensures ∙ c.if-not-is_inside.false in
    let at : (tables : PlacesOf) → ArePlaces task left tables → IsAnswered task c.args.budget (answer_at tables given.answer) (ledger_at (clause_place tables) (put_before tables.more) given.ledger) =
    λ tables are. moved_answered task left c.requires.prepared.left.out c.clauses_name_packages.ensures c.clauses_say_the_rule.ensures c.requires.prepared.all_bookable tables are c.args.budget given.answer given.ledger inside c.requires.made in
    let answered : IsAnswered task c.args.budget (answer_at places given.answer) (ledger_at (clause_place places) (put_before places.more) given.ledger) =
    elim (cases_Bool c.names_some-names.result) [
      | inl names ↦ at places (subst (λ (l : List Bool). ArePlaces task l places) c.held-left.ensures (c.in_ok-places.ensures.told names))
      | inr none ↦
          let table : List ℕ = unmade_before (catalog_of task) c.held-left.result.now in
          let are : ArePlaces task left (with_clauses table places) = subst (λ (l : List Bool). ArePlaces task l (with_clauses table places)) c.held-left.ensures c.in_ok-places.ensures.rules in
          subst (λ (a : Answer). IsAnswered task c.args.budget a (ledger_at (clause_place places) (put_before places.more) given.ledger)) (c.names_some-names.ensures.answer none (with_clauses table places) places)
          (subst (λ (l : Ledger). IsAnswered task c.args.budget (answer_at (with_clauses table places) given.answer) l)
          (ledger_of_none (clause_place (with_clauses table places)) (clause_place places) (put_before places.more) given.ledger (c.names_some-names.ensures.learnt none)) (at (with_clauses table places) are))
    ] in
    subst (λ (a : Answer). IsAnswered task c.args.budget a c.in_ok-ledger.ledger) (sym c.in_ok-answer.ensures)
    (subst (λ (l : Ledger). IsAnswered task c.args.budget (answer_at places given.answer) l) (sym c.in_ok-ledger.ensures) answered)
