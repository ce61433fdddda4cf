use Rattle.std.proofs.Common.{◌≡◌, true, List, length, sym, ap, ◌∙◌, subst}
use Rattle.std.specs.List.{list_all}
use Rattle.solv_pool.specs.Prelude.{Catalog, catalog_of, hard_rules_by, HardRule, are_over}
use Rattle.solv_pool.specs.declared.tasks.Task.{Task}
use Rattle.solv_rules.specs.Books.{is_bookable, read_rules}
use Rattle.solv_questions.specs.Questions.{Request, request_of, rules_of}
use Rattle.solv_decide.proofs.Answering.{is_lawful, same_count}
use Rattle.solv_decide.proofs.Whole.{asked_for, owners_fit, length_read}
use Rattle.solv_rules.proofs.InRange.{clauses_over}
use Rattle.solv_answers.specs.Answers.{IsPrepared}
use Rattle.solv_answers.specs.declared.preparing.Prepared.{Prepared}
use Rattle.solv_call_tests.proofs.switch_tests.run_plainly_on.Goals as goal

-- the rules of the book are those of the request
same_rules : (task : Task) (prepared : Prepared) → IsPrepared task prepared → read_rules prepared.book.rules ≡ rules_of (request_of task prepared.marks)
same_rules task prepared p = p.rules ∙ ap (λ marks. hard_rules_by (catalog_of task) task.flags task.jobs marks) (sym p.marks)

pub new-requires-clause-rules : goal.new-requires-clause-rules
new-requires-clause-rules c = same_rules c.args.task.now c.args.prepared.now c.requires.prepared

pub run-requires-clause-enabled : goal.run-requires-clause-enabled
run-requires-clause-enabled c =
    let rules : List HardRule = read_rules c.args.prepared.now.book.rules in
    owners_fit (catalog_of c.args.task.now) rules c.args.core.now.made.owners (length c.args.enabled.now)
    (ap (λ k. k.owners) c.requires.core ∙ c.requires.prepared.book.owners) (c.requires.each ∙ sym (length_read c.args.prepared.now.book.rules))

pub run-requires-clause-guide : goal.run-requires-clause-guide
run-requires-clause-guide c =
    let catalog : Catalog = catalog_of c.args.task.now in
    let rules : List HardRule = read_rules c.args.prepared.now.book.rules in
    let r : Request = request_of c.args.task.now c.args.prepared.now.marks in
    let B : List HardRule → Type 0 = λ all. list_all (is_bookable catalog) all ≡ true in
    is_lawful r c.in_ok-phases.phases c.args.core.now.made
    (asked_for r c.in_ok-phases.phases c.args.core.now.made c.args.prepared.now.book.clauses c.args.prepared.now.book.owners rules
    c.in_ok-phases.ensures c.requires.core c.requires.prepared.book.clauses c.requires.prepared.book.owners
    (same_rules c.args.task.now c.args.prepared.now c.requires.prepared) c.requires.formed c.holds_each_once.ensures.operands_before
    (ap (are_over (length catalog.universe.packages)) c.requires.prepared.book.clauses
    ∙ clauses_over catalog c.clauses_name_packages.ensures rules (subst B (sym c.requires.prepared.rules) c.requires.prepared.bookable)))
    c.plans_ask_the_questions.ensures c.questions_keep_the_law.ensures

pub run-requires-clause-packages : goal.run-requires-clause-packages
run-requires-clause-packages c =
    let catalog : Catalog = catalog_of c.args.task.now in
    let rules : List HardRule = read_rules c.args.prepared.now.book.rules in
    let r : Request = request_of c.args.task.now c.args.prepared.now.marks in
    let B : List HardRule → Type 0 = λ all. list_all (is_bookable catalog) all ≡ true in
    same_count r c.in_ok-phases.phases c.args.core.now.made
    (asked_for r c.in_ok-phases.phases c.args.core.now.made c.args.prepared.now.book.clauses c.args.prepared.now.book.owners rules
    c.in_ok-phases.ensures c.requires.core c.requires.prepared.book.clauses c.requires.prepared.book.owners
    (same_rules c.args.task.now c.args.prepared.now c.requires.prepared) c.requires.formed c.holds_each_once.ensures.operands_before
    (ap (are_over (length catalog.universe.packages)) c.requires.prepared.book.clauses
    ∙ clauses_over catalog c.clauses_name_packages.ensures rules (subst B (sym c.requires.prepared.rules) c.requires.prepared.bookable)))
    c.plans_ask_the_questions.ensures
