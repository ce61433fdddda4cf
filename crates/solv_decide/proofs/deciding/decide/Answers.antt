use Rattle.std.proofs.Common.{◌≡◌, Bool, true, List, [], ◌∷◌, ◌++◌, length, sym, ap, ◌∙◌, subst}
use Rattle.std.specs.Prelude.{replicate}
use Rattle.std.proofs.lemmas.List.{length-replicate}
use Rattle.solv_pool.specs.Prelude.{Catalog, catalog_of, HardRule, are_over}
use Rattle.solv_core.specs.Cores.{CoreOf}
use Rattle.solv_core.specs.Ledgers.{IsGoodLedger}
use Rattle.solv_core.specs.Inner.Ledgers.{run_of}
use Rattle.solv_rules.specs.Books.{read_rules}
use Rattle.solv_questions.specs.Questions.{Request, request_of, asks}
use Rattle.solv_decide.specs.Inner.Deciding.{IsAskedFor, IsDecided}
use Rattle.solv_decide.proofs.Whole.{asked_for, owners_fit, length_read}
use Rattle.solv_rules.proofs.InRange.{clauses_over}
use Rattle.solv_decide.proofs.deciding.decide.Goals as goal

is_asked : (c : goal.After-ledger-1) → IsAskedFor (request_of c.args.task.now c.args.marks.now) c.in_ok-phases.phases c.in_ok-core.core.made
is_asked c =
    let catalog : Catalog = catalog_of c.args.task.now in
    let rules : List HardRule = read_rules c.args.book.now.rules in
    asked_for (request_of c.args.task.now c.args.marks.now) c.in_ok-phases.phases c.in_ok-core.core.made c.args.book.now.clauses c.args.book.now.owners rules
    c.in_ok-phases.ensures (ap (λ k. k.made) c.in_ok-core.ensures.core) c.requires.book.clauses c.requires.book.owners c.requires.rules c.requires.formed c.holds_each_once.ensures.operands_before
    (ap (are_over (length catalog.universe.packages)) c.requires.book.clauses ∙ clauses_over catalog c.clauses_name_packages.ensures rules c.requires.bookable)

enabled_are : (c : goal.After-ledger-1) → c.deref.result.now ≡ replicate (length c.args.book.now.rules.list) true
enabled_are c = c.deref.ensures.value ∙ c.in_ok-enabled.ensures ∙ ap (λ n. replicate n true) (c.len.ensures ∙ ap (λ r. length r.list) c.rules.ensures)

pub solve-requires-clause-enabled : goal.solve-requires-clause-enabled
solve-requires-clause-enabled c =
    let rules : List HardRule = read_rules c.args.book.now.rules in
    owners_fit (catalog_of c.args.task.now) rules c.in_ok-core.core.made.owners (length c.deref.result.now)
    (ap (λ k. k.made.owners) c.in_ok-core.ensures.core ∙ c.requires.book.owners)
    (ap length (enabled_are c) ∙ length-replicate (length c.args.book.now.rules.list) true ∙ sym (length_read c.args.book.now.rules))

pub solve-requires-clause-asked : goal.solve-requires-clause-asked
solve-requires-clause-asked c = (request_of c.args.task.now c.args.marks.now, is_asked c)

pub returns-clause-good : goal.returns-clause-good
returns-clause-good c =
    let catalog : Catalog = catalog_of c.args.task.now in
    let rules : List HardRule = read_rules c.args.book.now.rules in
    let r : Request = request_of c.args.task.now c.args.marks.now in
    let asked : IsAskedFor r c.in_ok-phases.phases c.in_ok-core.core.made =
    asked_for r c.in_ok-phases.phases c.in_ok-core.core.made c.args.book.now.clauses c.args.book.now.owners rules
    c.in_ok-phases.ensures (ap (λ k. k.made) c.in_ok-core.ensures.core) c.requires.book.clauses c.requires.book.owners c.requires.rules c.requires.formed c.holds_each_once.ensures.operands_before
    (ap (are_over (length catalog.universe.packages)) c.requires.book.clauses ∙ clauses_over catalog c.clauses_name_packages.ensures rules c.requires.bookable) in
    let core : CoreOf = c.in_ok-core.core.made in
    let L : CoreOf → Type 0 = λ k. IsGoodLedger k.clauses k.owners k.packages (asks r) c.solve.new.ledger in
    subst L (ap (λ k. k.made) c.in_ok-core.ensures.core) (c.solve.ensures.good r asked (c.new-ledger.ensures.good core.clauses core.owners core.packages (asks r)))

pub returns-clause-decided : goal.returns-clause-decided
returns-clause-decided c =
    let catalog : Catalog = catalog_of c.args.task.now in
    let rules : List HardRule = read_rules c.args.book.now.rules in
    let r : Request = request_of c.args.task.now c.args.marks.now in
    let asked : IsAskedFor r c.in_ok-phases.phases c.in_ok-core.core.made =
    asked_for r c.in_ok-phases.phases c.in_ok-core.core.made c.args.book.now.clauses c.args.book.now.owners rules
    c.in_ok-phases.ensures (ap (λ k. k.made) c.in_ok-core.ensures.core) c.requires.book.clauses c.requires.book.owners c.requires.rules c.requires.formed c.holds_each_once.ensures.operands_before
    (ap (are_over (length catalog.universe.packages)) c.requires.book.clauses ∙ clauses_over catalog c.clauses_name_packages.ensures rules c.requires.bookable) in
    let on : List Bool = replicate (length c.args.book.now.rules.list) true in
    let same : c.deref.result.now ≡ on = c.deref.ensures.value ∙ c.in_ok-enabled.ensures ∙ ap (λ n. replicate n true) (c.len.ensures ∙ ap (λ x. length x.list) c.rules.ensures) in
    let D : List Bool → Type 0 = λ l. IsDecided r l c.in_ok-core.core.made c.in_ok-verdict.verdict in
    let K : CoreOf → Type 0 = λ k. IsDecided r on k c.in_ok-verdict.verdict in
    subst K (ap (λ k. k.made) c.in_ok-core.ensures.core) (subst D same (c.in_ok-verdict.ensures.decided r asked))

pub returns-clause-asked : goal.returns-clause-asked
returns-clause-asked c =
    let catalog : Catalog = catalog_of c.args.task.now in
    let rules : List HardRule = read_rules c.args.book.now.rules in
    let r : Request = request_of c.args.task.now c.args.marks.now in
    let asked : IsAskedFor r c.in_ok-phases.phases c.in_ok-core.core.made =
    asked_for r c.in_ok-phases.phases c.in_ok-core.core.made c.args.book.now.clauses c.args.book.now.owners rules
    c.in_ok-phases.ensures (ap (λ k. k.made) c.in_ok-core.ensures.core) c.requires.book.clauses c.requires.book.owners c.requires.rules c.requires.formed c.holds_each_once.ensures.operands_before
    (ap (are_over (length catalog.universe.packages)) c.requires.book.clauses ∙ clauses_over catalog c.clauses_name_packages.ensures rules c.requires.bookable) in
    let A : CoreOf → Type 0 = λ k. IsAskedFor r c.in_ok-phases.phases k in
    subst A (sym c.solve.ensures.run.core) asked

pub returns-clause-core : goal.returns-clause-core
returns-clause-core c = c.solve.ensures.run.core ∙ ap (λ k. k.made) c.in_ok-core.ensures.core

pub solve-requires-clause-held : goal.solve-requires-clause-held
solve-requires-clause-held c = c.in_ok-core.ensures.held c.new-ledger.result

-- a core that has learnt nothing keeps nothing
pub returns-clause-run : goal.returns-clause-run
returns-clause-run c =
    c.in_ok-verdict.ensures.run.run
    ∙ ap (λ v. v ++ run_of c.in_ok-core.core c.deref.result.now c.new-ledger.result.entries ∷ []) c.new-ledger.ensures.runs
    ∙ ap (λ k. run_of k c.deref.result.now c.new-ledger.result.entries ∷ []) c.in_ok-core.ensures.core
    ∙ ap (λ l. (record { enabled = l; kept = [] }) ∷ []) (c.deref.ensures.value ∙ c.in_ok-enabled.ensures ∙ ap (λ n. replicate n true) (c.len.ensures ∙ ap (λ r. length r.list) c.rules.ensures))
