-- What a decision over the rules that are made comes to.
use Rattle.std.proofs.Common.{◌≡◌, ◌≤◌, ◌+◌, ℕ, Bool, true, List, [], ◌∷◌, sym, ap, ◌∙◌, subst, length}
use Rattle.std.specs.Prelude.{◌==◌, flat_map, replicate}
use Rattle.std.proofs.lemmas.List.{length-map}
use Rattle.solv_pool.specs.Prelude.{catalog_of, rule_clauses, rule_with}
use Rattle.solv_pool.specs.declared.job_marks.Marks.{Marks}
use Rattle.solv_pool.specs.declared.tasks.Task.{Task}
use Rattle.solv_core.specs.Cores.{CoreOf}
use Rattle.solv_core.specs.Ledgers.{IsGoodLedger}
use Rattle.solv_core.specs.Inner.Holding.{IsHeldBy}
use Rattle.solv_core.specs.Inner.Running.{is_spent_verdict}
use Rattle.solv_core.specs.declared.verdicts.Verdict.{Verdict}
use Rattle.solv_core.specs.declared.verdicts.Verdict.TheVariants.{Sat, Unsat}
use Rattle.solv_core.specs.declared.verdicts.Trail.{Trail}
use Rattle.solv_derive.specs.declared.logs.Log.{Log}
use Rattle.solv_remedy.specs.Inner.Remedies.{IsMadeFor}
use Rattle.solv_rules.specs.Books.{owners_from}
use Rattle.solv_questions.specs.Questions.{asks, request_of}
use Rattle.solv_decide.specs.Deciding.{IsRefuted, IsSolution}
use Rattle.solv_decide.specs.Inner.Deciding.{IsAskedFor, IsDecided}
use Rattle.solv_decide.specs.declared.deciding.Decided.{Decided}
use Rattle.solv_answers.specs.Inner.Made.{all_made, made_core, made_request}
use Rattle.solv_answers.specs.Inner.Lean.{HasDecided, IsMade}
use Rattle.solv_answers.specs.declared.preparing.Prepared.{Prepared}

module _ (task : Task) (prepared : Prepared) (is : IsMade task prepared) where
  abbrev left : List Bool
  left = prepared.marks.left_out

  abbrev book_core : CoreOf
  book_core = record { clauses = prepared.book.clauses; owners = prepared.book.owners; packages = length task.universe.packages }

  core_is : book_core ≡ made_core task left
  core_is = λ i. record {
    clauses = (is.book.clauses ∙ ap (flat_map (rule_clauses (catalog_of task))) is.rules) i;
    owners = (is.book.owners ∙ ap (owners_from (catalog_of task) 0) is.rules) i;
    packages = length task.universe.packages;
  }

  enabled_are : replicate (length prepared.book.rules.list) true ≡ all_made task left
  enabled_are = ap (λ n. replicate n true) (sym (length-map prepared.book.rules.list (rule_with prepared.book.rules.sets)) ∙ ap length is.rules)

  pub has_decided : (budget : ℕ) (decided : Decided) → decided.ledger.budget ≡ budget → length decided.ledger.entries ≤ decided.ledger.budget + 1
      → IsAskedFor (request_of task prepared.marks) decided.phases decided.core.made → IsHeldBy decided.core decided.ledger → decided.core.made ≡ book_core
      → decided.ledger.runs ≡ (record { enabled = replicate (length prepared.book.rules.list) true; kept = [] }) ∷ []
      → IsGoodLedger prepared.book.clauses prepared.book.owners (length task.universe.packages) (asks (request_of task prepared.marks)) decided.ledger
      → is_spent_verdict decided.verdict ≡ (length decided.ledger.entries == budget + 1)
      → IsDecided (request_of task prepared.marks) (replicate (length prepared.book.rules.list) true) book_core decided.verdict
      → HasDecided task prepared decided
  has_decided budget decided budget_is few asked held core runs good spent so =
      let G : Marks → Type 0 = λ m. IsGoodLedger prepared.book.clauses prepared.book.owners (length task.universe.packages) (asks (request_of task m)) decided.ledger in
      let C : CoreOf → Type 0 = λ c. IsGoodLedger c.clauses c.owners c.packages (asks (made_request task left)) decided.ledger in
      let A : Marks → Type 0 = λ m. IsAskedFor (request_of task m) decided.phases decided.core.made in
      let M : Marks → Type 0 = λ m. IsDecided (request_of task m) (replicate (length prepared.book.rules.list) true) book_core decided.verdict in
      let E : List Bool → Type 0 = λ l. IsDecided (made_request task left) l book_core decided.verdict in
      let K : CoreOf → Type 0 = λ c. IsDecided (made_request task left) (all_made task left) c decided.verdict in
      record {
        begun = record {
          good = subst C core_is (subst G is.left.marks_are good);
          runs = runs ∙ ap (λ l. (record { enabled = l; kept = [] }) ∷ []) enabled_are;
          few = few;
        };
        asked = subst A is.left.marks_are asked;
        held = held;
        core = core ∙ core_is;
        spent = spent ∙ ap (λ n. length decided.ledger.entries == n + 1) (sym budget_is);
        decided_so = subst K core_is (subst E enabled_are (subst M is.left.marks_are so));
      }

  -- the core and the book are of the rules that are made
  pub made_for : (decided : Decided) → HasDecided task prepared decided → IsMadeFor (made_request task left) decided.phases decided.core.made prepared.book
  made_for decided has = record {
    asked = has.asked;
    owners = sym (ap (λ c. c.owners) (has.core ∙ sym core_is));
    rules = is.rules;
    bookable = is.bookable;
  }

  -- a refutation is one of them
  pub refuted : (decided : Decided) (log : Log) → HasDecided task prepared decided → decided.verdict ≡ Unsat log → IsRefuted (made_request task left) (all_made task left) (made_core task left) log
  refuted decided log has e =
      let V : Verdict → Type 0 = λ v. IsDecided (made_request task left) (all_made task left) (made_core task left) v in
      subst V e has.decided_so

  -- and so is a set
  pub found : (decided : Decided) (trail : Trail) → HasDecided task prepared decided → decided.verdict ≡ Sat trail → IsSolution (made_request task left) (all_made task left) trail
  found decided trail has e =
      let V : Verdict → Type 0 = λ v. IsDecided (made_request task left) (all_made task left) (made_core task left) v in
      subst V e has.decided_so
