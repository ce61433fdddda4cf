-- Rules whose clauses are counted one after another, and are not kept.
use Rattle.std.proofs.Common.{◌≡◌, ◌+◌, ℕ, ℤ, Bool, true, List, [], ◌∷◌, ◌++◌, None, refl, sym, ap, ◌∙◌, arith}
use Rattle.std.specs.Prelude.{Result, Ok, Err, flat_map}
use Rattle.std.specs.List.{list_all}
use Rattle.solv_list.proofs.Lists.{all_left}
use Rattle.solv_pool.specs.Prelude.{Catalog, rule_clauses, words_of_all, HardRule, shape_of, package_rules, infarch_rules, update_rules, feature_rules, job_rules, best_job_rules, best_update_rules, hard_rules_by}
use Rattle.solv_pool.specs.declared.job_marks.Marks.{Marks}
use Rattle.solv_pool.specs.declared.jobs.Job.{Job}
use Rattle.solv_pool.specs.declared.tasks.Flags.{Flags}
use Rattle.solv_rules.specs.Books.{first_fault, is_bookable, overrun, rich_fault, IsDue}
use Rattle.solv_rules.specs.Inner.Books.{or_else, rule_fault}
use Rattle.solv_rules.specs.Inner.Drafting.{HasTaken, HasWeighed, IsCounted, TakesRule, Weighs}
use Rattle.solv_rules.specs.declared.drafts.Draft.{Draft}
use Rattle.solv_rules.specs.declared.fault.BookFault.{BookFault}
use Rattle.solv_rules.proofs.Bookkeeping.{added, due_first, fits_first}
use Rattle.solv_rules.proofs.Fronts.{due_of_all, fits_join}
use Rattle.solv_rules.proofs.Taking.{failed_by, words_append}

-- these rules are left, so that the words of all are counted after others
pub record AreToWeigh (catalog : Catalog) (rest all : List HardRule) (old mid : Draft) : Type 0 where
  pub words : mid.words + words_of_all (flat_map (rule_clauses catalog) rest) ≡ old.words + words_of_all (flat_map (rule_clauses catalog) all)
  pub draft : IsCounted mid
  pub due : first_fault catalog mid.words rest ≡ first_fault catalog old.words all

pub all_to_weigh : (catalog : Catalog) (all : List HardRule) (old : Draft) → IsCounted old → AreToWeigh catalog all all old old
all_to_weigh catalog all old h = record { words = refl; draft = h; due = refl }

pub weigh_next : {T : Type 0} (catalog : Catalog) (r : HardRule) (rest all : List HardRule) (owner : ℕ) (q : Result T BookFault) (x : T) (old mid new : Draft)
    → q ≡ Ok x → TakesRule (rich_fault catalog (shape_of r)) (rule_clauses catalog r) owner q mid new → AreToWeigh catalog (r ∷ rest) all old mid → AreToWeigh catalog rest all old new
weigh_next catalog r rest all owner q x old mid new fine a left =
    let t : HasTaken (rule_clauses catalog r) owner mid new = added q x (HasTaken (rule_clauses catalog r) owner mid new) fine a.ok in
    let none : rich_fault catalog (shape_of r) ≡ None = added q x (rich_fault catalog (shape_of r) ≡ None) fine a.sound in
    let fits : rule_fault catalog mid.words r ≡ None = ap (λ o. or_else o (overrun mid.words (rule_clauses catalog r))) none ∙ t.fits in
    let more = t.words in
    let before = left.words in
    let both : words_of_all (flat_map (rule_clauses catalog) (r ∷ rest)) ≡ words_of_all (rule_clauses catalog r) + words_of_all (flat_map (rule_clauses catalog) rest) = words_append (rule_clauses catalog r) (flat_map (rule_clauses catalog) rest) in
    record {
      words = omega (arith, more, before, both);
      draft = t.draft;
      due = ap (λ n. first_fault catalog n rest) t.words ∙ sym (fits_first catalog mid.words r rest fits) ∙ left.due;
    }

pub weigh_refused : {T : Type 0} (catalog : Catalog) (r : HardRule) (rest all : List HardRule) (owner : ℕ) (q : Result T BookFault) (fault : BookFault) (old mid new : Draft)
    → q ≡ Err fault → TakesRule (rich_fault catalog (shape_of r)) (rule_clauses catalog r) owner q mid new → AreToWeigh catalog (r ∷ rest) all old mid → IsDue (first_fault catalog old.words all) fault
weigh_refused catalog r rest all owner q fault old mid new failed a left =
    let due : IsDue (rule_fault catalog mid.words r) fault = failed_by q fault (rule_fault catalog mid.words r) failed a.err in
    let whole : IsDue (first_fault catalog mid.words (r ∷ rest)) fault = due_first fault (rule_fault catalog mid.words r) (first_fault catalog (mid.words + words_of_all (rule_clauses catalog r)) rest) due in
    rw left.due at whole

pub all_weighed : (catalog : Catalog) (rest all : List HardRule) (old new : Draft) → rest ≡ [] → AreToWeigh catalog rest all old new → HasWeighed catalog all old new
all_weighed catalog rest all old new none left =
    let nothing : words_of_all (flat_map (rule_clauses catalog) rest) ≡ 0 = ap (λ l. words_of_all (flat_map (rule_clauses catalog) l)) none in
    let before = left.words in
    record {
      words = omega (arith, nothing, before);
      draft = left.draft;
      fits = sym left.due ∙ ap (λ l. first_fault catalog new.words l) none;
    }

-- some rules, and what is left after them
pub part_weighed : {T : Type 0} (catalog : Catalog) (part rest : List HardRule) (q : Result T BookFault) (x : T) (mid new : Draft) → q ≡ Ok x → Weighs catalog part q mid new
    → first_fault catalog mid.words (part ++ rest) ≡ first_fault catalog new.words rest
part_weighed catalog part rest q x mid new fine a =
    let h : HasWeighed catalog part mid new = added q x (HasWeighed catalog part mid new) fine a.ok in
    fits_join catalog mid.words part rest h.fits ∙ ap (λ n. first_fault catalog n rest) (sym h.words)

pub part_refused : {T : Type 0} (catalog : Catalog) (part rest : List HardRule) (q : Result T BookFault) (fault : BookFault) (mid new : Draft) → q ≡ Err fault → Weighs catalog part q mid new
    → IsDue (first_fault catalog mid.words (part ++ rest)) fault
part_refused catalog part rest q fault mid new failed a = due_of_all catalog mid.words part rest fault (failed_by q fault (first_fault catalog mid.words part) failed a.err)

-- the rules of packages are the first hard rules
first_of_seven : (test : HardRule → Bool) (a b c d e f g : List HardRule) → list_all test (a ++ b ++ c ++ d ++ e ++ f ++ g) ≡ true → list_all test a ≡ true
first_of_seven test a b c d e f g h =
    all_left test a b (all_left test (a ++ b) c (all_left test (a ++ b ++ c) d (all_left test (a ++ b ++ c ++ d) e (all_left test (a ++ b ++ c ++ d ++ e) f (all_left test (a ++ b ++ c ++ d ++ e ++ f) g h)))))

pub packages_bookable : (catalog : Catalog) (flags : Flags) (jobs : List Job) (marks : Marks) → list_all (is_bookable catalog) (hard_rules_by catalog flags jobs marks) ≡ true → list_all (is_bookable catalog) (package_rules catalog marks) ≡ true
packages_bookable catalog flags jobs marks h =
    first_of_seven (is_bookable catalog) (package_rules catalog marks) (infarch_rules catalog flags) (update_rules catalog flags marks jobs) (feature_rules catalog flags marks) (job_rules catalog jobs) (best_job_rules catalog jobs) (best_update_rules catalog flags marks jobs) h
