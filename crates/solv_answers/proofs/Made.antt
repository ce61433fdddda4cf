-- What a task is prepared with by the rules that are made.
use Rattle.std.proofs.Common.{◌≡◌, ◌≤◌, ◌+◌, ℕ, Bool, true, List, [], None, sym, ap, ◌∙◌, subst, length, arith}
use Rattle.std.specs.Prelude.{flat_map, nat_le}
use Rattle.std.specs.List.{list_all}
use Rattle.std.proofs.lemmas.Bool.Decides.{nat_tests}
use Rattle.solv_pool.specs.Prelude.{IsOver, catalog_of, rule_clauses, words_of_all, hard_rules, hard_rules_by, marks_of, HardRule}
use Rattle.solv_pool.specs.declared.job_marks.Marks.{Marks}
use Rattle.solv_pool.specs.declared.tasks.Task.{Task}
use Rattle.solv_prov.specs.Index.{Index, IsIndexOf}
use Rattle.solv_jobs.specs.Marking.{HasMarks}
use Rattle.solv_rules.specs.Books.{first_fault, is_bookable, most_words, read_rules}
use Rattle.solv_pool.specs.TaskForms.{asks_in_form}
use Rattle.solv_rules.specs.Inner.Books.{HardRulesAreBookable}
use Rattle.solv_leaving.specs.Inner.Leaving.{LeavesOut, leaving}
use Rattle.solv_leaving.proofs.NoneOut.{none_left_out}
use Rattle.solv_leaving.specs.Inner.Fitting.{AllFit, words_left_out}
use Rattle.solv_answers.specs.Inner.Made.{made_rules}
use Rattle.solv_answers.specs.Inner.Fronts.{IsBookedBy}
use Rattle.solv_answers.specs.Inner.Lean.{HasLeft, IsMade}
use Rattle.solv_answers.specs.Answers.{IsPrepared}
use Rattle.solv_answers.specs.declared.preparing.Prepared.{Prepared}

-- the marks with nothing left out have an entry for each package too
pub marks_whole : (count : ℕ) (marks : Marks) (left : List Bool) → HasMarks count (leaving marks left) → HasMarks count marks
marks_whole count marks left each = record {
  update = each.update;
  dup = each.dup;
  verify = each.verify;
  multiversion = each.multiversion;
  allow_uninstall = each.allow_uninstall;
  erased = each.erased;
  favour = each.favour;
}

-- of all hard rules a book can be made
all_bookable : (task : Task) (index : Index) (marks : Marks) → HardRulesAreBookable → IsOver task.pool task.universe → IsIndexOf index (catalog_of task)
    → list_all (asks_in_form (catalog_of task)) task.universe.packages ≡ true → HasLeft task marks → HasMarks (length task.universe.packages) marks
    → list_all (is_bookable (catalog_of task)) (hard_rules task) ≡ true
all_bookable task index marks law over index_of formed left each =
    let M : Marks → Type 0 = λ m. HasMarks (length task.universe.packages) m in
    let whole = marks_whole (length task.universe.packages) (marks_of task) marks.left_out (subst M left.marks_are each) in
    law task index (marks_of task) (record { over = over; of_task = index_of; marks_each = record { verify = whole.verify; multiversion = whole.multiversion }; formed = formed })

pub is_made : (task : Task) (index : Index) (prepared : Prepared) (marks : Marks) → HardRulesAreBookable → IsOver task.pool task.universe → IsIndexOf index (catalog_of task)
    → list_all (asks_in_form (catalog_of task)) task.universe.packages ≡ true → AllFit → HasLeft task marks → HasMarks (length task.universe.packages) marks → IsBookedBy task marks prepared
    → nat_le (words_of_all prepared.book.clauses + words_left_out (catalog_of task) prepared.marks.left_out) most_words ≡ true → IsMade task prepared
is_made task index prepared marks books over index_of formed law has each booked few =
    let catalog = catalog_of task in
    let out : List Bool = prepared.marks.left_out in
    let left : HasLeft task prepared.marks = subst (λ (m : Marks). HasLeft task m) (sym booked.marks_are) has in
    let own : HasMarks (length task.universe.packages) prepared.marks = subst (λ (m : Marks). HasMarks (length task.universe.packages) m) (sym booked.marks_are) each in
    let are : hard_rules_by catalog task.flags task.jobs marks ≡ made_rules task out = ap (hard_rules_by catalog task.flags task.jobs) (sym booked.marks_are ∙ left.marks_are) in
    let B : List HardRule → Type 0 = λ l. list_all (is_bookable catalog) l ≡ true in
    let F : List HardRule → Type 0 = λ l. first_fault catalog 0 l ≡ None in
    let read : read_rules prepared.book.rules ≡ made_rules task out = booked.rules ∙ are in
    let here : first_fault catalog 0 (made_rules task out) ≡ None = subst F are booked.fits in
    let sizes : words_of_all prepared.book.clauses ≡ words_of_all (flat_map (rule_clauses catalog) (made_rules task out)) = ap words_of_all (booked.book.clauses ∙ ap (flat_map (rule_clauses catalog)) read) in
    let low : words_of_all prepared.book.clauses + words_left_out catalog out ≤ most_words = grind (arith, nat_tests, few) in
    record {
      index = booked.index;
      flags = booked.flags;
      left = left;
      each = own;
      book = booked.book;
      rules = read;
      bookable = subst B are booked.bookable;
      fits = here;
      all_bookable = all_bookable task index prepared.marks books over index_of formed left own;
      all_fit = law catalog task.flags task.jobs (marks_of task) out left.out.rich here (omega (arith, sizes, low));
    }

-- a task that was prepared by all hard rules
pub made_of : (task : Task) (prepared : Prepared) → IsPrepared task prepared → IsMade task prepared
made_of task prepared is =
    let catalog = catalog_of task in
    let none : prepared.marks.left_out ≡ [] = ap (λ m. m.left_out) is.marks in
    let L : List Bool → Type 0 = λ l. LeavesOut catalog task.flags task.jobs (marks_of task) l in
    let R : List Bool → Type 0 = λ l. read_rules prepared.book.rules ≡ made_rules task l in
    let B : List Bool → Type 0 = λ l. list_all (is_bookable catalog) (made_rules task l) ≡ true in
    let F : List Bool → Type 0 = λ l. first_fault catalog 0 (made_rules task l) ≡ None in
    record {
      index = is.index;
      flags = is.flags;
      left = record { marks_are = is.marks ∙ ap (leaving (marks_of task)) (sym none); out = subst L (sym none) (none_left_out catalog task.flags task.jobs (marks_of task)) };
      each = is.each;
      book = is.book;
      rules = subst R (sym none) is.rules;
      bookable = subst B (sym none) is.bookable;
      fits = subst F (sym none) is.fits;
      all_bookable = is.bookable;
      all_fit = is.fits;
    }
