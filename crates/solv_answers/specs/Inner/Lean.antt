-- A task with packages that are left out. Inner contracts alone speak of it.
use Rattle.std.specs.Prelude.{◌≡◌, ◌+◌, ◌==◌, true, None, length}
use Rattle.std.specs.List.{list_all}
use Rattle.solv_pool.specs.Prelude.{catalog_of, hard_rules, marks_of}
use Rattle.solv_pool.specs.declared.job_marks.Marks.{Marks}
use Rattle.solv_pool.specs.declared.tasks.Task.{Task}
use Rattle.solv_prov.specs.Index.{IsIndexOf}
use Rattle.solv_jobs.specs.Marking.{HasMarks}
use Rattle.solv_rules.specs.Books.{IsBook, first_fault, is_bookable, read_rules}
use Rattle.solv_leaving.specs.Inner.Leaving.{LeavesOut, leaving}
use Rattle.solv_core.specs.Inner.Holding.{IsHeldBy}
use Rattle.solv_core.specs.Inner.Running.{is_spent_verdict}
use Rattle.solv_decide.specs.Inner.Deciding.{IsAskedFor, IsDecided}
use Rattle.solv_decide.specs.declared.deciding.Decided.{Decided}
use Rattle.solv_answers.specs.Inner.Beginnings.{HasBegun}
use Rattle.solv_answers.specs.Inner.Made.{all_made, made_core, made_request, made_rules}
use Rattle.solv_answers.specs.declared.preparing.Prepared.{Prepared}

-- the marks of a task, and packages that may be left out
pub record HasLeft (task : Task) (marks : Marks) : Type 0 where
  pub marks_are : marks ≡ leaving (marks_of task) marks.left_out
  pub out : LeavesOut (catalog_of task) task.flags task.jobs (marks_of task) marks.left_out

-- A task is prepared by the rules that are made where its marks leave packages out, be it none. Of all hard rules a book can be made, and neither they nor those that are
-- made pass a limit.
pub record IsMade (task : Task) (prepared : Prepared) : Type 0 where
  pub index : IsIndexOf prepared.prov.now (catalog_of task)
  pub flags : prepared.flags ≡ task.flags
  pub left : HasLeft task prepared.marks
  pub each : HasMarks (length task.universe.packages) prepared.marks
  pub book : IsBook (catalog_of task) prepared.book
  pub rules : read_rules prepared.book.rules ≡ made_rules task prepared.marks.left_out
  pub bookable : list_all (is_bookable (catalog_of task)) (made_rules task prepared.marks.left_out) ≡ true
  pub fits : first_fault (catalog_of task) 0 (made_rules task prepared.marks.left_out) ≡ None
  pub all_bookable : list_all (is_bookable (catalog_of task)) (hard_rules task) ≡ true
  pub all_fit : first_fault (catalog_of task) 0 (hard_rules task) ≡ None

-- what one run over them with every rule enabled decided
pub record HasDecided (task : Task) (prepared : Prepared) (decided : Decided) : Type 0 where
  pub begun : HasBegun task prepared.marks.left_out decided.ledger
  pub asked : IsAskedFor (made_request task prepared.marks.left_out) decided.phases decided.core.made
  pub held : IsHeldBy decided.core decided.ledger
  pub core : decided.core.made ≡ made_core task prepared.marks.left_out
  pub spent : is_spent_verdict decided.verdict ≡ (length decided.ledger.entries == decided.ledger.budget + 1)
  pub decided_so : IsDecided (made_request task prepared.marks.left_out) (all_made task prepared.marks.left_out) (made_core task prepared.marks.left_out) decided.verdict
