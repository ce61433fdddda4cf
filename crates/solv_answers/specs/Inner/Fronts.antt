-- What the rounds of a script share. Inner contracts alone speak of it.
use Rattle.std.specs.Prelude.{ℕ, ◌≡◌, ◌≤◌, List, ◌++◌, None, true, IfSome, length, map, take}
use Rattle.std.specs.List.{list_all}
use Rattle.solv_pool.specs.Prelude.{Catalog, catalog_of, package_rules, infarch_rules, hard_rules_by, HardRule, rule_with}
use Rattle.solv_pool.specs.declared.hard_rules.Rules.{Rules}
use Rattle.solv_pool.specs.declared.job_marks.Marks.{Marks}
use Rattle.solv_pool.specs.declared.tasks.Flags.{Flags}
use Rattle.solv_pool.specs.declared.tasks.Task.{Task}
use Rattle.solv_prov.specs.Index.{IsIndexOf}
use Rattle.solv_rules.specs.Books.{IsBook, first_fault, is_bookable, read_rules}
use Rattle.solv_rules.specs.Inner.Drafting.{IsBegun}
use Rattle.solv_decide.specs.Inner.Rests.{IsRestFor}
use Rattle.solv_answers.specs.declared.preparing.Begun.{Begun}
use Rattle.solv_answers.specs.declared.preparing.Front.{Front}
use Rattle.solv_answers.specs.declared.preparing.Prepared.{Prepared}

-- the hard rules that come first: those of packages and of architectures
abbrev pub front_rules : Catalog → Flags → Marks → List HardRule
front_rules catalog flags marks = package_rules catalog marks ++ infarch_rules catalog flags

-- the rules are read so, whatever sets come after theirs
abbrev pub Reads : Rules → List HardRule → Type 0
Reads rules made = (more : List (List ℕ)) → map (rule_with (rules.sets ++ more)) rules.list ≡ made

-- the first of these rules, so many with so many sets, are read so
pub record HasFront (made : List HardRule) (rules : Rules) (front : Front) : Type 0 where
  pub enough : front.rules ≤ length rules.list
  pub enough_sets : front.sets ≤ length rules.sets
  pub reads : Reads (record { list = take front.rules rules.list; sets = take front.sets rules.sets }) made

-- the next round over the same packages may begin with what was prepared, and with what an answer left
pub record MayGoOn (catalog : Catalog) (prepared : Prepared) : Type 0 where
  pub index : IsIndexOf prepared.prov.now catalog
  pub book : IsBook catalog prepared.book
  pub fits : first_fault catalog 0 (read_rules prepared.book.rules) ≡ None
  pub front : HasFront (front_rules catalog prepared.flags prepared.marks) prepared.book.rules prepared.front
  pub left : IfSome prepared.left (IsRestFor catalog prepared.flags prepared.marks)

-- a book of the rules by these marks may begin with it
pub record IsBegunFor (task : Task) (marks : Marks) (begun : Begun) : Type 0 where
  pub front : Reads begun.rules (front_rules (catalog_of task) task.flags marks)
  pub rules : begun.front.rules ≡ length begun.rules.list
  pub sets : begun.front.sets ≡ length begun.rules.sets
  pub draft : IsBegun (catalog_of task) (front_rules (catalog_of task) task.flags marks) begun.draft

-- it has the book of the rules by these marks, whose clauses pass no limit
pub record IsBookedBy (task : Task) (marks : Marks) (prepared : Prepared) : Type 0 where
  pub index : IsIndexOf prepared.prov.now (catalog_of task)
  pub flags : prepared.flags ≡ task.flags
  pub marks_are : prepared.marks ≡ marks
  pub book : IsBook (catalog_of task) prepared.book
  pub rules : read_rules prepared.book.rules ≡ hard_rules_by (catalog_of task) task.flags task.jobs marks
  pub bookable : list_all (is_bookable (catalog_of task)) (hard_rules_by (catalog_of task) task.flags task.jobs marks) ≡ true
  pub fits : first_fault (catalog_of task) 0 (hard_rules_by (catalog_of task) task.flags task.jobs marks) ≡ None
