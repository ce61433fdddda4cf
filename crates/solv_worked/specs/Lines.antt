-- A task with rules of every kind, small enough to be worked out by hand.
use Rattle.std.specs.Prelude.{ℕ, Bool, true, false, List, [], ◌∷◌, Some, None, codes, map, pos, negsuc}
use Rattle.solv_base.specs.declared.comparison.Cmp.{Cmp}
use Rattle.solv_base.specs.declared.relation.DepNode.TheVariants.{Simple, Versioned, And}
use Rattle.solv_pool.specs.RuleMeaning.{rule_with}
use Rattle.solv_pool.specs.declared.packages.Package.{Package}
use Rattle.solv_pool.specs.declared.hard_rules.Rule.TheVariants as rule
use Rattle.solv_pool.specs.declared.hard_rules.Rules.{Rules}
use Rattle.solv_pool.specs.declared.jobs.Action.{Action}
use Rattle.solv_pool.specs.declared.jobs.Action.TheVariants.{Install, Erase, Update}
use Rattle.solv_pool.specs.declared.jobs.Choice.{Choice}
use Rattle.solv_pool.specs.declared.jobs.Choice.TheVariants.{Pkg, Name, All}
use Rattle.solv_pool.specs.declared.jobs.Job.{Job}
use Rattle.solv_pool.specs.declared.tasks.Task.{Task}
use Rattle.solv_trail.specs.declared.questions.Question.TheVariants as question
use Rattle.solv_core.specs.declared.verdicts.Event.{Event}
use Rattle.solv_core.specs.declared.verdicts.Event.TheVariants as event
use Rattle.solv_remedy.specs.declared.problems.Problem.{Problem}
use Rattle.solv_remedy.specs.declared.problems.Solution.{Solution}
use Rattle.solv_script.specs.declared.scripts.Kinds.{Kinds}
use Rattle.solv_trans.specs.declared.kinds.Change.{Change}
use Rattle.solv_trans.specs.declared.kinds.Change.TheVariants as change
use Rattle.solv_trans.specs.declared.ordering.Ordered.{Ordered}
use Rattle.solv_lines.specs.SolutionTexts.{solution_texts}

-- `<`
abbrev pub below : Cmp
below = record { less = true; equal = false; greater = false }

-- a package without relations
abbrev pub bare : ℕ → ℕ → ℕ → ℕ → Package
bare name evr arch repo = record {
  name = name;
  evr = evr;
  arch = arch;
  vendor = None;
  repo = repo;
  provides = [];
  requires_ = [];
  conflicts = [];
  obsoletes = [];
  recommends = [];
  suggests = [];
  supplements = [];
  enhances = [];
  files = [];
}

-- a job, whether it asks for the best, and its words
abbrev pub job : Action → Choice → Bool → List ℕ → Job
job action choice forcebest text = record { action = action; choice = choice; forcebest = forcebest; cleandeps = false; text = text }

-- A 1-1 and B 1-1 are installed; C 1-1, A 2-1, and P 1-1 and A 1-1 for i686 are available; one job asks for a name that nothing has
abbrev pub spoken : Task
spoken = record {
  pool = record {
    names =
        codes "noarch"
        ∷ codes "i686"
        ∷ codes "1-1"
        ∷ codes "2-1"
        ∷ codes "A"
        ∷ codes "B"
        ∷ codes "C"
        ∷ codes "P"
        ∷ codes "missing"
        ∷ codes "nosuch"
        ∷ codes "system"
        ∷ codes "available"
        ∷ [];
    nodes = Simple 4 ∷ Simple 5 ∷ And 0 1 ∷ Simple 8 ∷ Simple 9 ∷ Versioned 4 below 3 ∷ [];
  };
  universe = record {
    packages = bare 4 2 0 0 ∷ bare 5 2 0 0 ∷ bare 6 2 0 1 ∷ bare 4 3 0 1 ∷ bare 7 2 1 1 ∷ bare 4 2 1 1 ∷ [];
    repos = record { name = 10; priority = pos 0 } ∷ record { name = 11; priority = pos 0 } ∷ [];
    arch = None;
    installed = Some 0;
    disabled = false ∷ false ∷ false ∷ false ∷ false ∷ false ∷ [];
  };
  flags = record {
    allow_downgrade = false;
    allow_name_change = true;
    allow_arch_change = false;
    allow_vendor_change = false;
    allow_uninstall = false;
    ignore_recommended = false;
    no_infarch_check = false;
  };
  namespaces = [];
  jobs =
      job Install (Name 4) false (codes "install name nosuch")
      ∷ job Erase (Name 0) false (codes "erase name A")
      ∷ job Install All false (codes "install all packages")
      ∷ job Update All true (codes "update all packages [forcebest]")
      ∷ job Install (Name 0) true (codes "install name A [forcebest]")
      ∷ job Install (Pkg 6) false (codes "install pkg A-1-1.i686@available")
      ∷ [];
}

-- a rule of each kind, and more than one where its text may differ
abbrev pub told : Rules
told = record {
  list =
      rule.NotInstallable 5
      ∷ rule.Req 2 0
      ∷ rule.Req 4 3
      ∷ rule.Con 3 5 1
      ∷ rule.RichCon 3 2
      ∷ rule.Obs 3 0 1
      ∷ rule.Same 1 4
      ∷ rule.Infarch 5
      ∷ rule.Update 2 1
      ∷ rule.Feature 2 1
      ∷ rule.Install 0 0
      ∷ rule.Install 2 0
      ∷ rule.Install 0 1
      ∷ rule.Erase 1 1
      ∷ rule.Lock 1 1
      ∷ rule.BestJob 2 1
      ∷ rule.BestUpdate 3 2 1
      ∷ rule.Infarch 6
      ∷ rule.Install 5 2
      ∷ rule.BestJob 4 1
      ∷ rule.Update 1 1
      ∷ rule.Feature 1 3
      ∷ rule.Dup 2 1
      ∷ [];
  sets = [] ∷ (1 ∷ []) ∷ (6 ∷ []) ∷ (1 ∷ 3 ∷ 4 ∷ []) ∷ [];
}

-- the lines of changes and of problems are asked for; or none
abbrev pub both_kinds : Kinds
both_kinds = record { transaction = true; problems = true; order = false; reason = false; userinstalled = false; unneeded = false }

abbrev pub no_kinds : Kinds
no_kinds = record { transaction = false; problems = false; order = true; reason = true; userinstalled = true; unneeded = true }

-- the lines of problems alone, of an order alone, or of reasons alone
abbrev pub problems_alone : Kinds
problems_alone = record { transaction = false; problems = true; order = false; reason = false; userinstalled = false; unneeded = false }

abbrev pub order_alone : Kinds
order_alone = record { transaction = false; problems = false; order = true; reason = false; userinstalled = false; unneeded = false }

-- the lines of who needs what alone
abbrev pub needs_alone : Kinds
needs_alone = record { transaction = false; problems = false; order = false; reason = false; userinstalled = true; unneeded = true }

abbrev pub reason_alone : Kinds
reason_alone = record { transaction = false; problems = false; order = false; reason = true; userinstalled = false; unneeded = false }

-- C and A 2-1 come, and B goes; two cycles
abbrev pub placed : Ordered
placed = record { parts = 3 ∷ 4 ∷ 2 ∷ []; pre_cycles = (3 ∷ 4 ∷ []) ∷ []; cycles = (2 ∷ 3 ∷ 4 ∷ []) ∷ [] }

-- A 1-1 is known to be in and B out; C is taken for a job, A 2-1 follows, P is required and A for i686 recommended
abbrev pub happened : List Event
happened = event.Known (pos 1) ∷ event.Known (negsuc 1) ∷ event.Took (question.Job 0) 3 ∷ event.Known (pos 4) ∷ event.Took (question.Requires 4 0) 5 ∷ event.Took (question.Recommends 3 0) 6 ∷ []

-- a change of each kind
abbrev pub made : List Change
made = change.Upgrade 1 4 ∷ change.Downgrade 4 1 ∷ change.Alter 2 3 ∷ change.Reinstall 2 2 ∷ change.Obsolete 1 3 ∷ change.Erase 2 ∷ change.Install 5 ∷ []

-- a problem that lists these rules, with these solutions, and without any; its derivation is on no line
abbrev pub solved_by : List ℕ → List Solution → Problem
solved_by rules solutions = record { rules = rules; log = record { steps = [] }; solutions = solutions }

abbrev pub listing : List ℕ → Problem
listing rules = solved_by rules []

-- the solution that drops these rules, with this set
abbrev pub way : List ℕ → List ℕ → Solution
way dropped set = record { dropped = dropped; set = set; refuted = [] }

-- what is said of it
abbrev pub said_of : List ℕ → List ℕ → List (List ℕ)
said_of dropped set = solution_texts spoken (map (rule_with told.sets) told.list) dropped set
