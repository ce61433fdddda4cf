-- Tasks, each small enough to be solved by hand.
use Rattle.std.specs.Prelude.{pos, negsuc, true, false, [], ◌∷◌, Some, None, codes}
use Rattle.solv_base.specs.declared.relation.DepNode.TheVariants.{Simple, Versioned, Namespace, And, Or, With, Without, If, IfElse, Unless, UnlessElse}
use Rattle.solv_pool.specs.declared.tasks.Task.{Task}
use Rattle.solv_pool.specs.declared.jobs.Choice.TheVariants.{Pkg, Name, All}
use Rattle.solv_pool.specs.declared.jobs.Action.TheVariants.{Install, Erase, Update, Distupgrade, Lock, Verify, Multiversion, AllowUninstall, Favor, Disfavor}
use Rattle.solv_pool.specs.declared.universes.Arch.TheVariants.{I686}
use Rattle.solv_worked.specs.Making.{below, equal, at_least, system, available, one_one, two_one, plain_package, need, job, first_flags, task_of, and_job, with_flags, with_repos, with_disabled, with_arch}

-- A 1-1 requires lib >= 2; there are lib 1-1, lib 2-1, and other 1-1, which provides lib; `install name A`
abbrev pub required_library : Task
required_library = task_of (codes "A" ∷ codes "lib" ∷ codes "2" ∷ codes "other" ∷ [])
    (Versioned 6 at_least 7 ∷ Simple 6 ∷ Simple 5 ∷ [])
    (record (plain_package available 5 one_one) { requires_ = need 0 ∷ [] }
    ∷ plain_package available 6 one_one
    ∷ plain_package available 6 two_one
    ∷ record (plain_package available 8 one_one) { provides = 1 ∷ [] }
    ∷ [])
    (job Install (Name 2) ∷ [])

-- A 2-1 is installed, and there is A 1-1; `install name A = 1`
abbrev pub asked_downgrade : Task
asked_downgrade = task_of (codes "A" ∷ codes "1" ∷ [])
    (Versioned 5 equal 6 ∷ [])
    (plain_package system 5 two_one ∷ plain_package available 5 one_one ∷ [])
    (job Install (Name 0) ∷ [])

-- B 1-1 is installed and requires what nothing provides; there is C 1-1; `install name C`
abbrev pub broken_at_home : Task
broken_at_home = task_of (codes "B" ∷ codes "missing" ∷ codes "C" ∷ [])
    (Simple 6 ∷ Simple 7 ∷ [])
    (record (plain_package system 5 one_one) { requires_ = need 0 ∷ [] } ∷ plain_package available 7 one_one ∷ [])
    (job Install (Name 1) ∷ [])

-- P 1-1 requires X <IF> Y; there are X 1-1 and Y 1-1; `install name P`
abbrev pub conditional_requirement : Task
conditional_requirement = task_of (codes "P" ∷ codes "X" ∷ codes "Y" ∷ [])
    (Simple 6 ∷ Simple 7 ∷ If 0 1 ∷ Simple 5 ∷ [])
    (record (plain_package available 5 one_one) { requires_ = need 2 ∷ [] }
    ∷ plain_package available 6 one_one
    ∷ plain_package available 7 one_one
    ∷ [])
    (job Install (Name 3) ∷ [])

-- R 1-1 requires A + B; p1 provides A, p2 provides B, and p3 both; `install name R`
abbrev pub both_in_one : Task
both_in_one = task_of (codes "R" ∷ codes "A" ∷ codes "B" ∷ codes "p1" ∷ codes "p2" ∷ codes "p3" ∷ [])
    (Simple 6 ∷ Simple 7 ∷ With 0 1 ∷ Simple 5 ∷ And 0 1 ∷ [])
    (record (plain_package available 5 one_one) { requires_ = need 2 ∷ [] }
    ∷ record (plain_package available 8 one_one) { provides = 0 ∷ [] }
    ∷ record (plain_package available 9 one_one) { provides = 1 ∷ [] }
    ∷ record (plain_package available 10 one_one) { provides = 0 ∷ 1 ∷ [] }
    ∷ [])
    (job Install (Name 3) ∷ [])

-- P 1-1 provides x and conflicts with x; `install name P`
abbrev pub own_conflict : Task
own_conflict = task_of (codes "P" ∷ codes "x" ∷ [])
    (Simple 6 ∷ Simple 5 ∷ [])
    (record (plain_package available 5 one_one) { provides = 0 ∷ []; conflicts = 0 ∷ [] } ∷ [])
    (job Install (Name 1) ∷ [])

-- A 1-1 for i686 and A 1-1 for x86_64; `install pkg` the first
abbrev pub two_architectures : Task
two_architectures = task_of (codes "A" ∷ codes "i686" ∷ codes "x86_64" ∷ [])
    []
    (record (plain_package available 5 one_one) { arch = 6 } ∷ record (plain_package available 5 one_one) { arch = 7 } ∷ [])
    (job Install (Pkg 1) ∷ [])

-- old 1-1 is installed, and new 1-1 obsoletes it; `update all packages`
abbrev pub new_name : Task
new_name = task_of (codes "old" ∷ codes "new" ∷ [])
    (Simple 5 ∷ [])
    (plain_package system 5 one_one ∷ record (plain_package available 6 one_one) { obsoletes = 0 ∷ [] } ∷ [])
    (job Update All ∷ [])

-- kernel 2-1 is installed, and there is kernel 3-1; `multiversion name kernel`, `install name kernel = 3`
abbrev pub second_kernel : Task
second_kernel = task_of (codes "kernel" ∷ codes "3-1" ∷ codes "3" ∷ [])
    (Simple 5 ∷ Versioned 5 equal 7 ∷ [])
    (plain_package system 5 two_one ∷ plain_package available 5 6 ∷ [])
    (job Multiversion (Name 0) ∷ job Install (Name 1) ∷ [])

-- there are A 1-1, and A 2-1, which requires what nothing provides; `install name A [forcebest]`
abbrev pub broken_best : Task
broken_best = task_of (codes "A" ∷ codes "missing" ∷ [])
    (Simple 6 ∷ Simple 5 ∷ [])
    (plain_package available 5 one_one ∷ record (plain_package available 5 two_one) { requires_ = need 0 ∷ [] } ∷ [])
    (record (job Install (Name 1)) { forcebest = true } ∷ [])

-- there are A 1-1, B 1-1, and C 1-1, which conflicts with A & B; `install name` each
abbrev pub conflict_with_both : Task
conflict_with_both = task_of (codes "A" ∷ codes "B" ∷ codes "C" ∷ [])
    (Simple 5 ∷ Simple 6 ∷ And 0 1 ∷ Simple 7 ∷ [])
    (plain_package available 5 one_one
    ∷ plain_package available 6 one_one
    ∷ record (plain_package available 7 one_one) { conflicts = 2 ∷ [] }
    ∷ [])
    (job Install (Name 0) ∷ job Install (Name 1) ∷ job Install (Name 3) ∷ [])

-- there are X 1-1, Y 1-1, Z 1-1, and W 1-1, which provides X and Y; relation 3 is X <IF> Y <ELSE> Z, 4 is X - Y, 5 is X & Y, and 6 is (X & Y) | Z
abbrev pub many_operators : Task
many_operators = task_of (codes "X" ∷ codes "Y" ∷ codes "Z" ∷ codes "W" ∷ [])
    (Simple 5 ∷ Simple 6 ∷ Simple 7 ∷ IfElse 0 1 2 ∷ Without 0 1 ∷ And 0 1 ∷ Or 5 2 ∷ [])
    (plain_package available 5 one_one
    ∷ plain_package available 6 one_one
    ∷ plain_package available 7 one_one
    ∷ record (plain_package available 8 one_one) { provides = 0 ∷ 1 ∷ [] }
    ∷ [])
    []

-- P 1-1 conflicts with X <UNLESS> Y; there are X 1-1, and ya and yb, which both provide Y; relation 4 is X <UNLESS> Y <ELSE> P
abbrev pub conflict_unless : Task
conflict_unless = task_of (codes "P" ∷ codes "X" ∷ codes "Y" ∷ codes "ya" ∷ codes "yb" ∷ [])
    (Simple 6 ∷ Simple 7 ∷ Unless 0 1 ∷ Simple 5 ∷ UnlessElse 0 1 3 ∷ [])
    (record (plain_package available 5 one_one) { conflicts = 2 ∷ [] }
    ∷ plain_package available 6 one_one
    ∷ record (plain_package available 8 one_one) { provides = 1 ∷ [] }
    ∷ record (plain_package available 9 one_one) { provides = 1 ∷ [] }
    ∷ [])
    (job Install (Name 3) ∷ job Install (Name 0) ∷ [])

-- P 1-1 requires rpmlib(x) and conflicts with rpmlib(y), which the system has both
abbrev pub system_provides : Task
system_provides = task_of (codes "P" ∷ codes "rpmlib(x)" ∷ codes "rpmlib(y)" ∷ [])
    (Simple 6 ∷ Simple 7 ∷ [])
    (record (plain_package available 5 one_one) { requires_ = need 0 ∷ []; conflicts = 1 ∷ [] } ∷ [])
    []

-- the same on a system of i686
abbrev pub old_machine : Task
old_machine = with_arch (Some I686) two_architectures

-- the same without a `system` line
abbrev pub no_machine : Task
no_machine = with_arch None two_architectures

-- the same with `solverflags noinfarchcheck`
abbrev pub any_architecture : Task
any_architecture = with_flags (record first_flags { no_infarch_check = true }) two_architectures

-- the downgrade that was asked for, with `solverflags allowdowngrade`
abbrev pub free_downgrade : Task
free_downgrade = with_flags (record first_flags { allow_downgrade = true }) asked_downgrade

-- the new name, with `solverflags !allownamechange`
abbrev pub fixed_name : Task
fixed_name = with_flags (record first_flags { allow_name_change = false }) new_name

-- the broken package, with `verify all packages`
abbrev pub verified_at_home : Task
verified_at_home = and_job (job Verify All) broken_at_home

-- A 1-1, A 2-1 and B 1-1 are installed, and there is C 1-1; A 1-1 and C conflict with B, and A 2-1 conflicts with A & B
abbrev pub quarrels_at_home : Task
quarrels_at_home = task_of (codes "A" ∷ codes "B" ∷ codes "C" ∷ [])
    (Simple 6 ∷ Simple 5 ∷ And 1 0 ∷ [])
    (record (plain_package system 5 one_one) { conflicts = 0 ∷ [] }
    ∷ record (plain_package system 5 two_one) { conflicts = 2 ∷ [] }
    ∷ plain_package system 6 one_one
    ∷ record (plain_package available 7 one_one) { conflicts = 0 ∷ [] }
    ∷ [])
    []

-- the same with `verify name A`
abbrev pub quarrels_verified : Task
quarrels_verified = and_job (job Verify (Name 1)) quarrels_at_home

-- old 1-1 is installed; there are other 1-1, which provides old, and new 1-1, which obsoletes old < 2
abbrev pub obsolete_by_name : Task
obsolete_by_name = task_of (codes "old" ∷ codes "other" ∷ codes "new" ∷ codes "2" ∷ [])
    (Simple 5 ∷ Versioned 5 below 8 ∷ [])
    (plain_package system 5 one_one
    ∷ record (plain_package available 6 one_one) { provides = 0 ∷ [] }
    ∷ record (plain_package available 7 one_one) { obsoletes = 1 ∷ [] }
    ∷ [])
    []

-- A 2-1 is installed; there is A 1-1 in repositories of priority 5 and 7
abbrev pub priorities : Task
priorities = with_repos
    (record { name = system; priority = pos 0 } ∷ record { name = available; priority = pos 5 } ∷ record { name = 6; priority = pos 7 } ∷ [])
    (task_of (codes "A" ∷ codes "third" ∷ []) [] (plain_package system 5 two_one ∷ plain_package available 5 one_one ∷ plain_package 2 5 one_one ∷ []) [])

-- A 1-1 of vendor V is installed for x86_64; there are A 2-1 of V for i686, of no vendor for x86_64, and of V for noarch
abbrev pub changes_at_once : Task
changes_at_once = task_of (codes "A" ∷ codes "V" ∷ codes "x86_64" ∷ codes "i686" ∷ [])
    []
    (record (plain_package system 5 one_one) { arch = 7; vendor = Some 6 }
    ∷ record (plain_package available 5 two_one) { arch = 8; vendor = Some 6 }
    ∷ record (plain_package available 5 two_one) { arch = 7 }
    ∷ record (plain_package available 5 two_one) { vendor = Some 6 }
    ∷ [])
    []

-- the same with `solverflags allowarchchange`
abbrev pub free_architecture : Task
free_architecture = with_flags (record first_flags { allow_arch_change = true }) changes_at_once

-- the same changes with `solverflags allowvendorchange`
abbrev pub free_vendor : Task
free_vendor = with_flags (record first_flags { allow_vendor_change = true }) changes_at_once

-- A 1-1 is installed for s390x, which x86_64 does not allow; there are A 2-1 for s390x, and B 1-1, which is disabled
abbrev pub not_to_be_had : Task
not_to_be_had = with_disabled (false ∷ false ∷ true ∷ [])
    (task_of (codes "A" ∷ codes "s390x" ∷ codes "B" ∷ [])
    []
    (record (plain_package system 5 one_one) { arch = 6 } ∷ record (plain_package available 5 two_one) { arch = 6 } ∷ plain_package available 7 one_one ∷ [])
    [])

-- A 1-1 is installed, and there are A 2-1 and B 1-1; `lock name A`, `erase name B`, `favor name A`, `disfavor pkg` A 2-1, `allowuninstall all packages`, `update all packages [forcebest]`
abbrev pub many_jobs : Task
many_jobs = task_of (codes "A" ∷ codes "B" ∷ [])
    (Simple 5 ∷ Simple 6 ∷ [])
    (plain_package system 5 one_one ∷ plain_package available 5 two_one ∷ plain_package available 6 one_one ∷ [])
    (job Lock (Name 0)
    ∷ job Erase (Name 1)
    ∷ job Favor (Name 0)
    ∷ job Disfavor (Pkg 2)
    ∷ job AllowUninstall All
    ∷ record (job Update All) { forcebest = true }
    ∷ [])

-- A 2-1 and B 1-1 are installed, and there is A 1-1; `distupgrade all packages`
abbrev pub moved_back : Task
moved_back = task_of (codes "A" ∷ codes "B" ∷ [])
    []
    (plain_package system 5 two_one ∷ plain_package system 6 one_one ∷ plain_package available 5 one_one ∷ [])
    (job Distupgrade All ∷ [])

-- the same, but A 1-1 requires what nothing provides
abbrev pub broken_back : Task
broken_back = task_of (codes "A" ∷ codes "B" ∷ codes "missing" ∷ [])
    (Simple 7 ∷ [])
    (plain_package system 5 two_one ∷ plain_package system 6 one_one ∷ record (plain_package available 5 one_one) { requires_ = need 0 ∷ [] } ∷ [])
    (job Distupgrade All ∷ [])

-- the first, but there is A 2-1 too
abbrev pub equal_there : Task
equal_there = task_of (codes "A" ∷ codes "B" ∷ [])
    []
    (plain_package system 5 two_one ∷ plain_package system 6 one_one ∷ plain_package available 5 one_one ∷ plain_package available 5 two_one ∷ [])
    (job Distupgrade All ∷ [])

-- the same, but A 1-1 is in a repository of a greater priority than A 2-1
abbrev pub equal_below : Task
equal_below = with_repos
    (record { name = system; priority = pos 0 } ∷ record { name = available; priority = pos 5 } ∷ record { name = 6; priority = pos 7 } ∷ [])
    (task_of (codes "A" ∷ codes "third" ∷ []) [] (plain_package system 5 two_one ∷ plain_package 2 5 one_one ∷ plain_package available 5 two_one ∷ []) (job Distupgrade All ∷ []))

-- A 1.0-1 is installed; there are A 1.00-1 of vendor V, and the same without a vendor, which is disabled
abbrev pub equal_of_vendor : Task
equal_of_vendor = with_disabled (false ∷ false ∷ true ∷ [])
    (task_of (codes "A" ∷ codes "V" ∷ codes "1.0-1" ∷ codes "1.00-1" ∷ [])
    []
    (plain_package system 5 7 ∷ record (plain_package available 5 8) { vendor = Some 6 } ∷ plain_package available 5 8 ∷ [])
    (job Distupgrade All ∷ []))

-- the same with nothing disabled
abbrev pub equal_without_vendor : Task
equal_without_vendor = with_disabled (false ∷ false ∷ false ∷ []) equal_of_vendor

-- the new name, with `solverflags !allownamechange`; `distupgrade all packages` besides
abbrev pub forced_name : Task
forced_name = and_job (job Distupgrade All) fixed_name

-- the downgrade that is asked for exactly, with `distupgrade all packages` besides
abbrev pub asked_and_moved : Task
asked_and_moved = and_job (job Distupgrade All) asked_downgrade

-- P 1-1 requires /bin/sh and namespace:language(de); sh 1-1 has the file /bin/sh
abbrev pub file_and_namespace : Task
file_and_namespace = task_of (codes "P" ∷ codes "/bin/sh" ∷ codes "namespace:language(de)" ∷ codes "sh" ∷ [])
    (Simple 6 ∷ Namespace 7 ∷ [])
    (record (plain_package available 5 one_one) { requires_ = need 0 ∷ need 1 ∷ [] }
    ∷ record (plain_package available 8 one_one) { files = 6 ∷ [] }
    ∷ [])
    []

-- the same with `namespace namespace:language(de) @SYSTEM`
abbrev pub german_system : Task
german_system = record file_and_namespace { namespaces = (7, 0 ∷ []) ∷ [] }

-- candidates: `early` and b 2-1, which obsoletes a, and of which 3 is installed and marked for update; four of a, of which 4 is installed and
-- disfavoured, 5 is favoured in `low`, 6 is in `high`, and 7 is for x86_64; c, which obsoletes b; and again `early`, b 3-1, and b 2-1
abbrev pub every_difference : Task
every_difference = with_repos
    (record { name = system; priority = pos 0 } ∷ record { name = available; priority = pos 0 } ∷ record { name = 13; priority = negsuc 0 } ∷ record { name = 14; priority = pos 1 } ∷ [])
    (task_of (codes "early" ∷ codes "b" ∷ codes "a" ∷ codes "c" ∷ codes "x86_64" ∷ codes "i686" ∷ codes "i586" ∷ codes "3-1" ∷ codes "low" ∷ codes "high" ∷ [])
    (Simple 7 ∷ Simple 6 ∷ [])
    (record (plain_package available 5 one_one) { arch = 10 }
    ∷ record (plain_package available 6 two_one) { arch = 10; obsoletes = 0 ∷ [] }
    ∷ record (plain_package system 6 two_one) { arch = 10; obsoletes = 0 ∷ [] }
    ∷ record (plain_package system 7 one_one) { arch = 11 }
    ∷ record (plain_package 2 7 one_one) { arch = 11 }
    ∷ record (plain_package 3 7 one_one) { arch = 11 }
    ∷ record (plain_package available 7 one_one) { arch = 9 }
    ∷ record (plain_package available 8 one_one) { arch = 10; obsoletes = 1 ∷ [] }
    ∷ record (plain_package available 5 one_one) { arch = 10 }
    ∷ record (plain_package available 6 12) { arch = 10 }
    ∷ record (plain_package available 6 two_one) { arch = 10 }
    ∷ [])
    (job Update (Pkg 3) ∷ job Disfavor (Pkg 4) ∷ job Favor (Pkg 5) ∷ []))
