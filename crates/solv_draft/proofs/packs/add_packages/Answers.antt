use Rattle.std.proofs.Common.{◌≡◌, length, true, false, rules, arith}
use Rattle.std.specs.Prelude.{nat_lt}
use Rattle.solv_draft.proofs.Drawing.{kept_grown, packages_drawn, packages_nowhere, packages_refused}
use Rattle.solv_draft.proofs.packs.add_packages.Goals as goal

pub returns-then-repo-repos-clause-refused : goal.returns-then-repo-repos-clause-refused
returns-then-repo-repos-clause-refused c =
    let none : nat_lt c.args.repo (length c.args.task.now.universe.repos) ≡ false = search (rules, arith) in
    packages_nowhere c.args.task.now c.requires c.args.repo c.args.testtags.now none

pub returns-in-Ok-clause-done : goal.returns-in-Ok-clause-done
returns-in-Ok-clause-done c =
    let there : nat_lt c.args.repo (length c.args.task.now.universe.repos) ≡ true = search (rules, arith) in
    packages_drawn c.args.task.now c.requires c.args.repo c.args.testtags.now c.read_testtags.new.pool c.read_testtags.new.universe there c.read_testtags.ensures.grows c.in-Ok.ensures.over c.in-Ok.ensures.read

pub returns-in-Err-clause-refused : goal.returns-in-Err-clause-refused
returns-in-Err-clause-refused c =
    let there : nat_lt c.args.repo (length c.args.task.now.universe.repos) ≡ true = search (rules, arith) in
    rw c.fault_of_tag.ensures (packages_refused c.args.task.now c.requires c.args.repo c.args.testtags.now c.in-Err.fault there c.in-Err.ensures.refused)

pub returns-in-Err-clause-kept : goal.returns-in-Err-clause-kept
returns-in-Err-clause-kept c = rw c.in-Err.ensures.unchanged (kept_grown c.args.task.now c.requires c.read_testtags.new.pool c.read_testtags.ensures.grows)
