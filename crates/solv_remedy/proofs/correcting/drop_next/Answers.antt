use Rattle.std.proofs.Common.{◌≡◌, ◌∙◌, ◌≤◌, ◌<◌, ◌+◌, ◌-◌, true, arith}
use Rattle.solv_remedy.specs.Inner.Correcting.{open_count}
use Rattle.solv_remedy.proofs.Growing.{kept_then, parted_same, parted_then}
use Rattle.solv_remedy.proofs.Ran.{ran_then}
use Rattle.solv_remedy.proofs.correcting.drop_next.Goals as goal

pub look-requires-clause-parted : goal.look-requires-clause-parted
look-requires-clause-parted c =
    let s = c.args.setting.now in
    let core = c.args.core.now.made in
    let new = c.drop_one_of.new.parted in
    parted_same s core c.drop_one_of.new.core.made new c.drop_one_of.ensures.has_run.core (parted_then s core c.args.parted.now new c.requires.parted (c.in_ok-drop_one_of.ensures.parted c.if-not-branch.false))

pub returns-in_err-on-clause-has_run : goal.returns-in_err-on-clause-has_run
returns-in_err-on-clause-has_run c =
    let fewer = c.in_ok-drop_one_of.ensures.fewer c.if-not-branch.false in
    ran_then (omega (arith, fewer)) (c.in_ok-drop_one_of.ensures.runs c.if-not-branch.false) c.look.ensures.has_run

pub returns-clause-has_run : goal.returns-clause-has_run
returns-clause-has_run c =
    let fewer = c.in_ok-drop_one_of.ensures.fewer c.if-not-branch.false in
    ran_then (omega (arith, fewer)) (c.in_ok-drop_one_of.ensures.runs c.if-not-branch.false) c.look.ensures.has_run

pub returns-clause-parted : goal.returns-clause-parted
returns-clause-parted c = λ yes.
    kept_then c.args.setting.now c.args.core.now.made c.drop_one_of.new.core.made c.args.parted.now c.drop_one_of.new.parted c.look.new.parted c.drop_one_of.ensures.has_run.core
    (c.in_ok-drop_one_of.ensures.parted c.if-not-branch.false) (c.in_ok-on.ensures.parted yes)

pub returns-clause-fewer : goal.returns-clause-fewer
returns-clause-fewer c = λ yes.
    let fewer = c.in_ok-drop_one_of.ensures.fewer c.if-not-branch.false in
    let few = c.in_ok-on.ensures.few yes in
    omega (arith, fewer, few)

pub returns-clause-runs : goal.returns-clause-runs
returns-clause-runs c = λ yes.
    let fewer = c.in_ok-drop_one_of.ensures.fewer c.if-not-branch.false in
    let few = c.in_ok-on.ensures.few yes in
    ran_then (omega (arith, fewer, few)) (c.in_ok-drop_one_of.ensures.runs c.if-not-branch.false) c.look.ensures.has_run
