use Rattle.std.proofs.Common.{◌≡◌, ◌<◌, ◌+◌, ◌∙◌, ℕ, true, false, sym, ap, subst, arith, length}
use Rattle.solv_pool.specs.Prelude.{is_among}
use Rattle.solv_core.specs.Cores.{CoreOf}
use Rattle.solv_questions.specs.Questions.{Request}
use Rattle.solv_remedy.specs.Inner.Runs.{is_spent, IsOf}
use Rattle.solv_remedy.specs.Inner.Trying.{IsLogOf}
use Rattle.solv_remedy.specs.Inner.Conflicts.{listed_of, is_spent_rest, probe_runs, AreSettled, IsRest, IsClashIn}
use Rattle.solv_remedy.specs.declared.collecting.Rest.{Rest}
use Rattle.solv_remedy.proofs.Ran.{ran_then, ran_within, may_still}
use Rattle.solv_remedy.proofs.More.{few_probes}
use Rattle.solv_remedy.proofs.Shown.{good_still}
use Rattle.solv_remedy.proofs.collecting.go_round.Goals as goal
use Rattle.solv_remedy.proofs.collecting.go_round.Goals.{In-Clash}

not_spent : (c : In-Clash) → is_spent c.go_on.new.ledger ≡ false
not_spent c = sym c.in_ok-trail.ensures.spent ∙ ap is_spent_rest c.in-Clash.is

more : (c : In-Clash) → (length c.go_on.new.conflicts.items ≡ length c.args.conflicts.now.items + 1) × (length (listed_of c.args.conflicts.now.items) < length (listed_of c.go_on.new.conflicts.items))
more c = c.in_ok-trail.ensures.more (not_spent c)

its_rest : (c : In-Clash) (r : Request) → IsOf r c.args.setting.now c.args.core.now.made
    → IsLogOf r c.args.core.now.made c.in-Clash.next.rules c.in-Clash.next.log × ((k : ℕ) → is_among c.in-Clash.next.rules k ≡ true → is_among (listed_of c.go_on.new.conflicts.items) k ≡ false)
its_rest c r up =
    let Q : Rest → Type 0 = λ v. IsRest r c.args.core.now.made (listed_of c.go_on.new.conflicts.items) v in
    subst Q c.in-Clash.is (c.in_ok-trail.ensures.rest r up)

pub returns-in_err-trail-clause-has_run : goal.returns-in_err-trail-clause-has_run
returns-in_err-trail-clause-has_run c = ran_within (omega arith) c.go_on.ensures.has_run

pub returns-in-Found-clause-has_run : goal.returns-in-Found-clause-has_run
returns-in-Found-clause-has_run c = ran_within (omega arith) c.go_on.ensures.has_run

pub returns-then-not-is_time-clause-has_run : goal.returns-then-not-is_time-clause-has_run
returns-then-not-is_time-clause-has_run c = ran_within (omega arith) c.go_on.ensures.has_run

pub returns-in-Spent-clause-has_run : goal.returns-in-Spent-clause-has_run
returns-in-Spent-clause-has_run c = ran_within (omega arith) c.go_on.ensures.has_run

pub returns-in-Found-clause-more : goal.returns-in-Found-clause-more
returns-in-Found-clause-more c = λ open_.
    let more_now = c.in_ok-trail.ensures.more open_ in
    (let one = more_now.0 in omega (arith, one), more_now.1)

pub returns-then-not-is_time-clause-more : goal.returns-then-not-is_time-clause-more
returns-then-not-is_time-clause-more c = λ open_.
    let more_now = c.in_ok-trail.ensures.more open_ in
    (let one = more_now.0 in omega (arith, one), more_now.1)

pub returns-in-Spent-clause-more : goal.returns-in-Spent-clause-more
returns-in-Spent-clause-more c = λ open_.
    let more_now = c.in_ok-trail.ensures.more open_ in
    (let one = more_now.0 in omega (arith, one), more_now.1)

pub probe_on-requires-clause-rules : goal.probe_on-requires-clause-rules
probe_on-requires-clause-rules c =
    let R : Rest → Type 0 = λ v. IsClashIn c.args.setting.now.fixed.now v in
    subst R c.in-Clash.is c.in_ok-trail.ensures.rules

pub probe_on-requires-clause-may_run : goal.probe_on-requires-clause-may_run
probe_on-requires-clause-may_run c =
    let d = (goal.at.probe_on-requires-clause-may_run c).In-Clash in
    may_still c.requires.may_run c.go_on.ensures.has_run (sym (not_spent d))

pub returns-in-Found-clause-rest : goal.returns-in-Found-clause-rest
returns-in-Found-clause-rest c = λ r up.
    let Q : Rest → Type 0 = λ v. IsRest r c.args.core.now.made (listed_of c.go_on.new.conflicts.items) v in
    subst Q c.in-Found.is (c.in_ok-trail.ensures.rest r up)

pub returns-then-not-is_time-clause-rules : goal.returns-then-not-is_time-clause-rules
returns-then-not-is_time-clause-rules c =
    let R : Rest → Type 0 = λ v. IsClashIn c.args.setting.now.fixed.now v in
    subst R c.in-Clash.is c.in_ok-trail.ensures.rules

pub returns-then-not-is_time-clause-rest : goal.returns-then-not-is_time-clause-rest
returns-then-not-is_time-clause-rest c = λ r up. its_rest ((goal.at.returns-then-not-is_time-clause-rest c).In-Clash) r up

pub returns-in_err-rest-in-Clash-clause-probed : goal.returns-in_err-rest-in-Clash-clause-probed
returns-in_err-rest-in-Clash-clause-probed c = few_probes c.args.probes.now.made

pub returns-in_ok-rest-in-Clash-clause-probed : goal.returns-in_ok-rest-in-Clash-clause-probed
returns-in_ok-rest-in-Clash-clause-probed c = few_probes c.args.probes.now.made

pub returns-in_err-rest-in-Clash-clause-has_run : goal.returns-in_err-rest-in-Clash-clause-has_run
returns-in_err-rest-in-Clash-clause-has_run c =
    let none : probe_runs c.args.probes.now.made ≡ 0 = ap probe_runs (c.is_time.ensures c.if-not-is_time.false) in
    ran_then (omega (arith, none)) c.go_on.ensures.has_run c.probe_on.ensures.has_run

pub returns-in_ok-rest-in-Clash-clause-has_run : goal.returns-in_ok-rest-in-Clash-clause-has_run
returns-in_ok-rest-in-Clash-clause-has_run c =
    let none : probe_runs c.args.probes.now.made ≡ 0 = ap probe_runs (c.is_time.ensures c.if-not-is_time.false) in
    ran_then (omega (arith, none)) c.go_on.ensures.has_run c.probe_on.ensures.has_run

pub returns-in_ok-rest-in-Clash-clause-more : goal.returns-in_ok-rest-in-Clash-clause-more
returns-in_ok-rest-in-Clash-clause-more c = λ open_.
    let first = more ((goal.at.returns-in_ok-rest-in-Clash-clause-more c).In-Clash) in
    let then = c.in_ok-rest-in-Clash.ensures.more in
    let one = first.0 in
    let two = then.conflicts in
    let three = first.1 in
    let four = then.listed in
    (omega (arith, one, two), omega (arith, three, four))

pub returns-in_ok-rest-in-Clash-clause-settled : goal.returns-in_ok-rest-in-Clash-clause-settled
returns-in_ok-rest-in-Clash-clause-settled c = λ r up log all.
    let P : CoreOf → Type 0 = λ v. IsOf r c.args.setting.now v → AreSettled r v c.go_on.new.conflicts.items → AreSettled r v c.probe_on.new.conflicts.items in
    subst P c.go_on.ensures.has_run.core (c.in_ok-rest-in-Clash.ensures.settled r) up (c.in_ok-trail.ensures.settled r up log all)

pub returns-in_ok-rest-in-Clash-clause-rest : goal.returns-in_ok-rest-in-Clash-clause-rest
returns-in_ok-rest-in-Clash-clause-rest c = λ r up.
    let d = (goal.at.returns-in_ok-rest-in-Clash-clause-rest c).In-Clash in
    let P : CoreOf → Type 0 = λ v. IsOf r c.args.setting.now v → IsLogOf r v c.in-Clash.next.rules c.in-Clash.next.log → IsRest r v (listed_of c.probe_on.new.conflicts.items) c.in_ok-rest-in-Clash.rest in
    subst P c.go_on.ensures.has_run.core (c.in_ok-rest-in-Clash.ensures.rest r) up (its_rest d r up).0

pub returns-in_ok-rest-in-Clash-clause-good : goal.returns-in_ok-rest-in-Clash-clause-good
returns-in_ok-rest-in-Clash-clause-good c = good_still c.args.setting.now c.go_on.new.core c.probe_on.new.core c.go_on.new.sets c.probe_on.ensures.has_run.core c.in_ok-trail.ensures.good
