use Rattle.std.proofs.Common.{ℕ, ap, arith, Bool, false, subst, refl, Some}
use Rattle.std.proofs.lemmas.Bool.{or_left}
use Rattle.solv_trail.specs.Propagated.{in_use}
use Rattle.solv_pack.specs.Inner.Packing.{Memory}
use Rattle.solv_core.specs.Inner.Contradictions.{IsLogWith}
use Rattle.solv_core.proofs.Bottom.{founded_alone}
use Rattle.solv_core.proofs.Contradicted.{clash_on, clash_within}
use Rattle.solv_core.proofs.refuting.refuted_over.Goals as goal

pub log_by-requires-clause-clause : goal.log_by-requires-clause-clause
log_by-requires-clause-clause c =
    let used : ℕ → Bool = in_use c.args.used.now.owners.now c.args.used.now.enabled.now in
    (clash_within c.args.used.now.book.now.rules used c.force.new.known.lits (Some c.in-Some.clause) c.in-Some.clause c.in-Some.ensures.done refl)

pub returns-in-Some-clause-refuted : goal.returns-in-Some-clause-refuted
returns-in-Some-clause-refuted c =
    let book = c.args.used.now.book.now.rules in
    let owners = c.args.used.now.owners.now in
    let enabled = c.args.used.now.enabled.now in
    let used : ℕ → Bool = in_use owners enabled in
    let log = c.in_ok-log-in-Some.log in
    let on = clash_on book used c.force.new.known.lits (Some c.in-Some.clause) c.in-Some.clause c.in-Some.ensures.done refl in
    let Q : ℕ → Type 0 = λ n. IsLogWith book owners n enabled (λ clause. false) log in
    subst Q c.in-Some.ensures.count ((c.in_ok-log-in-Some.ensures.log (λ clause. false) (or_left (used c.in-Some.clause) false on)))

pub log_by-requires-clause-founded : goal.log_by-requires-clause-founded
log_by-requires-clause-founded c =
    founded_alone c.args.used.now.book.now.rules c.args.used.now.owners.now c.args.used.now.enabled.now c.new-none.result.rules _ 0 _ c.force.new.known (ap (λ (m : Memory). m.rules) c.new-none.ensures) (omega arith) c.in-Some.ensures.reasoned

pub refuted_among-requires-clause-founded : goal.refuted_among-requires-clause-founded
refuted_among-requires-clause-founded c =
    founded_alone c.args.used.now.book.now.rules c.args.used.now.owners.now c.args.used.now.enabled.now c.new-none.result.rules _ 0 _ c.force.new.known (ap (λ (m : Memory). m.rules) c.new-none.ensures) (omega arith) c.in-None.ensures.reasoned
