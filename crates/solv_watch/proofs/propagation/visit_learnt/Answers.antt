use Rattle.std.proofs.Common.{◌≡◌, ap, sym, ◌∙◌, arith, length}
use Rattle.std.specs.Prelude.{unwrap_or}
use Rattle.solv_trail.proofs.Growth.{grown_self}
use Rattle.solv_watch.proofs.propagation.visit_learnt.Goals as goal

pub returns-then-size-ge2-clause-grown : goal.returns-then-size-ge2-clause-grown
returns-then-size-ge2-clause-grown c = λ all used part. grown_self all used c.args.known.now

pub returns-then-size-ge2-clause-satisfied : goal.returns-then-size-ge2-clause-satisfied
returns-then-size-ge2-clause-satisfied c = λ done d u few.
    let same : d ≡ c.lits-size.result.now = ap (λ o. unwrap_or o d) (sym u.found ∙ c.lits-size.ensures.held) in
    let e : length d ≡ length c.lits-size.result.now = ap length same in
    absurd (omega arith)

pub visit_narrow-requires-clause-narrow : goal.visit_narrow-requires-clause-narrow
visit_narrow-requires-clause-narrow c = λ d held.
    let same : d ≡ c.lits-size.result.now = ap (λ o. unwrap_or o d) (sym held ∙ c.lits-size.ensures.held) in
    let e : length d ≡ length c.lits-size.result.now = ap length same in
    omega arith

pub returns-clause-satisfied : goal.returns-clause-satisfied
returns-clause-satisfied c = λ done d u few. c.visit_narrow.ensures.satisfied done d u
