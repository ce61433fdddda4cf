use Rattle.std.proofs.Common.{subst, length}
use Rattle.solv_core.specs.Inner.Contradictions.{IsWhatRefutes}
use Rattle.solv_core.specs.declared.refuting.Contradiction.{Contradiction}
use Rattle.solv_remedy.proofs.Tried.{owners_within}
use Rattle.solv_remedy.proofs.Probed.{all_by_look}
use Rattle.solv_remedy.proofs.probing.refuted_others.Goals as goal

pub refuted_by-requires : goal.refuted_by-requires
refuted_by-requires c =
    let s = c.args.setting.now in
    let up = c.requires.set_up in
    record { enabled = owners_within up.0 s.phases.now c.args.core.now.made s.book.now s.fixed.now up.1 (length c.args.enabled.now) c.requires.size }

pub returns-clause-refuted : goal.returns-clause-refuted
returns-clause-refuted c = λ r up.
    let s = c.args.setting.now in
    let core = c.args.core.now.made in
    let W : Contradiction → Type 0 = λ v. IsWhatRefutes core.clauses core.owners core.packages c.args.enabled.now c.args.clauses.now v in
    all_by_look r s.phases.now core s.book.now s.fixed.now up c.good_logs_refute_their_rules.ensures c.args.enabled.now c.args.clauses.now c.in-Others.found (subst W c.in-Others.is c.in_ok-refuted_by.ensures.refuted)
