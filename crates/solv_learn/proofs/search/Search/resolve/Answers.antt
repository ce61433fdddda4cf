use Rattle.std.proofs.Common.{◌≡◌, ◌<◌, ◌∙◌, ◌++◌, ◌∷◌, [], List, length, take, get_or, sym, ap, subst, Some, true, arith, ℕ}
use Rattle.std.specs.Prelude.{ℤ, pos, slice_get, reverse}
use Rattle.solv_derive.specs.Forced.{forced}
use Rattle.solv_learn.specs.Inner.Marks.{has}
use Rattle.solv_learn.proofs.Steps.{HasReason, reason_of, get_within, same_clause, step_passes, step_resolves, hints_used}
use Rattle.solv_learn.proofs.search.Search.resolve.Goals as goal
use Rattle.solv_learn.proofs.search.Search.resolve.Goals.{After-reason_at-rule, Start}
use Rattle.solv_derive.proofs.Hints.{clause_over}

reason : (c : Start) → HasReason (c.args.book.now.rules ++ c.args.learnt.now.rules) (λ r. true) c.args.known.now c.args.place
reason c = reason_of (c.args.book.now.rules ++ c.args.learnt.now.rules) (λ r. true) c.args.known.now c.args.place c.requires.reasoned c.requires.place c.requires.no_choice

inside : (c : After-reason_at-rule) → c.reason_at-rule.result < length (c.args.book.now.rules ++ c.args.learnt.now.rules)
inside c =
    let r = reason_of (c.args.book.now.rules ++ c.args.learnt.now.rules) (λ r. true) c.args.known.now c.args.place c.requires.reasoned c.requires.place c.requires.no_choice in
    let P : ℕ → Type 0 = λ v. v < length (c.args.book.now.rules ++ c.args.learnt.now.rules) in
    subst P (sym c.reason_at-rule.ensures) (get_within (c.args.book.now.rules ++ c.args.learnt.now.rules) (get_or c.args.known.now.reasons c.args.place 0) r.clause r.is.found)

pub returns-then-not-has-clause-refutes : goal.returns-then-not-has-clause-refutes
returns-then-not-has-clause-refutes c = λ look kept finds loose before.
    step_passes (c.args.book.now.rules ++ c.args.learnt.now.rules) (length c.args.book.now.rules) c.args.base look kept finds c.args.known.now.lits (has c.args.self.now.marked) (reverse c.args.self.now.hints.items) c.args.place c.requires.place
    (ap (has c.args.self.now.marked) (sym c.lit_at-lit.ensures.lit) ∙ sym c.has.ensures ∙ c.if-not-has.true) before

pub hint_at-requires : goal.hint_at-requires
hint_at-requires c = let i = inside (goal.at.hint_at-requires c).After-reason_at-rule in omega (arith, c.requires.small)

pub lits_of-requires : goal.lits_of-requires
lits_of-requires c = inside (goal.at.lits_of-requires c).After-reason_at-rule

pub mark_all-requires-clause-over : goal.mark_all-requires-clause-over
mark_all-requires-clause-over c = clause_over c.args.known.now.count (c.args.book.now.rules ++ c.args.learnt.now.rules) c.reason_at-rule.result c.lits_of.result.now c.requires.over c.lits_of.ensures

pub returns-clause-refutes : goal.returns-clause-refutes
returns-clause-refutes c = λ look kept finds loose before.
    let rules = c.args.book.now.rules ++ c.args.learnt.now.rules in
    let r = reason (goal.at.returns-clause-refutes c).Start in
    let here : slice_get rules c.reason_at-rule.result ≡ Some r.clause = ap (slice_get rules) c.reason_at-rule.ensures ∙ r.is.found in
    let same : r.clause ≡ c.lits_of.result.now = same_clause rules c.reason_at-rule.result r.clause c.lits_of.result.now here c.lits_of.ensures in
    let P : List ℤ → Type 0 = λ v. forced (take c.args.place c.args.known.now.lits) v ≡ Some (get_or c.args.known.now.lits c.args.place (pos 0)) in
    step_resolves rules (length c.args.book.now.rules) c.args.base look kept finds c.args.known.now.lits (record { apart = c.keep_apart.ensures.apart }) (has c.args.self.now.marked) (has c.mark_all.new.self.marked)
    c.args.self.now.hints.items c.mark_all.new.self.hints.items c.args.place c.reason_at-rule.result c.lits_of.result.now c.requires.place c.lits_of.ensures (subst P same r.forces) loose c.in_ok-mark_all.ensures.marks
    (c.mark_all.ensures.hints ∙ c.in_ok-push.ensures.items ∙ ap (λ v. c.args.self.now.hints.items ++ v ∷ []) c.hint_at.ensures) before

pub returns-clause-in_use : goal.returns-clause-in_use
returns-clause-in_use c = λ used reasoned before.
    let rules = c.args.book.now.rules ++ c.args.learnt.now.rules in
    let r = reason_of rules used c.args.known.now c.args.place reasoned c.requires.place c.requires.no_choice in
    let on : used c.reason_at-rule.result ≡ true = ap used c.reason_at-rule.ensures ∙ r.is.on in
    hints_used used (length c.args.book.now.rules) c.args.base (length rules) c.reason_at-rule.result c.args.self.now.hints.items c.mark_all.new.self.hints.items (inside (goal.at.returns-clause-in_use c).After-reason_at-rule) on
    (c.mark_all.ensures.hints ∙ c.in_ok-push.ensures.items ∙ ap (λ v. c.args.self.now.hints.items ++ v ∷ []) c.hint_at.ensures) before
