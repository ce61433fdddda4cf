use Rattle.std.proofs.Common.{◌≡◌, ◌∙◌, ◌++◌, ◌∷◌, [], length, sym, ap, true}
use Rattle.std.proofs.lemmas.Bool.{false≢true}
use Rattle.solv_pool.specs.Prelude.{is_fact, is_refuted}
use Rattle.solv_derive.specs.Forced.{is_falsified}
use Rattle.solv_derive.proofs.Facts.{all_member}
use Rattle.solv_learn.specs.Inner.Marks.{has}
use Rattle.solv_learn.specs.Inner.Refuting.{hint_for}
use Rattle.solv_learn.proofs.Steps.{start_refutes, same_clause}
use Rattle.solv_learn.proofs.search.Search.start.Goals as goal
use Rattle.solv_derive.proofs.Hints.{clause_over}

pub mark_all-requires-clause-over : goal.mark_all-requires-clause-over
mark_all-requires-clause-over c = clause_over c.args.known.now.count (c.args.book.now.rules ++ c.args.learnt.now.rules) c.args.rule c.lits_of.result.now c.requires.over c.lits_of.ensures

pub returns-clause-refutes : goal.returns-clause-refutes
returns-clause-refutes c = λ look kept finds.
    let rules = c.args.book.now.rules ++ c.args.learnt.now.rules in
    let is : c.mark_all.new.self.hints.items ≡ hint_for (length c.args.book.now.rules) c.args.base c.args.rule ∷ [] =
    c.mark_all.ensures.hints ∙ c.in_ok-push.ensures.items ∙ ap (λ v. v ++ c.hint_at.result ∷ []) c.begin.ensures.hints ∙ ap (λ v. v ∷ []) c.hint_at.ensures in
    start_refutes rules (length c.args.book.now.rules) c.args.base look kept finds c.args.known.now.lits (has c.begin.new.self.marked) (has c.mark_all.new.self.marked) c.args.rule c.lits_of.result.now c.mark_all.new.self.hints.items
    c.lits_of.ensures (c.requires.clash c.lits_of.result.now c.lits_of.ensures) c.begin.ensures.marked c.in_ok-mark_all.ensures.marks is

pub returns-clause-marks : goal.returns-clause-marks
returns-clause-marks c = λ d found m k.
    let e : d ≡ c.lits_of.result.now = same_clause (c.args.book.now.rules ++ c.args.learnt.now.rules) c.args.rule d c.lits_of.result.now found c.lits_of.ensures in
    let f : is_falsified c.args.known.now.lits d ≡ true = c.requires.clash d found in
    c.in_ok-mark_all.ensures.marks.marks m (ap (λ v. is_fact v m) (sym e) ∙ k) (all_member (is_refuted c.args.known.now.lits) d f m k)

pub returns-clause-places : goal.returns-clause-places
returns-clause-places c = c.in_ok-mark_all.ensures.places (λ l p q first. absurd (false≢true (sym (c.begin.ensures.marked l) ∙ q)))
