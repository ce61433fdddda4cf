use Rattle.std.proofs.Common.{◌++◌, ℕ, false, length, refl, sym, subst}
use Rattle.std.specs.Prelude.{reverse}
use Rattle.solv_learn.specs.Inner.Marks.{has}
use Rattle.solv_learn.specs.Inner.Refuting.{Refutes}
use Rattle.solv_learn.proofs.Learnt.{refuted_is, first_used}
use Rattle.solv_learn.proofs.search.Search.refute.Goals as goal

pub returns-clause-refuted : goal.returns-clause-refuted
returns-clause-refuted c = λ used reasoned on.
    let rules = c.args.book.now.rules ++ c.args.learnt.now.rules in
    let count = length c.args.book.now.rules in
    refuted_is rules used count c.args.base c.args.known.now.lits (has c.below.new.self.marked) c.below.new.self.hints.items c.reverse.new.self.items c.reverse.ensures.items
    (λ look finds.
    let P : ℕ → Type 0 = λ v. Refutes look (λ x. false) c.args.known.now.lits v (has c.start.new.self.marked) (reverse c.start.new.self.hints.items) in
    c.in_ok-below.ensures.refutes look (λ x. false) finds (λ k h. refl) (subst P (sym c.len-all.ensures.many) (c.in_ok-start.ensures.refutes look (λ x. false) finds)))
    (c.in_ok-below.ensures.in_use used reasoned (first_used used count c.args.base (length rules) c.args.rule c.start.new.self.hints.items c.requires.rule on c.in_ok-start.ensures.hints))
