use Rattle.std.proofs.Common.{◌∙◌, ℕ, ap, subst}
use Rattle.std.specs.Prelude.{IfOk}
use Rattle.solv_pool.specs.Prelude.{are_over}
use Rattle.solv_core.specs.Inner.Contradictions.{AreRefuted}
use Rattle.solv_core.proofs.Bottom.{founded_front}
use Rattle.solv_core.proofs.refuting.refuted_at_end.Goals as goal

pub refuted_among-requires-clause-founded : goal.refuted_among-requires-clause-founded
refuted_among-requires-clause-founded c =
    founded_front c.args.used.now.book.now.rules c.args.used.now.owners.now c.args.used.now.enabled.now c.args.parts.now.learnt.rules c.args.parts.now.numbers.kept.items c.args.parts.now.numbers.first c.args.entries.now c.args.parts.now.known c.take_back.new.known c.take_back.ensures.count c.take_back.ensures.reasoned c.requires.founded

pub refuted_among-requires-clause-over : goal.refuted_among-requires-clause-over
refuted_among-requires-clause-over c = ap (λ n. are_over n c.args.used.now.book.now.rules) c.take_back.ensures.count ∙ c.requires.over

pub returns-clause-refuted : goal.returns-clause-refuted
returns-clause-refuted c =
    let P : ℕ → Type 0 = λ n. IfOk c.refuted_among.result (λ found. AreRefuted c.args.used.now.book.now.rules c.args.used.now.owners.now n c.args.used.now.enabled.now c.args.clauses.now found.items) in
    subst P c.take_back.ensures.count c.refuted_among.ensures.refuted
