use Rattle.std.proofs.Common.{Option, sym, subst}
use Rattle.std.specs.Prelude.{IfSome}
use Rattle.solv_pool.specs.Prelude.{written_task}
use Rattle.solv_script.specs.Inner.Finders.{HasFirst}
use Rattle.solv_script.specs.declared.whole.text_index.TextIndex.{TextIndex}
use Rattle.solv_script.proofs.TextIndexed.{index_held, index_within}
use Rattle.solv_script.proofs.whole.finder.Finder.whole_index.Goals as goal

pub extend-requires-clause-within : goal.extend-requires-clause-within
extend-requires-clause-within c =
    let task = c.args.task.now in
    index_within task c.in-Some.index (subst (λ (o : Option TextIndex). IfSome o (HasFirst (written_task task).repos (written_task task).packages)) (sym c.in-Some.ensures.value) c.requires.finder)

pub extend-requires-clause-index : goal.extend-requires-clause-index
extend-requires-clause-index c =
    let task = c.args.task.now in
    index_held task c.in-Some.index (subst (λ (o : Option TextIndex). IfSome o (HasFirst (written_task task).repos (written_task task).packages)) (sym c.in-Some.ensures.value) c.requires.finder)
