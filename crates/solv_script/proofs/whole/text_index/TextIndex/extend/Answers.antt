use Rattle.std.proofs.Common.{◌≡◌, ◌++◌, ◌+◌, length, ap, sym, subst, refl, ◌∙◌, arith}
use Rattle.solv_pool.specs.PackageText.{package_text}
use Rattle.solv_script.specs.Inner.TextIndexes.{IsTextIndex}
use Rattle.solv_script.proofs.whole.text_index.TextIndex.extend.Goals as goal

pub loop-place-preserved : goal.loop-place-preserved
loop-place-preserved c =
    let task = c.args.task.now in
    let text : c.deref.result.now ≡ package_text task.pool task.universe (c.loop-place.place + 1) = c.deref.ensures.value ∙ c.in_ok-package_text.ensures.ok ∙ ap (λ l. l ++ package_text task.pool task.universe (c.loop-place.place + 1)) c.clear.ensures.items in
    c.in_ok-add.ensures (package_text task.pool task.universe) c.loop-place.place c.loop-place.invariant (sym text) refl

pub returns-clause-index : goal.returns-clause-index
returns-clause-index c =
    let task = c.args.task.now in
    let auto = c.loop-place.auto in
    let test = c.loop-place-test.false in
    let count = c.count-total.ensures in
    let done : c.loop-place.place ≡ length task.universe.packages = omega arith in
    subst (λ n. IsTextIndex (package_text task.pool task.universe) n c.loop-place.self.texts.names c.loop-place.self.numbers.items) done c.loop-place.invariant
