use Rattle.std.proofs.Common.{◌≤◌, ◌+◌, sym, subst, arith}
use Rattle.solv_pool.specs.Prelude.{Catalog, catalog_of}
use Rattle.solv_rules.specs.Books.{most_words}
use Rattle.solv_leaving.specs.Inner.Fitting.{words_at, words_left_out}
use Rattle.solv_leaving.proofs.Bounds.{within_some, within_none, few_enough, too_many, next_of, none_of, left_words}
use Rattle.solv_leaving.proofs.fitting.all_fit.Goals as goal

pub returns-in-None : goal.returns-in-None
returns-in-None c =
    let catalog : Catalog = catalog_of c.args.task.now in
    let many = within_none (c.loop-before.sum + words_at catalog c.args.left.now (c.loop-before.before + 1)) (sym c.in-None.ensures) in
    let next = next_of (words_at catalog c.args.left.now) c.loop-before.before c.count-before-end.result (omega arith) in
    let whole = c.loop-before.invariant.whole in
    let all = left_words catalog c.args.left.now in
    sym (too_many (c.args.words + words_left_out catalog c.args.left.now) (omega (arith, many, next, whole, all)))

pub loop-before-preserved : goal.loop-before-preserved
loop-before-preserved c =
    let catalog : Catalog = catalog_of c.args.task.now in
    let own = within_some (c.loop-before.sum + words_at catalog c.args.left.now (c.loop-before.before + 1)) c.in-Some.more (sym c.in-Some.ensures) in
    let next = next_of (words_at catalog c.args.left.now) c.loop-before.before c.count-before-end.result (omega arith) in
    let whole = c.loop-before.invariant.whole in
    let same = own.0 in
    record { few = subst (λ n. n ≤ most_words) (sym own.0) own.1; whole = omega (arith, same, next, whole) }

pub returns : goal.returns
returns c =
    let catalog : Catalog = catalog_of c.args.task.now in
    let none = none_of (words_at catalog c.args.left.now) c.loop-before.before c.count-before-end.result (omega arith) in
    let whole = c.loop-before.invariant.whole in
    let few = c.loop-before.invariant.few in
    let all = left_words catalog c.args.left.now in
    sym (few_enough (c.args.words + words_left_out catalog c.args.left.now) (omega (arith, none, whole, few, all)))
