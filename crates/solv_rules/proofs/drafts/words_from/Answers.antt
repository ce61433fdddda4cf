use Rattle.std.proofs.Common.{◌≡◌, ◌+◌, ◌∙◌, drop, ap, arith}
use Rattle.std.proofs.lemmas.List.Sums.{sum_by-cons}
use Rattle.solv_list.proofs.Lists.{drop_get}
use Rattle.solv_pool.specs.Prelude.{words, words_of_all}
use Rattle.solv_rules.proofs.drafts.words_from.Goals as goal

pub loop-rule-preserved : goal.loop-rule-preserved
loop-rule-preserved c =
    let clauses = c.args.memory.now.rules in
    let k = c.loop-rule.rule in
    let clause = c.lits.result.now in
    let split : words_of_all (drop k clauses) ≡ words clause + words_of_all (drop (k + 1) clauses) =
    ap words_of_all (drop_get clauses k clause c.lits.ensures.held) ∙ sum_by-cons words clause (drop (k + 1) clauses) in
    let sum = c.loop-rule.invariant.sum in
    let small = c.loop-rule.invariant.small in
    let few = c.lits.ensures.few in
    record { sum = omega (arith, split, sum); small = omega (arith, small, few) }
