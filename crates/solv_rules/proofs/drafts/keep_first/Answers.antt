use Rattle.std.proofs.Common.{◌≡◌, take, ap, arith}
use Rattle.solv_pool.specs.Prelude.{words_of_all}
use Rattle.solv_rules.proofs.Fronts.{words_parts}
use Rattle.solv_rules.proofs.drafts.keep_first.Goals as goal

pub overflow_sub-draft : goal.overflow_sub-draft
overflow_sub-draft c =
    let parts = words_parts c.clauses_before-count.result c.args.draft.now.memory.rules in
    omega (arith, c.requires.exact, c.words_from.ensures, parts)

pub returns-clause-draft : goal.returns-clause-draft
returns-clause-draft c =
    let parts = words_parts c.clauses_before-count.result c.args.draft.now.memory.rules in
    let stay : words_of_all c.truncate.new.self.rules ≡ words_of_all (take c.clauses_before-count.result c.args.draft.now.memory.rules) = ap words_of_all c.truncate.ensures.rules in
    record {
      exact = omega (arith, c.requires.exact, c.words_from.ensures, parts, stay);
      within = omega (arith, c.requires.within);
    }
