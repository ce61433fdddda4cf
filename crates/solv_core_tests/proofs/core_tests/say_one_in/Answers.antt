use Rattle.std.proofs.Common.{◌+◌, ◌∙◌, sym, ap, ◌&&◌, drop}
use Rattle.solv_core_tests.specs.OnePackage.{say_one_in}
use Rattle.solv_core_tests.proofs.Others.{say_next}
use Rattle.solv_core_tests.proofs.core_tests.say_one_in.Goals as goal

pub loop-rule-preserved : goal.loop-rule-preserved
loop-rule-preserved c =
    let i = c.loop-rule.rule in
    sym (say_next c.args.pack c.args.memory.now.rules i c.lits.result.now c.lits.ensures.held
    ∙ ap (λ b. b && say_one_in c.args.pack (drop (i + 1) c.args.memory.now.rules)) (sym c.says_one_in.ensures ∙ c.if-not-says_one_in.false))
    ∙ c.loop-rule.invariant
