use Rattle.std.proofs.Common.{◌∙◌, sym, arith}
use Rattle.solv_deps.specs.Inner.Drafts.{said}
use Rattle.solv_deps.specs.Inner.Points.{rule_hand, hands}
use Rattle.solv_deps.proofs.Points.{stands_operator, stands_open, stands_named, operand_namespace}
use Rattle.solv_deps.proofs.reading.take_operand.Goals as goal

pub returns-then-opens_one-clause-ok : goal.returns-then-opens_one-clause-ok
returns-then-opens_one-clause-ok c =
    stands_open c.args.draft.now c.args.outer.now c.push.new.self c.args.count c.args.rule c.args.word.now c.push.ensures c.requires.within c.requires.room c.requires.few
    (sym c.opens_one.ensures ∙ c.if-opens_one.true) (omega arith)

pub returns-then-is_namespace_name-clause-ok : goal.returns-then-is_namespace_name-clause-ok
returns-then-is_namespace_name-clause-ok c =
    let old = c.args.draft.now in
    stands_operator old c.push-id.new.self c.args.outer.now c.args.count c.args.rule c.push-id.result _ _ c.requires.within c.push-id.ensures.entered c.push-id.ensures.longer c.requires.room c.requires.few
    (operand_namespace (hands (said old) c.args.outer.now) c.args.count (rule_hand (said old) c.args.rule) c.args.word.now (sym c.is_plain_word.ensures ∙ c.if-is_plain_word.true) (sym c.is_namespace_name.ensures ∙ c.if-is_namespace_name.true))

pub returns-then-is_plain_word-clause-ok : goal.returns-then-is_plain_word-clause-ok
returns-then-is_plain_word-clause-ok c =
    stands_named c.args.draft.now c.args.outer.now c.args.count c.args.rule c.args.word c.requires.within c.requires.room c.requires.few
    (sym c.is_plain_word.ensures ∙ c.if-is_plain_word.true) (sym c.is_namespace_name.ensures ∙ c.if-is_namespace_name.false)
