use Rattle.std.proofs.Common.{◌∙◌, sym}
use Rattle.solv_deps.specs.Inner.Drafts.{said}
use Rattle.solv_deps.specs.Inner.Points.{rule_hand, hands}
use Rattle.solv_deps.proofs.Points.{stands_operator, evr_entered}
use Rattle.solv_deps.proofs.reading.take_evr.Goals as goal

pub returns-then-is_plain_word-clause-ok : goal.returns-then-is_plain_word-clause-ok
returns-then-is_plain_word-clause-ok c =
    let old = c.args.draft.now in
    stands_operator old c.push-id.new.self c.args.outer.now c.args.count c.args.rule c.push-id.result _ _ c.requires.within c.push-id.ensures.entered c.push-id.ensures.longer c.requires.room c.requires.few
    (evr_entered (hands (said old) c.args.outer.now) c.args.count (rule_hand (said old) c.args.rule) c.args.name.now c.args.cmp c.args.word.now (sym c.is_plain_word.ensures ∙ c.if-is_plain_word.true))
