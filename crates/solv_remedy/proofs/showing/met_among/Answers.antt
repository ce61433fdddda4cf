use Rattle.std.proofs.Common.{◌≡◌, ◌∷◌, ◌∙◌, [], refl, ap, true}
use Rattle.std.specs.List.{list_all}
use Rattle.std.specs.Prelude.{slice_index}
use Rattle.std.proofs.lemmas.Bool.{and_from}
use Rattle.solv_list.proofs.Lists.{list_all_join}
use Rattle.solv_remedy.proofs.Fronts.{all_index}
use Rattle.solv_remedy.proofs.showing.met_among.Goals as goal
use Rattle.solv_remedy.proofs.showing.met_among.Goals.{then-meets+in_ok-push, else-meets}

pub loop-rule-preserved : goal.loop-rule-preserved
loop-rule-preserved c = λ p all.
    let rule = slice_index c.args.rules.now c.loop-rule.rule-index in
    elim c.if-meets.branch [
      | then-meets+in_ok-push w ↦ ap (λ v. list_all p v.items) w.met-is ∙ ap (list_all p) w.in_ok-push.ensures.items
          ∙ list_all_join p c.loop-rule.met.items (rule ∷ []) (c.loop-rule.invariant p all) (and_from (p rule) true (all_index p c.args.rules.now c.loop-rule.rule-index all c.loop-rule-test.true) refl)
      | else-meets w ↦ ap (λ v. list_all p v.items) w.met-is ∙ c.loop-rule.invariant p all
    ]
