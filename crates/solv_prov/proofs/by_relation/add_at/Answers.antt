use Rattle.std.proofs.Common.{rules, ap, sym, ◌≡◌, ◌∙◌, slice_get, Some, true}
use Rattle.std.proofs.lemmas.Option.{slice_get-get_or}
use Rattle.solv_list.proofs.Answers.{on_ok}
use Rattle.solv_list.proofs.Lists.{some_there}
use Rattle.solv_prov.specs.Inner.Seeking.{offered}
use Rattle.solv_prov.proofs.Steps.{adds_met, adds_unmet}
use Rattle.solv_prov.proofs.by_relation.add_at.Goals as goal

pub returns-then-met : goal.returns-then-met
returns-then-met c =
    let y = c.index.result.now in
    let there : slice_get (offered c.args.sought.now) c.args.place ≡ Some y = slice_get-get_or (offered c.args.sought.now) c.args.place y c.requires.within ∙ ap (λ z. Some z) (sym c.index.ensures) in
    let so : c.is_met-met.result ≡ true = search rules in
    on_ok c.add_provide.result
    (adds_met c.args.pool.now c.args.sought.now c.args.place y c.args.last.now c.add_provide.new.last c.args.made.now c.add_provide.new.made there (sym (c.is_met-met.ensures y there) ∙ so)) c.add_provide.ensures

pub returns : goal.returns
returns c =
    let x = some_there (offered c.args.sought.now) c.args.place c.requires.within in
    adds_unmet c.args.pool.now c.args.sought.now c.args.place x.0 c.args.last.now c.args.made.now x.1 (sym (c.is_met-met.ensures x.0 x.1) ∙ search rules)
