use Rattle.std.proofs.Common.{◌≡◌, ◌∙◌, ap, ap₂, false}
use Rattle.std.proofs.lemmas.Result.{IfOk-weaker}
use Rattle.std.specs.Prelude.{codes, pos, true, Some}
use Rattle.clap.specs.Simple.{app_of_fields}
use Rattle.std.specs.Int.{int_max, int_min}
use Rattle.clap.specs.Words.{App, Rule, app_of, rule_of, signed_between, with_rule}
use Rattle.clap.specs.declared.builder.action.ArgAction.TheVariants.{SetTrue}
use Rattle.clap.specs.declared.builder.arg.Arg.{Arg}
use Rattle.clap.specs.declared.builder.value_parser.ValueParser.{ValueParser}
use Rattle.clap.specs.declared.builder.value_parser.ValueParser.TheVariants as vp
use Rattle.solv_words.specs.Inner.ByKinds.{budget, lines, proofs, seed, written}
use Rattle.solv_words.specs.Inner.Clap.{told_of, without_help}
use Rattle.solv_words.proofs.command_line.form.Goals as goal

pub returns : goal.returns
returns c =
    let to_million : ValueParser = vp.Signed (pos 0) (pos 1000000) in
    let whole : ValueParser = vp.Signed (pos 0) (pos 4294967295) in
    let lines_is : rule_of c.action-lines.result ≡ told_of lines =
    ap rule_of c.action-lines.ensures
    ∙ ap (λ (a : Arg). record (rule_of a) { action = Some SetTrue }) c.short.ensures
    ∙ ap (λ (r : Rule). record r { short = Some 114; action = Some SetTrue }) c.new.ensures.rule in
    let proofs_is : rule_of c.action-proofs.result ≡ told_of proofs =
    ap rule_of c.action-proofs.ensures
    ∙ ap (λ (a : Arg). record (rule_of a) { action = Some SetTrue }) c.long-2.ensures
    ∙ ap (λ (r : Rule). record r { long = Some (codes "proof"); action = Some SetTrue }) c.new-4.ensures.rule in
    let written_is : rule_of c.action-written.result ≡ told_of written =
    ap rule_of c.action-written.ensures
    ∙ ap (λ (a : Arg). record (rule_of a) { action = Some SetTrue }) c.long-3.ensures
    ∙ ap (λ (r : Rule). record r { long = Some (codes "write"); action = Some SetTrue }) c.new-5.ensures.rule in
    let narrowed : c.range.result ≡ to_million =
    (rw c.value_parser.ensures at c.range.ensures)
    ∙ ap₂ (λ low high. signed_between (int_max (pos 0) low) (int_min (pos 4294967295) high)) c.new-3.ensures.start c.new-3.ensures.end in
    let of_budget = c.value_parser-budget.ensures.given in
    let budget_is : rule_of c.value_parser-budget.result ≡ told_of budget =
    ap rule_of c.value_parser-budget.ensures.others
    ∙ ap (λ v. rule_of (record c.long.result { value_parser = v })) (of_budget.1 ∙ ap Some (of_budget.2 ∙ narrowed))
    ∙ ap (λ (a : Arg). record (rule_of a) { parser = Some to_million }) c.long.ensures
    ∙ ap (λ (r : Rule). record r { long = Some (codes "budget"); parser = Some to_million }) c.new-2.ensures.rule in
    let of_seed = c.value_parser-seed.ensures.given in
    let seed_is : rule_of c.value_parser-seed.result ≡ told_of seed =
    ap rule_of c.value_parser-seed.ensures.others
    ∙ ap (λ v. rule_of (record c.long-4.result { value_parser = v })) (of_seed.1 ∙ ap Some (of_seed.2 ∙ c.value_parser-2.ensures))
    ∙ ap (λ (a : Arg). record (rule_of a) { parser = Some whole }) c.long-4.ensures
    ∙ ap (λ (r : Rule). record r { long = Some (codes "grow"); parser = Some whole }) c.new-6.ensures.rule in
    let bare : app_of c.disable_help_flag-command.result ≡ without_help =
    ap app_of_fields c.disable_help_flag-command.ensures
    ∙ ap (λ (a : App). record a { top = record a.top { disable_help_flag = true } }) c.new-7.ensures.app in
    let lines_local : c.action-lines.result.global ≡ false = ap (λ (a : Arg). a.global) c.action-lines.ensures ∙ ap (λ (a : Arg). a.global) c.short.ensures ∙ c.new.ensures.optional.1 in
    let budget_local : c.value_parser-budget.result.global ≡ false = ap (λ (a : Arg). a.global) c.value_parser-budget.ensures.others ∙ ap (λ (a : Arg). a.global) c.long.ensures ∙ c.new-2.ensures.optional.1 in
    let proofs_local : c.action-proofs.result.global ≡ false = ap (λ (a : Arg). a.global) c.action-proofs.ensures ∙ ap (λ (a : Arg). a.global) c.long-2.ensures ∙ c.new-4.ensures.optional.1 in
    let written_local : c.action-written.result.global ≡ false = ap (λ (a : Arg). a.global) c.action-written.ensures ∙ ap (λ (a : Arg). a.global) c.long-3.ensures ∙ c.new-5.ensures.optional.1 in
    let seed_local : c.value_parser-seed.result.global ≡ false = ap (λ (a : Arg). a.global) c.value_parser-seed.ensures.others ∙ ap (λ (a : Arg). a.global) c.long-4.ensures ∙ c.new-6.ensures.optional.1 in
    let one = c.in_ok-arg.ensures.shape lines_local ∙ ap₂ with_rule bare lines_is in
    let two = c.in_ok-arg-2.ensures.shape budget_local ∙ ap₂ with_rule one budget_is in
    let three = c.in_ok-arg-3.ensures.shape proofs_local ∙ ap₂ with_rule two proofs_is in
    let four = c.in_ok-arg-4.ensures.shape written_local ∙ ap₂ with_rule three written_is in
    let five = c.in_ok-arg-5.ensures.shape seed_local ∙ ap₂ with_rule four seed_is in
    let local : c.new-file.result.global ≡ false = c.new-file.ensures.optional.1 in
    IfOk-weaker c.arg-6.result _ _ (λ r h. h.shape local ∙ ap₂ with_rule five c.new-file.ensures.rule) c.arg-6.ensures
