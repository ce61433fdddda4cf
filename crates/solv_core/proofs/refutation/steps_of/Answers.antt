use Rattle.std.proofs.Common.{◌≡◌, ◌<◌, ◌++◌, ◌∷◌, [], ℕ, map, length, take, get_or, sym, ap, ◌∙◌, arith}
use Rattle.std.proofs.lemmas.List.{take_more, get_or_read}
use Rattle.solv_derive.specs.Inner.Trimming.{numbered_by, renumbered}
use Rattle.solv_core.specs.Inner.Holding.{entry_of}
use Rattle.solv_core.specs.declared.ledger.Entry.{Entry}
use Rattle.solv_core.proofs.Holding.{entry_at, renumbered_twice, renumbered_back, some_step, step_at}
use Rattle.solv_core.proofs.refutation.steps_of.Goals as goal

pub loop-rule-preserved : goal.loop-rule-preserved
loop-rule-preserved c = record {
  list = λ steps are many.
      let number : ℕ → ℕ = entry_of c.args.numbers.now.kept.items c.args.numbers.now.first in
      let rule = c.loop-rule.rule in
      let less : rule < c.args.count = c.loop-rule-test.true in
      let within : rule < length steps = omega (arith, less, many) in
      let s = some_step steps rule within in
      let a = are.held rule s.0 s.1 in
      let e = c.index-entries-entry_of.result in
      let n : c.entry_of.result ≡ number rule = c.entry_of.ensures in
      let w : number rule < length c.args.entries.now = c.requires.within rule less in
      let is : e ≡ a.0 = get_or_read c.args.entries.now c.entry_of.result e (omega (arith, w, n)) c.index-entries-entry_of.is e ∙ ap (λ i. get_or c.args.entries.now i e) n ∙ entry_at c.args.entries.now (number rule) a.0 e a.1.0 in
      let back : map (renumbered (numbered_by c.args.places.now)) (map (renumbered number) s.0.hints) ≡ s.0.hints =
      renumbered_twice (numbered_by c.args.places.now) number s.0.hints ∙ renumbered_back (λ m. numbered_by c.args.places.now (number m)) s.0.hints (λ m k. c.requires.placed m (let b : m < rule = are.earlier rule m s.0 s.1 k in omega (arith, b, less))) in
      let made : c.in_ok-step_of.field-0 ≡ s.0 =
      c.in_ok-step_of.ensures
      ∙ ap (λ (v : Entry). record { clause = v.clause; hints = map (renumbered (numbered_by c.args.places.now)) v.hints }) is
      ∙ ap (λ h. record { clause = a.0.clause; hints = map (renumbered (numbered_by c.args.places.now)) h }) a.1.1.1
      ∙ ap (λ h. record { clause = a.0.clause; hints = h }) back
      ∙ ap (λ v. record { clause = v; hints = s.0.hints }) a.1.1.0 in
      c.in_ok-push.ensures.items
      ∙ ap (λ l. l ++ c.in_ok-step_of.field-0 ∷ []) (c.loop-rule.invariant.list steps are many)
      ∙ ap (λ v. take rule steps ++ v ∷ []) (made ∙ sym (step_at steps rule s.0 s.0 s.1))
      ∙ sym (take_more steps rule s.0 within);
}
