use Rattle.std.proofs.Common.{◌≤◌, ◌∙◌, length, get_or, sym, arith}
use Rattle.std.proofs.lemmas.Option.{slice_get-get_or}
use Rattle.solv_writing.specs.declared.spans.Span.{Span}
use Rattle.solv_writing.proofs.RepositorySpans.{spans_stay, spans_turn}
use Rattle.solv_writing.proofs.spans.widen.Goals as goal

pub returns-then-number-spans-clause-spans : goal.returns-then-number-spans-clause-spans
returns-then-number-spans-clause-spans c = λ packages a at own each.
    spans_stay packages a c.args.spans.now c.args.repo c.args.place (let e = c.repo.view_is in let high : length c.args.spans.now ≤ c.args.repo = omega (arith, e) in high) at own each

pub returns-clause-spans : goal.returns-clause-spans
returns-clause-spans c = λ packages a at own each.
    let none : Span = record { first = 0; end = 0 } in
    spans_turn packages a c.args.spans.now c.repo.inside.0 c.args.place c.begin-first.result (get_or c.args.spans.now c.repo.inside.0 none) (slice_get-get_or c.args.spans.now c.repo.inside.0 none c.if-number-spans.false) c.begin-first.ensures at
    (own ∙ sym c.repo.view_is) each
