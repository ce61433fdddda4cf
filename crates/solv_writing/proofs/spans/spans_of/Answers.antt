use Rattle.std.proofs.Common.{◌∙◌, length, ap, subst, sym}
use Rattle.solv_list.proofs.Lists.{whole_write}
use Rattle.solv_writing.specs.Inner.Spans.{AreSpans}
use Rattle.solv_writing.proofs.spans.spans_of.Goals as goal

pub returns-clause-spans : goal.returns-clause-spans
returns-clause-spans c =
    let old = c.deref_mut.ensures.value in
    subst (λ spans. AreSpans c.args.universe.now.packages (length c.args.universe.now.packages) spans)
    (sym (whole_write c.fill.new.spans c.in_ok-spans.spans.items c.in_ok-spans.spans.len (c.fill.ensures.each ∙ ap length old) c.in_ok-spans.spans.ok.0)) c.fill.ensures.spans
