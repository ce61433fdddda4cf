use Rattle.solv_draft.proofs.FormsAsWritten.{forms_written}
use Rattle.solv_draft.proofs.draft.Draft.of.Goals as goal

pub invariant_of-result : goal.invariant_of-result
invariant_of-result c = record { is = record { closed = c.requires.closed; forms = forms_written c.args.task c.requires.forms } }
