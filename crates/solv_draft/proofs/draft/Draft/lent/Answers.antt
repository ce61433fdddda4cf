use Rattle.solv_script.proofs.RowForms.{task_forms}
use Rattle.solv_draft.proofs.draft.Draft.lent.Goals as goal

pub returns-clause-forms : goal.returns-clause-forms
returns-clause-forms c = task_forms c.args.self.now.task c.args.self.now.is.forms
