use Rattle.solv_tags.proofs.EntriesFormed.{entries_formed}
use Rattle.solv_tags.proofs.laws.entries_have_forms.Goals as goal

pub returns : goal.returns
returns c = entries_formed
