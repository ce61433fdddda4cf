use Rattle.std.proofs.Common.{rules}
use Rattle.solv_draft.specs.Drafts.{drawn}
use Rattle.solv_draft.proofs.draft.Draft.new.Goals as goal

pub returns : goal.returns
unfolding drawn
returns c = search rules
