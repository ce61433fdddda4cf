use Rattle.std.proofs.Common.{refl}
use Rattle.std.specs.Fmt.{digits}
use Rattle.solv_worked.proofs.written_texts.whole_scripts.Goals as goal

pub returns-clause-row : goal.returns-clause-row
unfolding digits
returns-clause-row c = refl
