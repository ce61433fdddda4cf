use Rattle.std.proofs.Common.{refl}
use Rattle.std.specs.Fmt.{digits}
use Rattle.solv_worked.proofs.written_texts.requirements_of_packages.Goals as goal

pub returns : goal.returns
unfolding digits
returns c = refl
