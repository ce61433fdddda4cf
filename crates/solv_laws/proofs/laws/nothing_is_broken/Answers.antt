use Rattle.solv_laws.proofs.NoneBroken.{requirements_hold, conflicts_kept, rich_conflicts_kept, obsoletions_kept, names_kept}
use Rattle.solv_laws.proofs.laws.nothing_is_broken.Goals as goal

pub returns : goal.returns
returns c = record {
  requirements = requirements_hold;
  conflicts = (conflicts_kept, rich_conflicts_kept);
  obsoletions = obsoletions_kept;
  names = names_kept;
}
