-- Nothing may be left out.
use Rattle.std.proofs.Common.{List, [], refl}
use Rattle.solv_pool.specs.Prelude.{Catalog}
use Rattle.solv_pool.specs.declared.jobs.Job.{Job}
use Rattle.solv_pool.specs.declared.job_marks.Marks.{Marks}
use Rattle.solv_pool.specs.declared.tasks.Flags.{Flags}
use Rattle.solv_leaving.specs.Inner.Leaving.{LeavesOut}

pub none_left_out : (catalog : Catalog) (flags : Flags) (jobs : List Job) (marks : Marks) → LeavesOut catalog flags jobs marks []
none_left_out catalog flags jobs marks = record {
  system = refl;
  kept = λ p q i h. refl;
  selected = λ q h. refl;
  offered = λ q h. refl;
  rich = λ q h. refl;
  needed = λ p q i h k. refl;
  touched = λ p q i h k. refl;
}
