-- Tables of what may be asked for by itself.
use Rattle.std.proofs.Common.{◌≡◌, ◌+◌, ◌<◌, Bool, List, length, ap, ◌∙◌, arith}
use Rattle.solv_pool.specs.Prelude.{Catalog, mark_each}
use Rattle.solv_pool.specs.JobKinds.{job_selects}
use Rattle.solv_pool.specs.JobKinds.{acts}
use Rattle.solv_pool.specs.declared.jobs.Action.TheVariants.{Install}
use Rattle.solv_pool.specs.declared.jobs.Job.{Job}
use Rattle.solv_pool.specs.declared.job_marks.Marks.{Marks}
use Rattle.solv_pool.specs.declared.tasks.Flags.{Flags}
use Rattle.solv_clean.specs.Inner.Tables.{is_marked}
use Rattle.solv_clean.proofs.Told.{mark_at, mark_entries}
use Rattle.solv_leaving.specs.Inner.Starting.{AreStarted, AreStarts}

module _ (catalog : Catalog) (flags : Flags) (marks : Marks) where
  pub are_starts : (jobs : List Job) (M N : List Bool) → M ≡ mark_each catalog jobs (job_selects catalog jobs (acts Install)) → AreStarted catalog flags marks (length catalog.universe.packages) M N
      → AreStarts catalog flags marks jobs N
  are_starts jobs M N is f =
      let size : length N ≡ length catalog.universe.packages + 1 = f.size ∙ ap length is ∙ mark_entries catalog jobs (job_selects catalog jobs (acts Install)) in record {
        size = size;
        selected = λ q low lt h.
            let high : q < length catalog.universe.packages + 1 = omega (arith, lt, size) in
            f.keeps q (ap (λ t. is_marked t q) is ∙ mark_at catalog jobs (job_selects catalog jobs (acts Install)) q low high ∙ h);
        starts = λ p q low high lt h.
            let near : p < length catalog.universe.packages + 1 = omega (arith, high, size) in let far : q < length M = omega (arith, lt, f.size) in f.starts p q low near far h;
      }
