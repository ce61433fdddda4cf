-- Dependencies of a task have as they are written the forms that they have.
use Rattle.std.proofs.Common.{◌≡◌, ℕ, Bool, true, false, List, ◌++◌, map, refl, sym, ap, ◌∙◌}
use Rattle.std.specs.List.{list_all}
use Rattle.std.proofs.lemmas.List.{map-append}
use Rattle.solv_base.specs.Dependency.{Dep, tree}
use Rattle.solv_base.specs.Pool.{text_at, text_tree}
use Rattle.solv_deps.specs.Table.{is_capability}
use Rattle.solv_pool.specs.Prelude.{Catalog, catalog_of, WrittenJob, WrittenNeed, written_choice, written_job, written_package, written_task}
use Rattle.solv_pool.specs.TaskForms.{HasForms, has_form, is_plain_form, is_formed, is_formed_choice}
use Rattle.solv_pool.specs.declared.jobs.Choice.{Choice}
use Rattle.solv_pool.specs.declared.jobs.Choice.TheVariants.{Name, Provides}
use Rattle.solv_pool.specs.declared.jobs.Job.{Job}
use Rattle.solv_pool.specs.declared.packages.Need.{Need}
use Rattle.solv_pool.specs.declared.packages.Package.{Package}
use Rattle.solv_pool.specs.declared.tasks.Task.{Task}
use Rattle.solv_script.specs.Inner.WrittenForms.{HasWrittenForms, is_written_choice}
use Rattle.solv_tags.specs.EntryForms.{has_written_form, is_written_formed}
use Rattle.solv_tags.proofs.FormsById.{fits_mapped, operators_mapped, same_all, written_plain}

module _ (catalog : Catalog) where
  form_written : (at : Bool) (d : ℕ) → has_written_form at (text_tree catalog.pool d) ≡ has_form catalog at d
  unfolding text_tree
  form_written at d =
      let f = text_at catalog.pool in
      let t = tree catalog.pool.nodes d in
      rw (fits_mapped f at t, operators_mapped f t) refl

  package_written : (a : Package) → is_written_formed (written_package catalog.pool a) ≡ is_formed catalog a
  package_written a =
      let at : ℕ → Dep (List ℕ) = text_tree catalog.pool in
      let needs = same_all {X = Need} {Y = WrittenNeed} (λ need. has_form catalog true need.dep) (λ need. has_written_form true need.dep) (λ need. record { dep = text_tree catalog.pool need.dep; pre = need.pre }) (λ need. form_written true need.dep) a.requires_ in
      let conflicts = same_all (has_form catalog false) (has_written_form false) at (form_written false) a.conflicts in
      let plain : list_all is_capability (map at a.provides ++ map at a.obsoletes) ≡ list_all (is_plain_form catalog) (a.provides ++ a.obsoletes)
      = ap (list_all is_capability) (sym (map-append at a.provides a.obsoletes)) ∙ same_all (is_plain_form catalog) is_capability at (written_plain catalog) (a.provides ++ a.obsoletes) in
      let l2 : map at (a.supplements ++ a.enhances) ≡ map at a.supplements ++ map at a.enhances = map-append at a.supplements a.enhances in
      let l1 : map at (a.suggests ++ (a.supplements ++ a.enhances)) ≡ map at a.suggests ++ map at (a.supplements ++ a.enhances) = map-append at a.suggests (a.supplements ++ a.enhances) in
      let l0 : map at (a.recommends ++ (a.suggests ++ (a.supplements ++ a.enhances))) ≡ map at a.recommends ++ map at (a.suggests ++ (a.supplements ++ a.enhances)) = map-append at a.recommends (a.suggests ++ (a.supplements ++ a.enhances)) in
      let lists : map at a.recommends ++ (map at a.suggests ++ (map at a.supplements ++ map at a.enhances)) ≡ map at (a.recommends ++ (a.suggests ++ (a.supplements ++ a.enhances))) = rw (l0, l1, l2) refl in
      let weak : list_all (has_written_form true) (map at a.recommends ++ (map at a.suggests ++ (map at a.supplements ++ map at a.enhances))) ≡ list_all (has_form catalog true) (a.recommends ++ (a.suggests ++ (a.supplements ++ a.enhances)))
      = ap (list_all (has_written_form true)) lists ∙ same_all (has_form catalog true) (has_written_form true) at (form_written true) (a.recommends ++ (a.suggests ++ (a.supplements ++ a.enhances))) in
      rw (needs, conflicts, plain, weak) refl

  choice_written : (choice : Choice) → is_written_choice (written_choice catalog.pool choice) ≡ is_formed_choice catalog choice
  choice_written (Name d) = written_plain catalog d
  choice_written (Provides d) = written_plain catalog d
  choice_written _ = refl

-- so a task whose dependencies have such forms has them as it is written
pub forms_written : (task : Task) → HasForms task → HasWrittenForms (written_task task)
forms_written task f =
    let catalog = catalog_of task in
    record {
      packages = same_all (is_formed catalog) is_written_formed (written_package task.pool) (package_written catalog) task.universe.packages ∙ f.packages;
      jobs = same_all {X = Job} {Y = WrittenJob} (λ job. is_formed_choice catalog job.choice) (λ job. is_written_choice job.choice) (written_job task.pool) (λ job. choice_written catalog job.choice) task.jobs ∙ f.jobs;
    }
