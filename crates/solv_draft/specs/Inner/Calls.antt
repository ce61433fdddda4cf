-- What each call gives. Contracts between layers alone speak of it: for a program in C each call has its own.
use Rattle.std.specs.Prelude.{Bool, true, false, Result}
use Rattle.solv_script.specs.States.{State}
use Rattle.solv_draft.specs.Drafts.{repo_given, packages_given, system_given, disabled_given, namespace_given, flags_given, job_given, job_by_given, no_jobs_given}
use Rattle.solv_draft.specs.declared.call.Call.{Call}
use Rattle.solv_draft.specs.declared.call.Call.TheVariants.{Repo, Packages, System, Disable, Namespace, Flags, Job, JobBy, NoJobs}
use Rattle.solv_draft.specs.declared.draft_fault.DraftFault.{DraftFault}

-- what a call gives
abbrev pub given : Call → State → Result State DraftFault
given (Repo name priority) = repo_given name.now priority
given (Packages repo testtags) = packages_given repo testtags.now
given (System arch has installed) = system_given arch has installed
given (Disable pack) = disabled_given pack
given (Namespace name packs) = namespace_given name.now packs.now
given (Flags row) = flags_given row.now
given (Job row) = job_given row.now
given (JobBy provides dep row) = job_by_given provides dep.now row.now
given NoJobs = no_jobs_given

-- whether the texts of a call go into the task's pool
abbrev pub enters_texts : Call → Bool
enters_texts (Repo name priority) = true
enters_texts (Packages repo testtags) = true
enters_texts (System arch has installed) = false
enters_texts (Disable pack) = false
enters_texts (Namespace name packs) = true
enters_texts (Flags row) = false
enters_texts (Job row) = false
enters_texts (JobBy provides dep row) = true
enters_texts NoJobs = false
