-- The names of calls. Contracts between layers alone speak of it: for a program in C each call has its own.
use Rattle.std.specs.Prelude.{ℕ, List, codes}
use Rattle.solv_draft.specs.declared.call.Call.{Call}
use Rattle.solv_draft.specs.declared.call.Call.TheVariants as call

-- the name of a call, which stands before the number of a bad line
abbrev pub call_name : Call → List ℕ
call_name (call.Repo name priority) = codes "repo"
call_name (call.Packages repo testtags) = codes "packages"
call_name (call.System arch has installed) = codes "system"
call_name (call.Disable pack) = codes "disable"
call_name (call.Namespace name packs) = codes "namespace"
call_name (call.Flags row) = codes "flags"
call_name (call.Job row) = codes "job"
call_name (call.JobBy provides dep row) = codes "job"
call_name call.NoJobs = codes "job"
