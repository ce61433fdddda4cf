-- What is due is said in part. Contracts between layers alone speak of it.
use Rattle.solv_said.specs.Runs.{SinkRun, WrotePart}
use Rattle.solv_said.specs.declared.dues.Due.{Due}

-- a prefix of each text is written, and no fault counted
pub record IsSaidInPart (due : Due) (out err : SinkRun) : Type 0 where
  pub on_out : WrotePart out due.out
  pub on_err : WrotePart err due.err
