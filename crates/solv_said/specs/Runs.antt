-- How a run ends: what is due is said whole, or a write fault cuts it off.
use Rattle.std.specs.Prelude.{ℕ, ◌≡◌, ◌⊎◌, List, Option}
use Rattle.solv_io.specs.Counters.{Rose}
use Rattle.solv_io.specs.Writes.{then_bytes, WritesPrefix}
use Rattle.solv_io.specs.declared.status.Status.{Status}
use Rattle.solv_io.specs.declared.status.Status.TheVariants as status
use Rattle.solv_script.specs.FileRuns.{FilesRun}
use Rattle.solv_said.specs.declared.dues.Due.{Due}

-- a sink before and after a run: the bytes written, where it exposes them, and its count of faults
pub record SinkRun : Type 0 where
  pub before : Option (List ℕ)
  pub after : Option (List ℕ)
  pub faults_before : ℕ
  pub faults_after : ℕ

-- the same by what a kind of sink exposes
abbrev pub sink_run : {S : Type 0} → (S → Option (List ℕ)) → (S → ℕ) → S → S → SinkRun
sink_run written faults old new = record { before = written old; after = written new; faults_before = faults old; faults_after = faults new }

-- files before and after a run, by what their kind exposes: what they hold, the names asked for, and the count of faults
abbrev pub files_run : {F : Type 0} → (F → Option (List ℕ → Option (List ℕ))) → (F → Option (List (List ℕ))) → (F → ℕ) → F → F → FilesRun
files_run contents asked faults old new = record { contents = contents old; asked_before = asked old; asked_after = asked new; faults_before = faults old; faults_after = faults new }

-- the text was written, and no fault counted
pub record WroteAll (sink : SinkRun) (text : List ℕ) : Type 0 where
  pub text_written : sink.after ≡ then_bytes sink.before text
  pub no_fault : sink.faults_after ≡ sink.faults_before

-- a prefix of the text was written, and no fault counted
pub record WrotePart (sink : SinkRun) (text : List ℕ) : Type 0 where
  pub part_written : WritesPrefix sink.before sink.after text
  pub no_fault : sink.faults_after ≡ sink.faults_before

-- some fault of either sink counted
abbrev pub HasWriteFault : SinkRun → SinkRun → Type 0
HasWriteFault out err = Rose out.faults_before out.faults_after ⊎ Rose err.faults_before err.faults_after

-- the status is the due one, and the due texts are written whole; or a fault takes the place of the status, and prefixes are written
pub data IsSaid (due : Due) (given : Status) (out err : SinkRun) : Type 0 where
  whole : given ≡ due.status → WroteAll out due.out → WroteAll err due.err → IsSaid due given out err
  cut_off : given ≡ status.WriteFault → HasWriteFault out err
      → WritesPrefix out.before out.after due.out → WritesPrefix err.before err.after due.err → IsSaid due given out err
