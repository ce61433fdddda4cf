-- What a run over files that a caller lends comes to.
use Rattle.std.specs.Prelude.{ℕ, ◌≡◌, ◌≢◌, true, List, [], Some}
use Rattle.solv_io.specs.declared.status.Status.TheVariants.{ReadFault, WriteFault}
use Rattle.solv_lent.specs.Lent.{is_missing, lent_bytes}
use Rattle.solv_lent.specs.declared.lent_file.LentFile.{LentFile}
use Rattle.solv_script.specs.FileRuns.{FilesRun}
use Rattle.solv_words.specs.declared.command_line.Command.{Command}
use Rattle.solv_said.specs.Dues.{read_fault_due}
use Rattle.solv_said.specs.Runs.{SinkRun}
use Rattle.solv_run.specs.Cases.{IsRun}
use Rattle.solv_run.specs.Dues.{program}
use Rattle.solv_run.specs.Explained.{IsExplained}
use Rattle.solv_run.specs.declared.reports.Report.{Report}
use Rattle.solv_embed.specs.declared.runs.Outcome.{Outcome}

-- files that a caller lends, over a run that asks for these names, and in which so many fetches fail: they expose their contents, and the names asked
-- for
abbrev pub lent_run : List LentFile → List (List ℕ) → ℕ → FilesRun
lent_run files names faults = record { contents = Some (lent_bytes files); asked_before = Some []; asked_after = Some names; faults_before = 0; faults_after = faults }

-- a text that a sink took, which takes every piece whole
abbrev pub text_run : List ℕ → SinkRun
text_run text = record { before = Some []; after = Some text; faults_before = 0; faults_after = 0 }

-- a line says of a name that it cannot be read, and no file that is lent has this name
pub record IsMissingFile (files : List LentFile) (line : List ℕ) : Type 0 where
  pub name : List ℕ
  pub missing : is_missing files name ≡ true
  pub told : line ≡ (read_fault_due program name).err

-- A run of a command over lent files: what is due is the two texts, the status is explained, and no text is cut off. Where a file cannot be read, it is
-- one that is not lent, and its name is reported.
pub record IsLentRun (files : List LentFile) (command : Command) (outcome : Outcome) : Type 0 where
  pub names : List (List ℕ)
  pub faults : ℕ
  pub report : Report
  pub status : outcome.status ≡ report.status
  pub run : IsRun (Some command) (lent_run files names faults) report (text_run outcome.out) (text_run outcome.err)
  pub explained : IsExplained (Some command) (lent_run files names faults) report (text_run outcome.out) (text_run outcome.err)
  pub read_fault : outcome.status ≡ ReadFault → IsMissingFile files outcome.err
  pub whole : outcome.status ≢ WriteFault
