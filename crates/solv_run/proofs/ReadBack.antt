-- A script that was read is read back from its text.
use Rattle.std.proofs.Common.{ℕ, ◌≡◌, ◌≤◌, length, List, Option, refl}
use Rattle.std.specs.Prelude.{Result, Ok, Err, IsOkAnd}
use Rattle.solv_script.specs.FileRuns.{FilesRun}
use Rattle.solv_script.specs.Grammar.{Bad, most_file, script_read}
use Rattle.solv_script.specs.Reads.{written_script}
use Rattle.solv_script.specs.ScriptsOf.{IsScriptOf}
use Rattle.solv_script.specs.States.{State}
use Rattle.solv_script.specs.declared.scripts.Script.{Script}
use Rattle.solv_said.specs.Fetches.{WasFetched}
use Rattle.solv_writing.specs.ScriptTexts.{text_of_script}
use Rattle.solv_writing.specs.WrittenBack.{IsReadBack, ScriptsAreReadBack}

text_again_by : ScriptsAreReadBack → (script : Script) (file bytes : List ℕ) (fetched : List (List ℕ)) → IsOkAnd (script_read file fetched bytes) (λ s. IsScriptOf s script) → length (text_of_script (written_script script)) ≤ most_file
    → IsReadBack (written_script script) (text_of_script (written_script script))
text_again_by back script file bytes fetched has short = by (script_read file fetched bytes) refl has
  where
    by : (r : Result State Bad) → script_read file fetched bytes ≡ r → IsOkAnd r (λ s. IsScriptOf s script) → IsReadBack (written_script script) (text_of_script (written_script script))
    by (Ok s) read is = back script (record { name = file; fetched = fetched; bytes = bytes; given = s; read = read; is = is }) short
    by (Err b) read is = absurd is

pub text_again : ScriptsAreReadBack → (named : Option (List ℕ)) (files : FilesRun) (script : Script) → WasFetched named files script → length (text_of_script (written_script script)) ≤ most_file
    → IsReadBack (written_script script) (text_of_script (written_script script))
text_again back named files script was short = text_again_by back script was.file was.bytes was.fetched was.read short
