-- A script that was read, written as one text, is read as the same, and no file is fetched for that.
use Rattle.std.specs.Prelude.{ℕ, ◌≡◌, ◌≤◌, List, [], length, Ok, IsOkAnd}
use Rattle.solv_script.specs.Grammar.{most_file, script_read, script_due}
use Rattle.solv_script.specs.Reads.{WrittenScript, written_script}
use Rattle.solv_script.specs.ScriptsOf.{IsScriptOf}
use Rattle.solv_script.specs.States.{State, script_given}
use Rattle.solv_script.specs.declared.scripts.Script.{Script}
use Rattle.solv_writing.specs.ScriptTexts.{text_of_script}

-- whatever the text is called, and whatever files there are: it gives this script, and no file is due
pub record IsReadBack (sense : WrittenScript) (text : List ℕ) : Type 0 where
  pub given : (name : List ℕ) (fetched : List (List ℕ)) → IsOkAnd (script_read name fetched text) (λ t. script_given t ≡ sense)
  pub due : (name : List ℕ) (fetched : List (List ℕ)) → script_due name fetched text ≡ []

-- a script came from a text: its lines give it, with files of these bytes fetched
pub record CameFromText (script : Script) : Type 0 where
  pub name : List ℕ
  pub fetched : List (List ℕ)
  pub bytes : List ℕ
  pub given : State
  pub read : script_read name fetched bytes ≡ Ok given
  pub is : IsScriptOf given script

-- each script that was read is read back where its text is no longer than a file may be
abbrev pub ScriptsAreReadBack : Type 0
ScriptsAreReadBack = (script : Script) → CameFromText script → length (text_of_script (written_script script)) ≤ most_file → IsReadBack (written_script script) (text_of_script (written_script script))
