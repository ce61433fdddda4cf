-- Packages of an open file, whose bytes are counted when they were read.
use Rattle.std.proofs.Common.{◌≡◌, ℕ, ◌+◌, ◌≤◌, List, length, Option, Result, Ok, Err, refl, sym, ap, subst, ◌∙◌}
use Rattle.std.specs.Prelude.{OnOk, IfErr, ⊤}
use Rattle.solv_tags.specs.Inner.Pieces.{HasReadFile}
use Rattle.solv_commands.specs.declared.causes.Cause.{Cause}
use Rattle.solv_io.specs.Lines.{numbered_lines}
use Rattle.solv_tags.specs.Testtags.{Repository, testtags}
use Rattle.solv_tags.specs.declared.tag_fault.TagFault.{TagFault}
use Rattle.solv_script.specs.Grammar.{Bad, counted, most_script, repository_given}
use Rattle.solv_script.specs.Inner.Halts.{IsRefusal}
use Rattle.solv_script.specs.Inner.LineRows.{of_packages, with_lines, fetched_given}
use Rattle.solv_script.specs.Inner.Readings.{IsReader, HasRead, state_of}
use Rattle.solv_script.specs.States.{State}
use Rattle.solv_script.specs.declared.scripts.ScriptFault.{ScriptFault}
use Rattle.solv_script.specs.declared.whole.reader.Reader.{Reader}
use Rattle.solv_script.proofs.RowReadings.{lines_there, with_bytes, state_with_bytes}

-- what gives this, with other bytes
abbrev bytes_of : ℕ → Result State Bad → Result State Bad
bytes_of total (Ok s) = Ok (record s { bytes = total })
bytes_of total (Err b) = Err b

-- a repository gives the same whatever the bytes are
same_but_bytes : (s : State) (total : ℕ) (file : List ℕ) (given : Result Repository TagFault) → repository_given (record s { bytes = total }) file given ≡ bytes_of total (repository_given s file given)
same_but_bytes s total file (Ok r) = refl
same_but_bytes s total file (Err fault) = refl

module _ (script : List ℕ) (r : Reader) (reader : IsReader r) (n : ℕ) (file bytes : List ℕ) where
  -- too many bytes
  pub size_refused : (cause : Cause) → counted (state_of r) (length bytes) ≡ Err cause → fetched_given script of_packages (state_of r) n file bytes ≡ Err (record { file = script; line = n; cause = cause })
  size_refused cause is = rw is refl

  module _ (total : ℕ) (fits : counted (state_of r) (length bytes) ≡ Ok (record (state_of r) { bytes = total })) where
    lines_given : fetched_given script of_packages (state_of r) n file bytes ≡ with_lines of_packages (record (state_of r) { bytes = total }) file (numbered_lines bytes)
    lines_given = rw fits refl

    pub packages_counted : (middle : Reader) → HasRead middle (with_lines of_packages (state_of r) file (numbered_lines bytes)) → total ≤ most_script → HasRead (record middle { bytes = total }) (fetched_given script of_packages (state_of r) n file bytes)
    packages_counted middle h within = record {
      is = lines_given ∙ same_but_bytes (state_of r) total file _ ∙ ap (bytes_of total) h.is ∙ ap Ok (sym (state_with_bytes middle total));
      reader = with_bytes middle h.reader total within;
    }

    pub lines_refused : (repo : ℕ) → repo + 1 ≡ length r.task.universe.repos → total ≤ most_script → (fault : ScriptFault)
        → IsRefusal fault (repository_given (state_of (record r { bytes = total })) file (testtags r.task.pool (length r.task.universe.packages) repo (numbered_lines bytes))) → IsRefusal fault (fetched_given script of_packages (state_of r) n file bytes)
    lines_refused repo last within fault h =
        let there = lines_there (record r { bytes = total }) (with_bytes r reader total within) file (numbered_lines bytes) repo last in
        subst (λ (given : Result State Bad). IsRefusal fault given)
        (sym (lines_given ∙ ap (λ (s : State). with_lines of_packages s file (numbered_lines bytes)) (sym (state_with_bytes r total)) ∙ there)) h

-- what was read, however its lines ended
pub some_bytes : (most size : ℕ) (left : Option (List ℕ)) (said : Result (Unit {0}) TagFault) (P : List ℕ → Type 0) (Q : TagFault → List ℕ → Type 0) → OnOk said (HasReadFile most size left P) → IfErr said (λ fault. HasReadFile most size left (Q fault))
    → HasReadFile most size left (λ bytes. ⊤)
some_bytes most size left (Ok x) P Q h k = record { bytes = h.bytes; count = h.count; known = h.known; holds = tt }
some_bytes most size left (Err fault) P Q h k = record { bytes = k.bytes; count = k.count; known = k.known; holds = tt }
