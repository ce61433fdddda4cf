-- Each script that was read is read back.
use Rattle.std.proofs.Common.{◌≡◌, ◌≤◌, ℕ, true, List, length, Result, Ok, Err, sym, subst}
use Rattle.std.specs.Prelude.{IfOk}
use Rattle.std.specs.List.{list_all}
use Rattle.solv_io.specs.JoinedWords.{is_line}
use Rattle.solv_base.specs.Pool.{Held, IsPool}
use Rattle.solv_deps.specs.Laws.{HeldIsEntered, PrintedIsReadAgain, ReadIsWritten}
use Rattle.solv_script.specs.Grammar.{Bad, most_file, script_read}
use Rattle.solv_script.specs.Reads.{WrittenScript, written_script}
use Rattle.solv_script.specs.States.{State}
use Rattle.solv_writing.specs.Inner.ReadScripts.{IsReadScript, HoldsScript}
use Rattle.solv_writing.specs.Inner.ScriptParts.{lines_of_script, text_in_parts}
use Rattle.solv_writing.specs.WrittenBack.{IsReadBack, ScriptsAreReadBack}
use Rattle.solv_writing.proofs.GoodStates.{IsGood, script_good}
use Rattle.solv_writing.proofs.HoldsAll.{script_held}
use Rattle.solv_writing.proofs.KeptLines.{script_kept}
use Rattle.solv_writing.proofs.LinedTexts.{script_lined}
use Rattle.solv_writing.proofs.TextInParts.{text_is}

good_of : (r : Result State Bad) (s : State) → r ≡ Ok s → IfOk r IsGood → IsGood s
good_of (Ok t) s e h = let same : t ≡ s = cc in subst IsGood same h
good_of (Err b) s e h = absurd (cc)

-- what can be written is read back, where a pool holds it
abbrev pub WrittenIsReadBack : Type 0
WrittenIsReadBack = HeldIsEntered → (whole : Held) → IsPool whole → (w : WrittenScript) → IsReadScript w → HoldsScript whole w → list_all is_line (lines_of_script w) ≡ true → length (text_in_parts w) ≤ most_file
    → IsReadBack w (text_in_parts w)

pub each_read_back : WrittenIsReadBack → HeldIsEntered → PrintedIsReadAgain → ReadIsWritten → ScriptsAreReadBack
each_read_back read_back held again written script came short =
    let is = came.is in
    let good : IsGood came.given = good_of (script_read came.name came.fetched came.bytes) came.given came.read (script_kept again written came.name came.fetched came.bytes) in
    let sense : IsReadScript (written_script script) = subst IsReadScript (sym is.written) (script_good came.given good) in
    let same = text_is (written_script script) in
    subst (IsReadBack (written_script script)) (sym same)
    (read_back held script.task.pool (subst IsPool (sym is.pool) is.each_once) (written_script script) sense (script_held script is.closed) (script_lined (written_script script) sense)
    (subst (λ (text : List ℕ). length text ≤ most_file) same short))
