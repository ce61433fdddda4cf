use Rattle.std.proofs.Common.{◌≡◌, ◌∙◌, sym, ap, true, false, Some}
use Rattle.std.specs.Str.{bytes_eq}
use Rattle.solv_io.proofs.HeldFiles.{file_of-drop}
use Rattle.solv_io.proofs.mem_files.find_file.Goals as goal

pub returns-then-eq : goal.returns-then-eq
returns-then-eq c =
    let e = c.loop-held_name-item.result in
    let step = file_of-drop c.args.held.now c.args.name.now c.loop-held_name.held_name-index e c.loop-held_name-test.true c.loop-held_name-item.is in
    let same : bytes_eq c.args.name.now e.0 ≡ true = rw (← c.held.ensures) (sym c.eq.ensures ∙ c.if-eq.true) in
    ap Some c.held-then-eq.ensures ∙ sym (rw same at step) ∙ c.loop-held_name.invariant

pub loop-held_name-preserved : goal.loop-held_name-preserved
loop-held_name-preserved c =
    let e = c.loop-held_name-item.result in
    let step = file_of-drop c.args.held.now c.args.name.now c.loop-held_name.held_name-index e c.loop-held_name-test.true c.loop-held_name-item.is in
    let other : bytes_eq c.args.name.now e.0 ≡ false = rw (← c.held.ensures) (sym c.eq.ensures ∙ c.if-eq.false) in
    sym (rw other at step) ∙ c.loop-held_name.invariant
