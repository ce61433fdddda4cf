use Rattle.std.proofs.Common.{◌≡◌, ◌∙◌, sym, true, false}
use Rattle.std.specs.Str.{bytes_eq}
use Rattle.solv_lent.proofs.HeldFiles.{file_at, lent_bytes-at}
use Rattle.solv_lent.proofs.lent_file.find_file.Goals as goal

pub returns-then-eq : goal.returns-then-eq
returns-then-eq c =
    let step = lent_bytes-at c.args.held.now c.args.name.now c.loop-file.file-index c.loop-file-test.true in
    let same : bytes_eq c.args.name.now (file_at c.args.held.now c.loop-file.file-index).name.now ≡ true = sym c.eq.ensures ∙ c.if-eq.true in
    sym (rw same at step) ∙ c.loop-file.invariant

pub loop-file-preserved : goal.loop-file-preserved
loop-file-preserved c =
    let step = lent_bytes-at c.args.held.now c.args.name.now c.loop-file.file-index c.loop-file-test.true in
    let other : bytes_eq c.args.name.now (file_at c.args.held.now c.loop-file.file-index).name.now ≡ false = sym c.eq.ensures ∙ c.if-eq.false in
    sym (rw other at step) ∙ c.loop-file.invariant
