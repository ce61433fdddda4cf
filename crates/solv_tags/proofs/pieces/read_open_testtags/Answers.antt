use Rattle.std.proofs.Common.{length}
use Rattle.std.specs.Prelude.{IsOkAnd}
use Rattle.solv_tags.specs.Inner.Pieces.{HasReadFile}
use Rattle.solv_tags.specs.Inner.RepositoryReading.{IsTaken}
use Rattle.solv_tags.specs.Inner.Testtags.{testtags_file}
use Rattle.solv_tags.proofs.EntriesFormed.{file_formed}
use Rattle.solv_tags.proofs.FormsById.{taken_formed}
use Rattle.solv_tags.proofs.pieces.read_open_testtags.Goals as goal

pub returns-in-Ok-default-Ok-clause-forms : goal.returns-in-Ok-default-Ok-clause-forms
returns-in-Ok-default-Ok-clause-forms g c =
    let held = c.args.pool.now in
    let universe = c.args.universe.now in
    let h : HasReadFile c.args.most _ (g.F.Files.left c.args.file.now) (λ bytes. IsOkAnd (testtags_file held (length universe.packages) c.args.repo bytes) (λ r. IsTaken r c.read_whole.new.pool universe c.read_whole.new.universe)) = rw c.in-Ok-default-Ok.field-0-1-is at c.in-Ok-default-Ok.ensures.read in
    taken_formed (testtags_file held (length universe.packages) c.args.repo h.bytes) c.read_whole.new.pool universe c.read_whole.new.universe
    (file_formed held (length universe.packages) c.args.repo h.bytes) h.holds
