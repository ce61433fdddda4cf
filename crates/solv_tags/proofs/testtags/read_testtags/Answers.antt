use Rattle.std.proofs.Common.{length}
use Rattle.std.specs.Prelude.{IsOkAnd}
use Rattle.solv_io.specs.Lines.{numbered_lines}
use Rattle.solv_tags.specs.Inner.RepositoryReading.{IsTaken, IsTagRefusal}
use Rattle.solv_tags.specs.Inner.Testtags.{testtags_file}
use Rattle.solv_tags.proofs.EntriesFormed.{file_formed}
use Rattle.solv_tags.proofs.FormsById.{taken_formed}
use Rattle.solv_tags.proofs.SameLines.{said_same}
use Rattle.solv_tags.proofs.testtags.read_testtags.Goals as goal

pub returns-in-Ok-clause-read : goal.returns-in-Ok-clause-read
returns-in-Ok-clause-read c =
    said_same (λ r. IsOkAnd r (λ read. IsTaken read c.read_all.new.pool c.args.universe.now c.read_all.new.universe)) c.args.pool.now (length c.args.universe.now.packages) c.args.repo c.new-reader.result.repo (numbered_lines c.args.bytes.now)
    c.new-reader.ensures.repo c.in-Ok.ensures.read

pub returns-in-Err-clause-refused : goal.returns-in-Err-clause-refused
returns-in-Err-clause-refused c =
    said_same (λ r. IsTagRefusal c.in-Err.fault r) c.args.pool.now (length c.args.universe.now.packages) c.args.repo c.new-reader.result.repo (numbered_lines c.args.bytes.now)
    c.new-reader.ensures.repo c.in-Err.ensures.refused

pub returns-in-Ok-clause-forms : goal.returns-in-Ok-clause-forms
returns-in-Ok-clause-forms c =
    let held = c.args.pool.now in
    let universe = c.args.universe.now in
    let read = said_same (λ r. IsOkAnd r (λ read. IsTaken read c.read_all.new.pool universe c.read_all.new.universe)) held (length universe.packages) c.args.repo c.new-reader.result.repo (numbered_lines c.args.bytes.now)
    c.new-reader.ensures.repo c.in-Ok.ensures.read in
    taken_formed (testtags_file held (length universe.packages) c.args.repo c.args.bytes.now) c.read_all.new.pool universe c.read_all.new.universe
    (file_formed held (length universe.packages) c.args.repo c.args.bytes.now) read
