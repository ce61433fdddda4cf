use Rattle.std.proofs.Common.{◌+◌, length}
use Rattle.std.specs.Prelude.{IsOkAnd}
use Rattle.solv_list.proofs.Answers.{if_err, on_ok}
use Rattle.solv_io.specs.Lines.{lines_of}
use Rattle.solv_script.specs.ScriptLines.{inline_lines}
use Rattle.solv_tags.specs.Inner.RepositoryReading.{IsTaken, IsTagRefusal}
use Rattle.solv_tags.proofs.SameLines.{said_same}
use Rattle.solv_script.proofs.whole.blocks.read_block.Goals as goal

pub returns-clause-read : goal.returns-clause-read
returns-clause-read c =
    on_ok c.read_all.result (said_same (λ r. IsOkAnd r (λ read. IsTaken read c.read_all.new.pool c.args.universe.now c.read_all.new.universe)) c.args.pool.now (length c.args.universe.now.packages) c.args.repo c.new-reader.result.repo
    (inline_lines (c.args.line + 1) (lines_of c.args.behind.now)) c.new-reader.ensures.repo) c.read_all.ensures.read

pub returns-clause-refused : goal.returns-clause-refused
returns-clause-refused c =
    if_err c.read_all.result (λ fault h. said_same (λ r. IsTagRefusal fault r) c.args.pool.now (length c.args.universe.now.packages) c.args.repo c.new-reader.result.repo
    (inline_lines (c.args.line + 1) (lines_of c.args.behind.now)) c.new-reader.ensures.repo h) c.read_all.ensures.refused
