use Rattle.std.proofs.Common.{◌≡◌, ◌∙◌, List, ℕ, Ok, length, sym, ap}
use Rattle.solv_script.specs.Grammar.{counted}
use Rattle.std.specs.Prelude.{⊤, IsOkAnd}
use Rattle.solv_io.specs.Lines.{numbered_lines}
use Rattle.solv_tags.specs.Inner.Pieces.{HasReadFile}
use Rattle.solv_tags.specs.Inner.RepositoryReading.{IsTaken, IsTagRefusal}
use Rattle.solv_tags.specs.Inner.Testtags.{testtags_file}
use Rattle.solv_tags.specs.Testtags.{testtags}
use Rattle.solv_script.specs.Inner.Readings.{state_of}
use Rattle.solv_script.proofs.OpenedFiles.{size_refused, packages_counted, lines_refused, some_bytes}
use Rattle.solv_script.proofs.RowReadings.{repository_read, state_bytes}
use Rattle.solv_script.proofs.whole.reader.Reader.add_packages.Goals as goal

pub returns-in-Err-clause-refused : goal.returns-in-Err-clause-refused
returns-in-Err-clause-refused g c =
    let self = c.args.self.now in
    let h : HasReadFile 67108865 c.in_ok-size.size (g.F.Files.left c.args.file.now) (λ bytes. ⊤) = some_bytes 67108865 c.in_ok-size.size (g.F.Files.left c.args.file.now) c.in_ok-size.said _ _ c.in_ok-size.ensures.read c.in_ok-size.ensures.refused in
    record {
      bytes = h.bytes;
      known = h.known;
      holds = c.refused.ensures _ (size_refused c.args.script.now self c.requires.reader c.args.line c.args.name.now h.bytes c.in-Err.cause (rw h.count (c.in-Err.ensures.refused (state_of self) (state_bytes self))));
    }

pub returns-in-Ok-said-clause-ok : goal.returns-in-Ok-said-clause-ok
returns-in-Ok-said-clause-ok g c =
    let self = c.args.self.now in
    let universe = c.read_open_testtags.new.universe in
    let pool = c.read_open_testtags.new.pool in
    let h : HasReadFile 67108865 c.in_ok-size.size (g.F.Files.left c.args.file.now) (λ bytes. IsOkAnd (testtags_file self.task.pool (length self.task.universe.packages) c.args.repo bytes) (λ r. IsTaken r pool self.task.universe universe)) = rw c.in-Ok-said.is at c.in_ok-size.ensures.read in
    let fits : counted (state_of self) (length h.bytes) ≡ Ok (record (state_of self) { bytes = c.in-Ok.total }) = rw h.count (c.in-Ok.ensures.ok (state_of self) (state_bytes self)) in
    record {
      bytes = h.bytes;
      known = h.known;
      holds = packages_counted c.args.script.now self c.requires.reader c.args.line c.args.name.now h.bytes c.in-Ok.total fits _
          (repository_read self c.requires.reader c.args.name.now (numbered_lines h.bytes) c.args.repo pool universe c.requires.last c.read_open_testtags.ensures.grows (rw c.in-Ok-said.is at c.in_ok-size.ensures.over) h.holds)
          c.in-Ok.ensures.within;
    }

pub returns-in-Err-said-clause-refused : goal.returns-in-Err-said-clause-refused
returns-in-Err-said-clause-refused g c =
    let self = c.args.self.now in
    let h : HasReadFile 67108865 c.in_ok-size.size (g.F.Files.left c.args.file.now) (λ bytes. IsTagRefusal c.in-Err-said.fault (testtags_file self.task.pool (length self.task.universe.packages) c.args.repo bytes)) = rw c.in-Err-said.is at c.in_ok-size.ensures.refused in
    let fits : counted (state_of self) (length h.bytes) ≡ Ok (record (state_of self) { bytes = c.in-Ok.total }) = rw h.count (c.in-Ok.ensures.ok (state_of self) (state_bytes self)) in
    record {
      bytes = h.bytes;
      known = h.known;
      holds = lines_refused c.args.script.now self c.requires.reader c.args.line c.args.name.now h.bytes c.in-Ok.total fits c.args.repo c.requires.last c.in-Ok.ensures.within c.tags_refused.result
          (c.tags_refused.ensures (state_of (record self { bytes = c.in-Ok.total })) (testtags self.task.pool (length self.task.universe.packages) c.args.repo (numbered_lines h.bytes)) h.holds);
    }
