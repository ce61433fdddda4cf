use Rattle.std.specs.Prelude.{string_bytes}
use Rattle.solv_list.proofs.Answers.{if_err, on_ok}
use Rattle.solv_script.specs.Inner.LineRows.{of_result}
use Rattle.solv_script.specs.Inner.Readings.{state_of}
use Rattle.solv_script.proofs.FileRows.{unopened, read_given, read_refused}
use Rattle.solv_script.proofs.whole.reader.Reader.expected_row.Goals as goal

pub returns-in-Ok-clause-given : goal.returns-in-Ok-clause-given
returns-in-Ok-clause-given g c =
    let files = c.args.files.now in
    on_ok c.fetched_row.result (λ h. read_given c.args.script.now of_result (state_of c.args.self.now) c.args.line (string_bytes c.args.name)
    (record { contents = g.F.Files.contents files; asked_before = g.F.Files.asked files; asked_after = g.F.Files.asked c.fetch.new.self; faults_before = g.F.Files.faults files; faults_after = g.F.Files.faults c.fetch.new.self })
    (rw c.deref.ensures at c.in-Ok.ensures.asked) c.deref-in-Ok.result.now c.fetch.new.into.items c.deref-in-Ok-2.result.now c.deref-in-Ok.ensures c.deref-in-Ok-2.ensures.value (rw (c.deref.ensures, c.new-bytes.ensures.items) at c.in-Ok.ensures.got) c.in-Ok.ensures.faults (state_of c.fetched_row.new.self) h.is) c.fetched_row.ensures.ok

pub returns-in-Ok-clause-ended : goal.returns-in-Ok-clause-ended
returns-in-Ok-clause-ended g c =
    let files = c.args.files.now in
    if_err c.fetched_row.result (λ fault h. read_refused c.args.script.now of_result (state_of c.args.self.now) c.args.line (string_bytes c.args.name)
    (record { contents = g.F.Files.contents files; asked_before = g.F.Files.asked files; asked_after = g.F.Files.asked c.fetch.new.self; faults_before = g.F.Files.faults files; faults_after = g.F.Files.faults c.fetch.new.self })
    (rw c.deref.ensures at c.in-Ok.ensures.asked) c.deref-in-Ok.result.now c.fetch.new.into.items c.deref-in-Ok-2.result.now c.deref-in-Ok.ensures c.deref-in-Ok-2.ensures.value (rw (c.deref.ensures, c.new-bytes.ensures.items) at c.in-Ok.ensures.got) c.in-Ok.ensures.faults fault h) c.fetched_row.ensures.refused

pub returns-in-Err-clause-ended : goal.returns-in-Err-clause-ended
returns-in-Err-clause-ended g c =
    let files = c.args.files.now in
    rw c.unread.ensures (unopened c.args.script.now of_result (state_of c.args.self.now) c.args.line (string_bytes c.args.name)
    (record { contents = g.F.Files.contents files; asked_before = g.F.Files.asked files; asked_after = g.F.Files.asked c.fetch.new.self; faults_before = g.F.Files.faults files; faults_after = g.F.Files.faults c.fetch.new.self })
    c.in-Err.fault (rw c.deref.ensures at c.in-Err.ensures.asked) c.in-Err.ensures.faults)
