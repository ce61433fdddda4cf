use Rattle.std.proofs.Common.{◌∙◌, refl}
use Rattle.std.specs.Prelude.{string_bytes}
use Rattle.solv_list.proofs.Answers.{if_err, on_ok}
use Rattle.solv_script.specs.Inner.LineRows.{of_packages}
use Rattle.solv_script.specs.Inner.Readings.{state_of}
use Rattle.solv_script.proofs.FileRows.{opened_bytes, unopened, unread, read_given, read_refused}
use Rattle.solv_script.proofs.whole.reader.Reader.packages_row.Goals as goal

pub returns-in-Err-clause-ended : goal.returns-in-Err-clause-ended
returns-in-Err-clause-ended g c =
    let files = c.args.files.now in
    rw c.unread.ensures (unopened c.args.script.now of_packages (state_of c.args.self.now) c.args.line (string_bytes c.args.name)
    (record { contents = g.F.Files.contents files; asked_before = g.F.Files.asked files; asked_after = g.F.Files.asked c.open.new.self; faults_before = g.F.Files.faults files; faults_after = g.F.Files.faults c.open.new.self })
    c.in-Err.fault (rw c.deref.ensures at c.in-Err.ensures.asked) c.in-Err.ensures.faults)

pub returns-in-Ok-add_packages-clause-given : goal.returns-in-Ok-add_packages-clause-given
returns-in-Ok-add_packages-clause-given g c =
    let files = c.args.files.now in
    on_ok c.in-Ok-add_packages.said (λ h. read_given c.args.script.now of_packages (state_of c.args.self.now) c.args.line (string_bytes c.args.name) (record { contents = g.F.Files.contents files; asked_before = g.F.Files.asked files; asked_after = g.F.Files.asked c.add_packages.new.files; faults_before = g.F.Files.faults files; faults_after = g.F.Files.faults c.add_packages.new.files })
    (c.add_packages.ensures.asked ∙ (rw c.deref.ensures at c.in-Ok.ensures.asked)) c.deref-2.result.now h.bytes h.bytes c.deref-2.ensures refl
    (opened_bytes (g.F.Files.contents files) (string_bytes c.args.name) (g.F.Files.left c.in-Ok.file) h.bytes (rw c.deref.ensures at c.in-Ok.ensures.opened) h.known)
    (c.in-Ok-add_packages.ensures.faults ∙ c.in-Ok.ensures.faults) (state_of c.add_packages.new.self) h.holds.is) c.in-Ok-add_packages.ensures.ok

pub returns-in-Ok-add_packages-clause-ended : goal.returns-in-Ok-add_packages-clause-ended
returns-in-Ok-add_packages-clause-ended g c =
    let files = c.args.files.now in
    if_err c.in-Ok-add_packages.said (λ fault h. read_refused c.args.script.now of_packages (state_of c.args.self.now) c.args.line (string_bytes c.args.name) (record { contents = g.F.Files.contents files; asked_before = g.F.Files.asked files; asked_after = g.F.Files.asked c.add_packages.new.files; faults_before = g.F.Files.faults files; faults_after = g.F.Files.faults c.add_packages.new.files })
    (c.add_packages.ensures.asked ∙ (rw c.deref.ensures at c.in-Ok.ensures.asked)) c.deref-2.result.now h.bytes h.bytes c.deref-2.ensures refl
    (opened_bytes (g.F.Files.contents files) (string_bytes c.args.name) (g.F.Files.left c.in-Ok.file) h.bytes (rw c.deref.ensures at c.in-Ok.ensures.opened) h.known)
    (c.in-Ok-add_packages.ensures.faults ∙ c.in-Ok.ensures.faults) fault h.holds) c.in-Ok-add_packages.ensures.refused

pub returns-in-Err-add_packages-clause-ended : goal.returns-in-Err-add_packages-clause-ended
returns-in-Err-add_packages-clause-ended g c =
    let files = c.args.files.now in
    rw c.unread-in-Err-add_packages.ensures (unread c.args.script.now of_packages (state_of c.args.self.now) c.args.line (string_bytes c.args.name) (record { contents = g.F.Files.contents files; asked_before = g.F.Files.asked files; asked_after = g.F.Files.asked c.add_packages.new.files; faults_before = g.F.Files.faults files; faults_after = g.F.Files.faults c.add_packages.new.files })
    (c.add_packages.ensures.asked ∙ (rw c.deref.ensures at c.in-Ok.ensures.asked)) c.in-Err-add_packages.fault (rw c.in-Ok.ensures.faults at c.in-Err-add_packages.ensures.faults))
