use Rattle.std.proofs.Common.{◌≡◌, ◌+◌, ap, ◌∙◌, false, length, arith}
use Rattle.std.specs.Prelude.{nat_le, option_to_list}
use Rattle.std.proofs.lemmas.Bool.Decides.{nat_tests}
use Rattle.solv_pool.specs.Contents.{most_packages}
use Rattle.solv_tags.specs.Entries.{evr_text}
use Rattle.solv_tags.specs.declared.tag_reader.TagReader.{TagReader}
use Rattle.solv_tags.proofs.ReaderLines.{begin_read, on_both}
use Rattle.solv_tags.proofs.tag_reader.TagReader.begin.Goals as goal

pub returns-clause-ok : goal.returns-clause-ok
returns-clause-ok c =
    let evr : c.deref.result.now ≡ evr_text c.args.version.now c.args.release.now = c.deref.ensures.value ∙ c.in-Ok.ensures in
    let room : nat_le most_packages (length c.args.universe.now.packages + length (option_to_list c.args.self.now.hand)) ≡ false
    = grind (arith, nat_tests, c.count.ensures, c.in_hand.ensures.count, c.if-count-in_hand-ge-MOST_PACKAGES.false) in
    let grows = c.enter_package.ensures.grows in
    let ids = c.in-Ok-enter_package in
    rw (← evr)
    (on_both c.hold.result (λ reader put. begin_read c.args.self.now c.hold.new.self c.args.pool.now c.enter_package.new.pool c.args.universe.now c.hold.new.universe c.requires grows
    (c.stays_over.ensures c.args.pool.now c.enter_package.new.pool c.args.universe.now grows c.requires.over)
    ids.ids c.args.name.now c.deref.result.now c.args.arch.now room ids.ensures.entered ids.ensures.within ids.ensures.texts
    (ap (λ (r : TagReader). r.repo) reader) (ap (λ (r : TagReader). r.before) reader) (ap (λ (r : TagReader). r.block) reader) (ap (λ (r : TagReader). r.recent) reader)
    (ap (λ (r : TagReader). r.hand) reader) put)
    c.hold.ensures.reader c.hold.ensures.ok)
