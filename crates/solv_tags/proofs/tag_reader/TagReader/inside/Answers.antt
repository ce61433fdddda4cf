use Rattle.std.proofs.Common.{◌≡◌, length, false, arith}
use Rattle.std.specs.Prelude.{◌&&◌}
use Rattle.std.specs.Str.{bytes_eq}
use Rattle.std.proofs.lemmas.Bool.Decides.{nat_tests}
use Rattle.solv_tags.specs.Inner.Tags.{closing_sign}
use Rattle.solv_tags.specs.Headings.{is_heading, letters, trimmed}
use Rattle.solv_tags.specs.Inner.TagReading.{tagged_of}
use Rattle.solv_tags.proofs.ReaderLines.{inside_entry}
use Rattle.solv_tags.proofs.tag_reader.TagReader.inside.Goals as goal

pub returns-clause-ok : goal.returns-clause-ok
returns-clause-ok c =
    let goes_on : (is_heading closing_sign c.args.line.now && bytes_eq (letters c.args.line.now) c.args.name) ≡ false = rw (← c.closes.ensures) c.if-closes.false in
    let some : length (trimmed c.args.line.now) ≡ 0 → ⊥ = rw (← c.trimmed.ensures) (grind (arith, nat_tests, c.is_empty.ensures, c.if-is_empty.false)) in
    rw (inside_entry (tagged_of c.args.self.now c.args.pool.now c.args.universe.now) c.args.name c.args.line.now goes_on some) c.entry_if_tag.ensures.ok

pub returns-clause-refused : goal.returns-clause-refused
returns-clause-refused c =
    let goes_on : (is_heading closing_sign c.args.line.now && bytes_eq (letters c.args.line.now) c.args.name) ≡ false = rw (← c.closes.ensures) c.if-closes.false in
    let some : length (trimmed c.args.line.now) ≡ 0 → ⊥ = rw (← c.trimmed.ensures) (grind (arith, nat_tests, c.is_empty.ensures, c.if-is_empty.false)) in
    rw (inside_entry (tagged_of c.args.self.now c.args.pool.now c.args.universe.now) c.args.name c.args.line.now goes_on some) c.entry_if_tag.ensures.refused
