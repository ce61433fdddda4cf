use Rattle.std.proofs.Common.{◌≡◌, false, true}
use Rattle.solv_tags.specs.Inner.Tags.{entry_sign, opening_sign}
use Rattle.solv_tags.specs.Headings.{is_heading}
use Rattle.solv_tags.specs.Inner.TagReading.{tagged_of}
use Rattle.solv_tags.proofs.ReaderLines.{on_both, outside_entry, open_read, open_ended}
use Rattle.solv_tags.proofs.tag_reader.TagReader.outside.Goals as goal
use Rattle.solv_list.proofs.Answers.{if_err}

pub returns-then-is_heading-clause-refused : goal.returns-then-is_heading-clause-refused
returns-then-is_heading-clause-refused c =
    let entry : is_heading entry_sign c.args.line.now ≡ true = rw (← c.is_heading.ensures) c.if-is_heading.true in
    rw (outside_entry (tagged_of c.args.self.now c.args.pool.now c.args.universe.now) c.args.line.now entry, ← c.letters.ensures, ← c.after_heading.ensures) c.entry_if_tag.ensures.refused

pub returns-then-is_heading-2-clause-ok : goal.returns-then-is_heading-2-clause-ok
returns-then-is_heading-2-clause-ok c =
    let entry : is_heading entry_sign c.args.line.now ≡ false = rw (← c.is_heading.ensures) c.if-is_heading.false in
    let opening : is_heading opening_sign c.args.line.now ≡ true = rw (← c.is_heading-2.ensures) c.if-is_heading-2.true in
    on_both c.open_block.result (open_read c.args.self.now c.open_block.new.self c.args.pool.now c.args.universe.now c.args.line.now c.requires entry opening)
    (c.open_block.ensures.ok c.args.pool.now) c.open_block.ensures.reader

pub returns-then-is_heading-2-clause-refused : goal.returns-then-is_heading-2-clause-refused
returns-then-is_heading-2-clause-refused c =
    let entry : is_heading entry_sign c.args.line.now ≡ false = rw (← c.is_heading.ensures) c.if-is_heading.false in
    let opening : is_heading opening_sign c.args.line.now ≡ true = rw (← c.is_heading-2.ensures) c.if-is_heading-2.true in
    if_err c.open_block.result (λ e h. open_ended c.args.self.now c.args.pool.now c.args.universe.now c.args.line.now e entry opening h) (c.open_block.ensures.refused c.args.pool.now)
