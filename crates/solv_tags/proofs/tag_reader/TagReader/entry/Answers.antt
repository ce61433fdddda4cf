use Rattle.std.proofs.Common.{◌≡◌, refl, rules}
use Rattle.solv_tags.specs.declared.tag.Tag.TheVariants.{Pkg}
use Rattle.solv_tags.specs.Inner.TagReading.{tagged_of}
use Rattle.solv_tags.proofs.ReaderLines.{entry_other, entry_read}
use Rattle.solv_tags.proofs.tag_reader.TagReader.entry.Goals as goal
use Rattle.solv_list.proofs.Answers.{if_err, on_ok}

pub returns-clause-ok : goal.returns-clause-ok
returns-clause-ok c =
    let other : c.args.tag ≡ Pkg → ⊥ = search rules in
    let grows = c.hand_entry.ensures.grows in
    on_ok c.hand_entry.result (entry_read c.args.self.now c.hand_entry.new.self c.args.pool.now c.hand_entry.new.pool c.args.universe.now c.args.universe.now c.requires grows
    (c.stays_over.ensures c.args.pool.now c.hand_entry.new.pool c.args.universe.now grows c.requires.over) c.args.tag c.args.text.now
    (entry_other (tagged_of c.args.self.now c.args.pool.now c.args.universe.now) c.args.tag c.args.text.now other)) c.hand_entry.ensures.ok

pub returns-clause-refused : goal.returns-clause-refused
returns-clause-refused c =
    let other : c.args.tag ≡ Pkg → ⊥ = search rules in
    let t = tagged_of c.args.self.now c.args.pool.now c.args.universe.now in
    rw (entry_other t c.args.tag c.args.text.now other) (if_err c.hand_entry.result (λ e h. h t refl refl) c.hand_entry.ensures.refused)
