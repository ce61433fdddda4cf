use Rattle.std.proofs.Common.{◌≡◌, ◌+◌, ◌-◌, ◌∙◌, sum_by, sym, ap}
use Rattle.solv_pool.specs.Prelude.{Catalog, catalog_of}
use Rattle.solv_leaving.specs.Inner.Fitting.{within, need_words, words_at}
use Rattle.solv_leaving.proofs.Bounds.{nothing_added, words_there, no_words_there, needs_held}
use Rattle.solv_leaving.proofs.fitting.with_package.Goals as goal

pub with_needs-requires-clause-held : goal.with_needs-requires-clause-held
with_needs-requires-clause-held c = needs_held c.args.task.now c.args.prov.now (c.args.pack - 1) c.package.result c.requires_.result.now c.requires.index c.requires.closed c.package.ensures c.requires_.ensures

pub returns-then-is_left_out : goal.returns-then-is_left_out
returns-then-is_left_out c =
    let catalog : Catalog = catalog_of c.args.task.now in
    let is = words_there catalog c.args.left.now c.args.pack c.package.result c.requires.a_package c.package.ensures (sym c.is_left_out.ensures ∙ c.if-is_left_out.true) in
    let same : sum_by (need_words catalog) c.requires_.result.now ≡ words_at catalog c.args.left.now c.args.pack = ap (λ needs. sum_by (need_words catalog) needs) c.requires_.ensures ∙ sym is in
    c.with_needs.ensures catalog c.requires.index ∙ ap (λ n. within (c.args.words + n)) same

pub returns : goal.returns
returns c =
    let catalog : Catalog = catalog_of c.args.task.now in
    nothing_added c.args.words (words_at catalog c.args.left.now c.args.pack) (no_words_there catalog c.args.left.now c.args.pack (sym c.is_left_out.ensures ∙ c.if-is_left_out.false)) c.requires.few
