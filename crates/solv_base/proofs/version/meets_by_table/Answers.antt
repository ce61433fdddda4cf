use Rattle.std.proofs.Common.{◌≡◌, ◌∙◌, sym, ap, rules}
use Rattle.std.specs.declared.cmp.Ordering.TheVariants.{Equal}
use Rattle.solv_base.proofs.MatchingTable.{table-unequal, table-wanted_lacks}
use Rattle.solv_base.specs.Evr.{Parts, stem_cmp}
use Rattle.solv_base.specs.Inner.Evr.{parts_of}
use Rattle.solv_base.specs.Matching.{meets_by_order}
use Rattle.solv_base.proofs.version.meets_by_table.Goals as goal

pub returns-in-Some-None : goal.returns-in-Some-None
returns-in-Some-None c = sym (table-wanted_lacks c.args.provide (parts_of c.args.have.now) c.args.wanted (parts_of c.args.want.now) (search rules) (search rules) (search rules))

pub returns-in_default : goal.returns-in_default
returns-in_default c =
    let a : Parts = parts_of c.args.have.now in
    let b : Parts = parts_of c.args.want.now in
    let unequal : stem_cmp a b ≡ Equal → ⊥ = λ e. c.in_default.not-Equal (c.compare_stems.ensures ∙ e) in
    c.meets_by_order-in_default.ensures ∙ ap (meets_by_order c.args.provide c.args.wanted) c.compare_stems.ensures ∙ sym (table-unequal c.args.provide a c.args.wanted b unequal)
