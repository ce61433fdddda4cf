use Rattle.std.proofs.Common.{◌≡◌, true, false, sym, ap, ◌∙◌, length}
use Rattle.std.specs.Prelude.{◌==◌}
use Rattle.std.proofs.lemmas.Bool.{true≢false}
use Rattle.solv_pool.specs.Prelude.{when}
use Rattle.solv_prov.specs.Inner.Merging.{is_kept, merged}
use Rattle.solv_prov.proofs.Merged.{second_empty}
use Rattle.solv_prov.proofs.merging.put_rest.Goals as goal

pub returns-else-is_empty : goal.returns-else-is_empty
returns-else-is_empty c =
    let is : merged c.args.joint c.args.first.now c.args.second.now ≡ when (is_kept c.args.joint true false) c.args.first.now =
    second_empty c.args.joint c.args.first.now c.args.second.now c.requires (λ e. true≢false (sym (ap (λ l. length l == 0) e) ∙ sym c.is_empty.ensures ∙ c.if-is_empty.false)) in
    rw (is, sym c.is_kept-else-is_empty.ensures) c.put_all-else-is_empty.ensures
