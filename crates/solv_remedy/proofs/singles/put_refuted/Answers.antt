use Rattle.std.proofs.Common.{◌∙◌, not, sym, ap, length}
use Rattle.std.specs.Prelude.{nat_lt}
use Rattle.std.proofs.lemmas.Bool.{and_parts}
use Rattle.solv_pool.specs.Prelude.{is_among}
use Rattle.solv_list.proofs.Booleans.{false_of_not}
use Rattle.solv_trail.specs.Asked.{is_enabled}
use Rattle.solv_remedy.specs.Inner.Conflicts.{listed_of}
use Rattle.solv_remedy.proofs.singles.put_refuted.Goals as goal

pub put_each-requires-clause-free : goal.put_each-requires-clause-free
put_each-requires-clause-free c = λ k on.
    let both = and_parts (nat_lt k (length c.args.fixed.now)) (not (is_among (listed_of c.deref.result.now) k)) (sym (c.in_ok-free.ensures.on k) ∙ sym (ap (λ l. is_enabled l k) c.as_mut_slice.ensures.value) ∙ on) in
    ap (λ l. is_among (listed_of l) k) (sym c.deref.ensures.value) ∙ false_of_not (is_among (listed_of c.deref.result.now) k) both.1
