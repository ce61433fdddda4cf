use Rattle.std.proofs.Common.{◌≡◌, ℕ, List, [], refl, sym, ap, ◌∙◌, subst, length}
use Rattle.solv_watch.specs.Inner.Watching.{AreChained, AreHeadsFrom}
use Rattle.solv_watch.proofs.Chained.{none_at_all}
use Rattle.solv_watch.proofs.chains.Chains.forget.Goals as goal
use Rattle.solv_list.proofs.Lists.{whole_write}

pub returns : goal.returns
returns c = record {
  chained = λ count h.
      let long : length c.clear_heads.new.heads ≡ length c.args.self.now.heads.items = c.clear_heads.ensures.same_length ∙ ap (λ xs. length xs) c.as_mut_slice.ensures.value in
      let before : AreHeadsFrom 0 c.as_mut_slice.result.now c.deref.result.now = rw (c.as_mut_slice.ensures.value, c.deref.ensures.value) (h.each) in
      let P : List ℕ → Type 0 = λ xs. AreChained count [] xs c.clear.new.self.items c.clear-2.new.self.items in
      subst P (sym (whole_write c.clear_heads.new.heads c.args.self.now.heads.items c.args.self.now.heads.len long c.args.self.now.heads.ok.0))
      (rw (c.clear.ensures.items, c.clear-2.ensures.items) (none_at_all count c.clear_heads.new.heads [] (long ∙ h.room) (c.clear_heads.ensures.cleared before) refl));
}
