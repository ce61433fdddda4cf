use Rattle.std.proofs.Common.{◌∙◌, sym, ◌==◌}
use Rattle.std.proofs.lemmas.List.Sorted.{list_any-IsPermutation, IsNonDecreasingBy-from_sort}
use Rattle.solv_prov.proofs.seeking.gather_ascending.Goals as goal

pub returns : goal.returns
returns c = record {
  rise = IsNonDecreasingBy-from_sort (λ x. x) c.sort_unstable.new.self.items c.sort_unstable.ensures.sorted;
  all = λ p x there met. sym (list_any-IsPermutation (λ y. y == p) _ _ c.sort_unstable.ensures.permutation) ∙ c.in_ok-places.ensures p x there met;
}
