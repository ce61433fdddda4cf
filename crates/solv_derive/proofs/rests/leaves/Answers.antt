use Rattle.std.proofs.Common.{◌∙◌, ℕ, List, [], ap, refl}
use Rattle.std.specs.Prelude.{fold}
use Rattle.std.specs.Ordering.{nat_cmp}
use Rattle.std.specs.BTreeSet.{insert_key}
use Rattle.solv_derive.specs.Leaves.{named_rules}
use Rattle.solv_derive.proofs.Named.{sorted_is_inserted}
use Rattle.solv_derive.proofs.rests.leaves.Goals as goal

abbrev leaves_of_rules : List ℕ → List ℕ
leaves_of_rules ns = fold (insert_key nat_cmp) [] ns

pub returns : goal.returns
returns c =
    sorted_is_inserted _ _ c.in_ok-rules.rules.items c.sort_unstable.new.self.items c.dedup.new.self.items (λ x y. refl) (λ x y. refl)
    c.sort_unstable.ensures.permutation c.sort_unstable.ensures.sorted c.dedup.ensures.filtered
    ∙ ap leaves_of_rules (c.in_ok-rules.ensures ∙ ap named_rules c.held.ensures)
