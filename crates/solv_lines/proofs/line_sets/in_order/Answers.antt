use Rattle.std.proofs.Common.{◌∙◌}
use Rattle.solv_lines.proofs.Rising.{known_rises}
use Rattle.solv_lines.proofs.Sorted.{sorted_is_set}
use Rattle.solv_lines.proofs.line_sets.in_order.Goals as goal

pub invariant_of-result : goal.invariant_of-result
invariant_of-result c = known_rises _ c.lines.inside.pushed.items (sorted_is_set _ _ _ c.sort.ensures.permutation c.in_ok-sort.ensures.sorted c.dedup.ensures.filtered)

pub returns : goal.returns
returns c = sorted_is_set _ _ _ c.sort.ensures.permutation c.in_ok-sort.ensures.sorted c.dedup.ensures.filtered ∙ c.lines.view_is
