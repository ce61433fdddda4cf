use Rattle.solv_laws.proofs.ErasedLines.{erased_is_asked}
use Rattle.solv_laws.proofs.laws.erased_lines_are_asked.Goals as goal

pub returns : goal.returns
returns c = erased_is_asked c.evr_order_is_total.ensures.total
