use Rattle.std.proofs.lemmas.Cmp.{tied_itself, alike_right}
use Rattle.solv_base.proofs.TokenOrder.{evr_total}
use Rattle.solv_base.proofs.version.evr_order_is_total.Goals as goal

pub returns : goal.returns
returns c = record { total = evr_total; reflexive = tied_itself evr_total; equals_alike = alike_right evr_total }
