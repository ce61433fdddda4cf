use Rattle.std.proofs.Common.{◌∙◌, sym}
use Rattle.solv_answers.proofs.Shared.{flags_equal}
use Rattle.solv_answers.proofs.preparing.are_alike.Goals as goal

pub returns-then-eq : goal.returns-then-eq
returns-then-eq c = λ e. (flags_equal c.args.before.now.flags c.args.flags (sym c.eq.ensures ∙ c.if-eq.true), c.are_marked_alike.ensures e)
