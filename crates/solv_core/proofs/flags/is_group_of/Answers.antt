use Rattle.std.proofs.Common.{◌+◌, ◌-◌, ℕ, sym, ◌∙◌, arith}
use Rattle.solv_list.proofs.Booleans.{false_of_not}
use Rattle.solv_core.proofs.Switches.{none_other}
use Rattle.solv_core.proofs.flags.is_group_of.Goals as goal

pub returns : goal.returns
returns c = λ h k from to.
    let n : ℕ = c.args.from + 64 - c.args.from in
    none_other c.args.like c.args.flags.now c.args.from n k (sym c.contains.ensures.value ∙ false_of_not c.contains.result h) from (omega (arith, to)) (omega (arith, c.requires, to))
