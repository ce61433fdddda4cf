use Rattle.std.proofs.Common.{sym, arith}
use Rattle.std.proofs.lemmas.List.{take_all}
use Rattle.solv_pack.specs.Inner.Layout.{words_of}
use Rattle.solv_pack.proofs.Views.{length_rules}
use Rattle.solv_pack.proofs.memory.RuleMem.truncate.Goals as goal

pub returns-then-count-len : goal.returns-then-count-len
returns-then-count-len c =
    let long = length_rules (words_of c.self.inside.blocks.items) c.self.inside.places.items c.self.inside.spare c.args.self.now c.self.view_is in
    record { rules = sym (take_all c.args.count c.args.self.now.rules (omega (arith, c.if-count-len.true, c.len.ensures, long))) }
