use Rattle.std.proofs.Common.{◌∙◌, rules}
use Rattle.solv_rounds.proofs.Turned.{front_of}
use Rattle.solv_rounds.proofs.turning.to_front.Goals as goal

pub returns : goal.returns
returns c = c.turn.ensures ∙ front_of c.args.script.now c.args.place (search rules)
