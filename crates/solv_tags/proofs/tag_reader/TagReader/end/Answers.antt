use Rattle.std.proofs.Common.{◌≡◌, false}
use Rattle.std.specs.Prelude.{is_some}
use Rattle.solv_tags.proofs.ReaderLines.{ended}
use Rattle.solv_tags.proofs.tag_reader.TagReader.end.Goals as goal

pub returns-in-Ok-clause-ok : goal.returns-in-Ok-clause-ok
returns-in-Ok-clause-ok c =
    let closed : is_some c.args.self.block ≡ false = rw (← c.is_some.ensures) c.if-is_some.false in
    λ pool reading. ended c.args.self pool c.args.universe.now c.put_behind.new.universe c.args.last closed c.in-Ok.ensures.ok reading
