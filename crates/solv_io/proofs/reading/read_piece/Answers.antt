use Rattle.std.proofs.Common.{◌∙◌, ◌+◌, length, take, ap, rules}
use Rattle.std.specs.Vec.{vec_len}
use Rattle.std.proofs.lemmas.List.{with_items_is, places}
use Rattle.solv_io.proofs.Pieces.{piece_behind}
use Rattle.solv_io.proofs.reading.read_piece.Goals as goal

pub returns-in-Ok-clause-got : goal.returns-in-Ok-clause-got
returns-in-Ok-clause-got g c =
    let start = c.len-start.result in
    piece_behind c.args.most c.in-Ok.n (vec_len c.args.into.now) start (g.R.Read.remaining c.args.file.now) (g.R.Read.remaining c.read_behind.new.file) c.args.into.now.items c.resize.new.self.items c.as_mut_slice.result.now c.read_behind.new.into c.truncate.new.self.items
    (search (rules, places)) c.len-start.ensures (rw (c.is_err.ensures.negation, c.if-is_err.false) at c.resize.ensures.items) c.as_mut_slice.ensures.value c.read_behind.ensures.front c.read_behind.ensures.size c.in-Ok.ensures.fits c.in-Ok.ensures.taken c.in-Ok.ensures.end
    (c.truncate.ensures.items ∙ ap (take (start + c.in-Ok.n)) (with_items_is c.resize.new.self c.read_behind.new.into (search (rules, places))))
