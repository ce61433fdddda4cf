use Rattle.std.proofs.Common.{◌≡◌, length, arith, true}
use Rattle.std.specs.Prelude.{nat_lt}
use Rattle.std.proofs.lemmas.Bool.Decides.{nat_tests}
use Rattle.solv_tags.proofs.HandLines.{path_nothing, path_read}
use Rattle.solv_tags.proofs.hand.take_path.Goals as goal

pub returns-then-is_empty-clause-ok : goal.returns-then-is_empty-clause-ok
returns-then-is_empty-clause-ok c =
    let none : length c.args.text.now ≡ 0 = grind (arith, nat_tests, c.is_empty.ensures, c.if-is_empty.true) in
    path_nothing c.args.pool.now c.args.hand.now c.args.text.now none c.requires.of

pub returns-in-Ok-add_path-clause-ok : goal.returns-in-Ok-add_path-clause-ok
returns-in-Ok-add_path-clause-ok c =
    let some : length c.args.text.now ≡ 0 → ⊥ = grind (arith, nat_tests, c.is_empty.ensures, c.if-is_empty.false) in
    let low : nat_lt c.in-Ok.id (length c.enter.new.pool.names) ≡ true = grind (arith, nat_tests, c.in-Ok.ensures.within) in
    rw c.in-Ok-add_path.ensures.added
    (path_read c.args.pool.now c.enter.new.pool c.args.hand.now c.args.text.now c.in-Ok.id some c.enter.ensures.grows c.requires.of c.in-Ok.ensures.entered c.in-Ok.ensures.text c.in-Ok.ensures.within low c.tells_apart.ensures.names)
