use Rattle.std.proofs.Common.{◌≡◌, length, arith, true}
use Rattle.std.specs.Prelude.{nat_lt}
use Rattle.std.proofs.lemmas.Bool.Decides.{nat_tests}
use Rattle.solv_tags.proofs.HandLines.{dependency_taken}
use Rattle.solv_tags.proofs.hand.take_dependency.Goals as goal

pub returns-in-Ok-add_entry-clause-ok : goal.returns-in-Ok-add_entry-clause-ok
returns-in-Ok-add_entry-clause-ok c =
    let small : nat_lt c.in-Ok.dep (length c.read_again.new.pool.nodes) ≡ true = grind (arith, nat_tests, c.in-Ok.ensures.within) in
    rw c.in-Ok-add_entry.ensures.added
    (dependency_taken c.args.pool.now c.read_again.new.pool c.args.hand.now c.args.tag c.args.text.now c.in-Ok.dep c.read_again.ensures.grows c.requires.of
    (rw (← c.place_of.ensures) c.in-Ok.ensures.read) (rw (← c.place_of.ensures) c.in-Ok.ensures.entered) small c.tells_apart.ensures.relations)
