use Rattle.std.proofs.Common.{◌≡◌, ◌∙◌, ap, drop, take, rules}
use Rattle.std.specs.Prelude.{remove}
use Rattle.std.specs.List.{list_all}
use Rattle.solv_list.proofs.Lists.{list_all_join, all_taken, all_dropped}
use Rattle.solv_remedy.proofs.showing.Sets.make_room.Goals as goal

pub returns : goal.returns
returns c = λ test all.
    let tables = c.args.self.now.tables.items in
    let left : c.remove.new.self.items ≡ remove tables 1 = search rules in
    ap (list_all test) left ∙ list_all_join test (take 1 tables) (drop 2 tables) (all_taken test 1 tables all) (all_dropped test 2 tables all)
