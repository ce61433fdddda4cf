use Rattle.std.proofs.Common.{◌∙◌, ◌∷◌, [], refl, ap, true}
use Rattle.std.specs.List.{list_all}
use Rattle.std.proofs.lemmas.Bool.{and_from}
use Rattle.solv_list.proofs.Lists.{list_all_join}
use Rattle.solv_remedy.proofs.showing.Sets.put.Goals as goal

pub returns : goal.returns
returns c = λ test all one.
    ap (list_all test) c.in_ok-push.ensures.items ∙ list_all_join test c.make_room.new.self.tables.items (c.args.table ∷ []) (c.make_room.ensures test all) (and_from (test c.args.table) true one refl)
