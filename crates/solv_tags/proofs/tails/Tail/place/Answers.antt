use Rattle.solv_tags.proofs.Noted.{first_place}
use Rattle.solv_tags.proofs.tails.Tail.place.Goals as goal

pub returns-clause-some : goal.returns-clause-some
returns-clause-some c = rw (← c.self.view_is) (first_place c.args.id c.self.inside.ids.keys c.get_index_of.result c.get_index_of.ensures.index)
