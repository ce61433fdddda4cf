use Rattle.solv_pool.specs.Prelude.{catalog_of}
use Rattle.solv_clean.proofs.Walked.{needed_are}
use Rattle.solv_clean.proofs.searching.search.Goals as goal

pub returns : goal.returns
returns c =
    needed_are (catalog_of c.args.members.now.task.now) c.args.members.now.in_set.now c.args.members.now.each c.reached_is_where_walks_lead.ensures c.args.starts.now c.requires.inside c.args.may.now c.args.supplements.now c.requires.may c.requires.supplements c.go_on.new.marks c.in_ok-go_on.ensures
