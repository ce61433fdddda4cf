use Rattle.solv_pool.specs.Prelude.{catalog_of}
use Rattle.solv_list.proofs.Answers.{ok_map}
use Rattle.solv_clean.proofs.Joined.{supplements_none}
use Rattle.solv_clean.proofs.supplementing.supplements_in.Goals as goal

pub returns-then-not-has_supplements : goal.returns-then-not-has_supplements
returns-then-not-has_supplements c =
    ok_map _ _ c.new.result
    (λ graph none. supplements_none (catalog_of c.args.members.now.task.now) c.args.members.now.in_set.now graph c.args.members.now.each none (c.has_supplements.ensures c.if-not-has_supplements.true)) c.new.ensures.none
