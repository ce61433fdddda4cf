use Rattle.solv_pool.specs.Prelude.{catalog_of}
use Rattle.solv_answers.specs.Inner.Fronts.{front_rules}
use Rattle.solv_answers.proofs.Shared.{begins_empty}
use Rattle.solv_answers.proofs.preparing.begun_anew.Goals as goal

pub returns : goal.returns
returns c = record {
  front = c.in_ok-rules.ensures;
  rules = c.len.ensures;
  sets = c.len-2.ensures;
  draft = begins_empty (catalog_of c.args.task.now) (front_rules (catalog_of c.args.task.now) c.args.task.now.flags c.args.marks.now) c.empty-draft.result
      c.empty-draft.ensures.draft c.empty-draft.ensures.rules c.empty-draft.ensures.owners c.empty-draft.ensures.spans;
}
