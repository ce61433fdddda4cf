use Rattle.std.proofs.Common.{◌≡◌, drop}
use Rattle.solv_pool.specs.Prelude.{catalog_of}
use Rattle.solv_answers.specs.Answers.{first_limit}
use Rattle.solv_answers.specs.Inner.Fronts.{MayGoOn}
use Rattle.solv_script.specs.Rounds.{tasks}
use Rattle.solv_rounds.proofs.FirstLimits.{later_tasks}
use Rattle.solv_rounds.specs.Inner.Fronts.{IsPreparedAt}
use Rattle.solv_rounds.proofs.limits.prepare_in_turn.Given as goal

abbrev pub invariant-loop-place : goal.invariant-loop-place
invariant-loop-place l = record {
  script : l.script ≡ l.fn.script;
  so_far : first_limit (drop l.place (later_tasks l.fn.script)) ≡ first_limit (later_tasks l.fn.script);
  held : IsPreparedAt (tasks l.fn.script) l.place l.prepared;
  goes_on : MayGoOn (catalog_of l.fn.script.task) l.prepared;
}
