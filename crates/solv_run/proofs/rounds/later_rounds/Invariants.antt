use Rattle.std.proofs.Common.{◌≡◌, ◌≤◌, drop, false, map, true}
use Rattle.solv_pool.specs.Prelude.{catalog_of}
use Rattle.solv_answers.specs.Answers.{first_limit}
use Rattle.solv_answers.specs.Inner.Fronts.{MayGoOn}
use Rattle.solv_rounds.proofs.FirstLimits.{later_tasks}
use Rattle.solv_script.specs.Rounds.{tasks, turn_of, turns, with_jobs_of}
use Rattle.solv_run.specs.Inner.Rounds.{AreAll, HasBegun}
use Rattle.solv_run.proofs.rounds.later_rounds.Given as goal

abbrev pub invariant-loop-place : goal.invariant-loop-place
invariant-loop-place l = record {
  script : l.script ≡ l.fn.script;
  goes_on : MayGoOn (catalog_of l.fn.script.task) l.prepared;
  left : l.begun.left ≤ 1000000;
  so_far : first_limit (drop l.place (later_tasks l.fn.script)) ≡ first_limit (later_tasks l.fn.script);
  calm : l.begun.spent ≡ false → HasBegun l.command (tasks l.fn.script) (turns l.fn.script) (drop l.place (map (with_jobs_of l.fn.script.task) l.fn.script.later)) (drop l.place (map (turn_of l.fn.script) l.fn.script.later)) l.begun;
  ended : l.begun.spent ≡ true → AreAll l.command (tasks l.fn.script) (turns l.fn.script) l.begun;
}
