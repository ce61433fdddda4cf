-- The rounds of a script: flags and jobs of their own over the same packages.
use Rattle.std.specs.Prelude.{ℕ, ◌∷◌, List, Option, map}
use Rattle.solv_pool.specs.declared.tasks.Task.{Task}
use Rattle.solv_script.specs.declared.scripts.Kinds.{Kinds}
use Rattle.solv_script.specs.declared.scripts.Round.{Round}
use Rattle.solv_script.specs.declared.scripts.Script.{Script}

-- the first round of a script, which stands in its task and beside it
abbrev pub first_round : Script → Round
first_round script = record { flags = script.task.flags; jobs = script.task.jobs; kinds = script.kinds; wanted = script.wanted }

-- all rounds, in order
abbrev pub rounds : Script → List Round
rounds script = first_round script ∷ script.later

-- a task with the flags and jobs of a round
abbrev pub with_jobs_of : Task → Round → Task
with_jobs_of task r = record task { flags = r.flags; jobs = r.jobs }

-- the tasks that are solved, one for each round
abbrev pub tasks : Script → List Task
tasks script = map (with_jobs_of script.task) (rounds script)

-- a round over the packages of its script: the task that is solved, and what is printed and expected of its answer
pub record Turn : Type 0 where
  pub task : Task
  pub kinds : Kinds
  pub wanted : Option (List (List ℕ))

abbrev pub turn_of : Script → Round → Turn
turn_of script r = record { task = with_jobs_of script.task r; kinds = r.kinds; wanted = r.wanted }

-- all of them, in order
abbrev pub turns : Script → List Turn
turns script = map (turn_of script) (rounds script)
