-- Which flags an action takes.
use Rattle.std.specs.Prelude.{Bool, true, false}
use Rattle.solv_pool.specs.declared.jobs.Action.{Action}
use Rattle.solv_pool.specs.declared.jobs.Action.TheVariants.{Install, Update}

-- may the best be forced for this action?
abbrev pub takes_forcebest : Action → Bool
takes_forcebest Install = true
takes_forcebest Update = true
takes_forcebest other = false
