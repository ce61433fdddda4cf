-- Rounds with each id replaced by its text.
use Rattle.std.specs.Prelude.{map}
use Rattle.solv_base.specs.Pool.{Held}
use Rattle.solv_pool.specs.Prelude.{written_job}
use Rattle.solv_script.specs.Reads.{WrittenRound}
use Rattle.solv_script.specs.declared.scripts.Round.{Round}

-- a round, over the pool of its script
abbrev pub written_round : Held → Round → WrittenRound
written_round pool r = record { flags = r.flags; jobs = map (written_job pool) r.jobs; kinds = r.kinds; wanted = r.wanted }
