use Rattle.std.proofs.Common.{◌∷◌, ◌++◌, map}
use Rattle.std.specs.Prelude.{codes}
use Rattle.solv_io.specs.JoinedWords.{joined}
use Rattle.solv_writing.specs.Inner.ScriptParts.{flag_words, result_lines}
use Rattle.solv_writing.proofs.PutLines.{round_put}
use Rattle.solv_writing.proofs.round_lines.put_round.Goals as goal

pub returns : goal.returns
returns c =
    round_put (joined (codes "solverflags" ∷ flag_words c.args.flags.now)) (map (λ job. codes "job " ++ job.text) c.args.jobs.now) (result_lines c.args.kinds.now c.args.wanted.now)
    c.args.into.now.items c.put_flags.new.into.items c.put_jobs.new.into.items c.put_results.new.into.items c.in_ok-put_flags.ensures c.in_ok-put_jobs.ensures c.in_ok-put_results.ensures
