-- What options ask for.
use Rattle.std.specs.Prelude.{ℕ, List, if◌then◌else◌}
use Rattle.solv_words.specs.declared.command_line.Command.{Command}
use Rattle.solv_words.specs.declared.command_line.Output.{Output}
use Rattle.solv_words.specs.declared.command_line.Output.TheVariants.{Lines, Proofs, Script}
use Rattle.solv_words.specs.declared.command_line.Source.TheVariants.{File}
use Rattle.gachuswi.specs.declared.asking.Options.{Options}

-- what is printed: proofs of the problems, or the script itself, or else result lines
abbrev pub asked_output : Options → Output
asked_output options = if options.proves then Proofs else (if options.writes then Script else Lines)

-- the command that asks for a run of the script of this name, with these options
abbrev pub asked : List ℕ → Options → Command
asked script options = record { shows = options.shows; budget = options.budget; output = asked_output options; source = File script }
