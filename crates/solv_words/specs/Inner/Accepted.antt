-- Names for parts of what words say.
use Rattle.std.specs.Prelude.{◌&&◌, ◌∷◌, Bool, List, Option, None, option_map, if◌then◌else◌}
use Rattle.std.specs.List.{list_all}
use Rattle.solv_words.specs.CommandLine.{source_of}
use Rattle.solv_words.specs.Inner.ByKinds.{Argument, file, seed, command_by, command_from, is_each_once, is_in_range, number_by, value_of}
use Rattle.solv_words.specs.declared.command_line.Command.{Command}
use Rattle.solv_words.specs.declared.command_line.Output.{Output}

-- an argument in front of others, where there are these
abbrev pub with_argument : Argument → Option (List Argument) → Option (List Argument)
with_argument a = option_map (λ behind. a ∷ behind)

-- no two arguments give the same, and each has its range
abbrev pub is_accepted : List Argument → Bool
is_accepted arguments = is_each_once arguments && list_all is_in_range arguments

-- the command of arguments that ask for this output
abbrev pub command_for : List Argument → Output → Option Command
command_for arguments output = option_map (command_from arguments output) (source_of output (value_of file arguments) (number_by seed arguments))

-- the command of arguments, where they are accepted
abbrev pub command_if_accepted : List Argument → Option Command
command_if_accepted arguments = if is_accepted arguments then command_by arguments else None
